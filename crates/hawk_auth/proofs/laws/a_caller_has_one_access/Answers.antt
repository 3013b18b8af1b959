use Rattle.hawk_auth.proofs.OneAccessLemmas.{access_once}
use Rattle.hawk_auth.proofs.laws.a_caller_has_one_access.Goals as goal

pub returns : goal.returns
returns c = λ clients roles head now a b book h k.
    access_once c.a_text_is_of_one_document.ensures c.the_closure_is_one.ensures c.a_closure_is_not_too_many.ensures roles clients head now book a b h k
