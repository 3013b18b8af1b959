-- What a hook is triggered with: the object that a document is.
use Rattle.std.proofs.Common.{◌≡◌, ℕ, List, refl, sym, ap, ◌∙◌, subst}
use Rattle.farm_text.specs.Document.{Document, Members, object}
use Rattle.task_types.specs.Maps.{members_in}
use Rattle.api_routes.specs.Bodies.{IsDocument}

-- a document that is an object is that of its members
pub object-is : (d : Document) (members : Members) → d ≡ object members → d ≡ object (members_in d)
object-is d members is = rw is refl

-- the body is of the object that its document is
pub payload-is : (body : List ℕ) (d : Document) (payload : Members) → IsDocument body d → d ≡ object (members_in d) → payload ≡ members_in d → IsDocument body (object payload)
payload-is body d payload said is same = subst (IsDocument body) (is ∙ ap (λ (members : Members). object members) (sym same)) said
