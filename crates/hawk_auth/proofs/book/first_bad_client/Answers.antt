use Rattle.std.proofs.Common.{List, arith, subst}
use Rattle.std.proofs.lemmas.Bool.{both_ways}
use Rattle.std.specs.List.{All}
use Rattle.hawk_auth.specs.Clients.{ClientData, client_data, HasClientForm}
use Rattle.hawk_auth.proofs.PlaceLemmas.{get_mapped, All_more, whole}
use Rattle.hawk_auth.proofs.book.first_bad_client.Goals as goal

pub returns-then-not-has_client_form : goal.returns-then-not-has_client_form
returns-then-not-has_client_form c = record {
  client = client_data c.index-clients-place.result;
  at = get_mapped client_data c.args.clients.now c.loop-place.place c.index-clients-place.result (omega arith) c.index-clients-place.is;
  bad = λ h. both_ways _ c.if-not-has_client_form.true (c.has_client_form.ensures.1 h);
  before = c.loop-place.invariant;
}

pub loop-place-preserved : goal.loop-place-preserved
loop-place-preserved c =
    All_more client_data c.args.clients.now c.loop-place.place c.index-clients-place.result (omega arith) c.index-clients-place.is HasClientForm c.loop-place.invariant (c.has_client_form.ensures.0 c.if-not-has_client_form.false)

pub returns : goal.returns
returns c = subst (λ (t : List ClientData). All HasClientForm t) (whole client_data c.args.clients.now c.loop-place.place (omega arith)) c.loop-place.invariant
