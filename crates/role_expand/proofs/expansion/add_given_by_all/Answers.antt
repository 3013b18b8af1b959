use Rattle.std.proofs.Common.{◌≡◌, ℕ, List}
use Rattle.role_expand.specs.Known.{known_data}
use Rattle.role_expand.specs.declared.expansion.TheConstants.{MOST_SCOPES}
use Rattle.std.proofs.lemmas.Result.{MatchResult-weaker}
use Rattle.role_expand.proofs.GrowthLemmas.{gains_same, fails_wider}
use Rattle.role_expand.proofs.GrantLemmas.{given_from_some, some_from_given}
use Rattle.role_expand.proofs.expansion.add_given_by_all.Goals as goal

pub returns : goal.returns
returns c =
    let roles = known_data c.args.roles.now in
    let held : List ℕ = c.args.held.now in
    let places : List ℕ = c.in_ok-places.places.items in
    let list : c.deref.result.now ≡ places = c.deref.ensures.value in
    MatchResult-weaker c.add_given_at_all.result (rw list at c.add_given_at_all.ensures)
    (λ _ g. (gains_same MOST_SCOPES _ _ _ _ g.0 (given_from_some roles held places) (some_from_given roles held places c.args.index.now c.requires.keys c.in_ok-places.ensures), g.1))
    (λ fault k. fails_wider MOST_SCOPES _ _ _ fault k (given_from_some roles held places))
