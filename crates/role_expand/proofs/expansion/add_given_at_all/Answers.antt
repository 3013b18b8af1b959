use Rattle.std.proofs.Common.{ℕ, ◌<◌, length, get_or, arith}
use Rattle.std.proofs.lemmas.List.{get_or_default}
use Rattle.std.proofs.lemmas.Result.{err_from_is_err_and}
use Rattle.role_expand.specs.Known.{known_data}
use Rattle.role_expand.specs.declared.expansion.TheConstants.{MOST_SCOPES}
use Rattle.role_expand.proofs.GrantLemmas.{gains_place, fails_place}
use Rattle.role_expand.proofs.expansion.add_given_at_all.Goals as goal

pub returns-in_err-add_given_at : goal.returns-in_err-add_given_at
returns-in_err-add_given_at c =
    let p = err_from_is_err_and c.from_residual.result c.from_residual.ensures.1 in
    let places = c.args.places.now in
    let i : ℕ = c.loop-place.place-index in
    let lt : i < length places = omega (arith, c.loop-place-test.true) in
    rw (p.1, p.2)
    (fails_place MOST_SCOPES (known_data c.args.roles.now) c.args.held.now places i (get_or places i 0) lt (get_or_default places i 0 (get_or places i 0) lt) _ _ _ c.loop-place.invariant.gained c.in_err-add_given_at.ensures)

pub loop-place-preserved : goal.loop-place-preserved
loop-place-preserved c =
    let places = c.args.places.now in
    let i : ℕ = c.loop-place.place-index in
    let lt : i < length places = omega (arith, c.loop-place-test.true) in
    record {
      gained = gains_place MOST_SCOPES (known_data c.args.roles.now) c.args.held.now places i (get_or places i 0) lt (get_or_default places i 0 (get_or places i 0) lt) _ _ _ c.loop-place.invariant.gained c.in_ok-add_given_at.ensures.0;
      marked = c.in_ok-add_given_at.ensures.1;
    }
