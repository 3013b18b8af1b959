use Rattle.std.proofs.Common.{◌≡◌, Some, sym, ◌∙◌, subst, arith}
use Rattle.std.proofs.lemmas.List.{length-map}
use Rattle.std.proofs.lemmas.List.Elements.{All-contains}
use Rattle.std.proofs.lemmas.Option.{slice_get_within}
use Rattle.std.proofs.lemmas.Result.{err_from_is_err_and}
use Rattle.std.specs.List.{slice_get}
use Rattle.scope_sets.specs.declared.scopes.TheConstants.{LONGEST_SCOPE}
use Rattle.role_expand.specs.Roles.{RoleData, HasRoleForm, Gives, role_data}
use Rattle.role_expand.specs.Growth.{Gains}
use Rattle.role_expand.specs.Known.{known_data, AllFound}
use Rattle.role_expand.specs.declared.roles.KnownRole.{KnownRole}
use Rattle.role_expand.specs.declared.expansion.TheConstants.{MOST_SCOPES}
use Rattle.role_expand.proofs.ClosureLemmas.{mapped_at}
use Rattle.role_expand.proofs.PlainLemmas.{AreGiven-set}
use Rattle.role_expand.proofs.GrowthLemmas.{gains_none, gains_same, fails_wider}
use Rattle.role_expand.proofs.PlaceLemmas.{get_mapped}
use Rattle.role_expand.proofs.expansion.add_given_at.Goals as goal

same_some : {r s : RoleData} → Some r ≡ Some s → r ≡ s
same_some e = cc

abbrev data_of : KnownRole → RoleData
data_of k = role_data k.role

pub add_given-requires-clause-form : goal.add_given-requires-clause-form
add_given-requires-clause-form c =
    All-contains (HasRoleForm LONGEST_SCOPE) (known_data c.args.roles.now) (role_data c.index-roles-place.result.role) c.requires.forms
    (mapped_at data_of MOST_SCOPES c.args.roles.now c.args.place c.index-roles-place.result c.args.held.now (omega (arith, c.if-place-roles.true)) c.index-roles-place.is)

pub add_given-requires-clause-marked : goal.add_given-requires-clause-marked
add_given-requires-clause-marked c =
    let known : KnownRole = c.index-roles-place.result in
    λ e. subst (λ (k : KnownRole). AllFound k.plain c.args.found.now) (sym c.index-roles-place.is) (c.requires.marked c.args.place known (omega (arith, c.if-place-roles.true)) (sym c.has-mark.ensures ∙ e))

pub returns-else-place-roles : goal.returns-else-place-roles
returns-else-place-roles c = (gains_none MOST_SCOPES _ _ (λ s h. absurd (omega (arith, slice_get_within (known_data c.args.roles.now) c.args.place h.0 h.1, length-map c.args.roles.now data_of, c.if-place-roles.false))), c.requires.marked)

pub returns-in_err-done : goal.returns-in_err-done
returns-in_err-done c =
    let role : RoleData = role_data c.index-roles-place.result.role in
    let at : slice_get (known_data c.args.roles.now) c.args.place ≡ Some role = get_mapped data_of c.args.roles.now c.args.place c.index-roles-place.result (omega (arith, c.if-place-roles.true)) c.index-roles-place.is in
    let p = err_from_is_err_and c.from_residual.result c.from_residual.ensures.1 in
    rw (p.1, p.2) (fails_wider MOST_SCOPES _ _ _ _ c.in_err-done.ensures (λ s h. (role, at, h)))

pub returns-in_ok-done : goal.returns-in_ok-done
returns-in_ok-done c =
    let known : KnownRole = c.index-roles-place.result in
    let role : RoleData = role_data known.role in
    let at : slice_get (known_data c.args.roles.now) c.args.place ≡ Some role = get_mapped data_of c.args.roles.now c.args.place known (omega (arith, c.if-place-roles.true)) c.index-roles-place.is in
    let g : Gains MOST_SCOPES (Gives role c.args.held.now) c.args.found.now c.add_given.new.found = c.in_ok-done.ensures.0 in (
      gains_same MOST_SCOPES _ _ _ _ g (λ s h. (role, at, h)) (λ s h. subst (λ (r : RoleData). Gives r c.args.held.now s) (same_some (sym h.1 ∙ at)) h.2),
      rw c.set.ensures (AreGiven-set c.args.roles.now c.args.given.now c.args.found.now c.add_given.new.found g.since g.is c.requires.marked c.args.place known c.in_ok-done.done c.index-roles-place.is c.in_ok-done.ensures.1),
    )
