use Rattle.std.proofs.Common.{◌<◌, List, [], ℕ, Contains, length, get_or, refl, sym, subst, inl, inr, arith}
use Rattle.std.proofs.lemmas.Bool.{both_ways, false≢true}
use Rattle.std.proofs.lemmas.List.{take_all, get_or_default}
use Rattle.std.proofs.lemmas.List.Elements.{All-contains}
use Rattle.scope_sets.specs.declared.scopes.TheConstants.{LONGEST_SCOPE}
use Rattle.role_expand.specs.Roles.{roles_data, role_data, HasRoleForm}
use Rattle.role_expand.specs.Cycles.{EdgeAt}
use Rattle.role_expand.proofs.ClosureLemmas.{mapped_at}
use Rattle.role_expand.proofs.EdgeLemmas.{EdgeAt-from_roles, roles_from_EdgeAt}
use Rattle.role_expand.proofs.GrowthLemmas.{Contains-take_more}
use Rattle.role_expand.proofs.cycles.leads_into.Goals as goal

pub has_edge-requires : goal.has_edge-requires
has_edge-requires c =
    All-contains (HasRoleForm LONGEST_SCOPE) (roles_data c.args.roles.now) (role_data c.index-roles-from.result) c.requires.forms
    (mapped_at role_data 0 c.args.roles.now c.args.from c.index-roles-from.result [] c.requires.from_in c.index-roles-from.is)

pub returns-then-has_edge : goal.returns-then-has_edge
returns-then-has_edge c =
    let i : ℕ = c.loop-to.to-index in
    let to : ℕ = get_or c.args.level.now i 0 in
    let lt : i < length c.args.level.now = omega arith in
    let edge : EdgeAt (roles_data c.args.roles.now) c.args.from to = EdgeAt-from_roles role_data c.args.roles.now c.args.from to c.index-roles-from.result c.index-roles-to.result
    c.requires.from_in c.index-roles-from.is (c.requires.level_in i 0 lt) c.index-roles-to.is (c.has_edge.ensures.0 c.if-has_edge.true) in
    (λ _. (to, (i, lt, get_or_default c.args.level.now i to 0 lt), edge), λ _. refl)

pub loop-to-preserved : goal.loop-to-preserved
loop-to-preserved c = λ to h e.
    let i : ℕ = c.loop-to.to-index in
    let here : ℕ = get_or c.args.level.now i 0 in
    let lt : i < length c.args.level.now = omega arith in
    (elim (Contains-take_more i c.args.level.now here to lt (sym (get_or_default c.args.level.now i here 0 lt)) h) [
      | inl before ↦ c.loop-to.invariant to before e
      | inr same ↦ both_ways _ c.if-has_edge.false (c.has_edge.ensures.1
          (roles_from_EdgeAt role_data c.args.roles.now c.args.from here c.index-roles-from.result c.index-roles-to.result c.requires.from_in c.index-roles-from.is (c.requires.level_in i 0 lt) c.index-roles-to.is
          (subst (λ (k : ℕ). EdgeAt (roles_data c.args.roles.now) c.args.from k) (sym same) e)))
    ])

pub returns : goal.returns
returns c = (
  λ t. absurd (false≢true t),
  λ h. absurd (c.loop-to.invariant h.0 (subst (λ (t : List ℕ). Contains t h.0) (sym (take_all c.loop-to.to-index c.args.level.now (omega arith))) h.1) h.2),
)
