use Rattle.std.proofs.Common.{◌≡◌, [], ℕ, List, length, get_or, replicate, sym, ◌∙◌, subst, arith, rules}
use Rattle.std.proofs.lemmas.Bool.{eqb-true, eqb-false}
use Rattle.std.proofs.lemmas.List.{length-map, length-replicate, nil_from_length}
use Rattle.std.proofs.lemmas.List.Elements.{Contains-get_or}
use Rattle.std.specs.List.{Contains}
use Rattle.role_expand.specs.Roles.{roles_data, role_data}
use Rattle.role_expand.specs.Levels.{IsNextLevel}
use Rattle.role_expand.proofs.LevelLemmas.{AreStepsBelow, below_begin, below_next, steps_end, level_within, zeros-replicate, replicate_zero}
use Rattle.role_expand.proofs.cycles.steps_to.Goals as goal

pub levels-init : goal.levels-init
levels-init c =
    let roles = c.args.roles.now in
    let n : ℕ = length roles in
    let len : length (roles_data roles) ≡ n = length-map roles role_data in
    let steps : c.in_ok-steps.steps.items ≡ replicate n 0 = search rules in
    let zs : List ℕ = replicate n 0 in
    rw (steps, c.in_ok-level.ensures.items)
    (below_begin (roles_data roles) c.args.target zs (length-replicate n 0 ∙ sym len) (replicate_zero n), omega (arith, zeros-replicate n))

pub next_level-requires-clause-level_in : goal.next_level-requires-clause-level_in
next_level-requires-clause-level_in c = λ k d lt.
    let roles = c.args.roles.now in
    let len : length (roles_data roles) ≡ length roles = length-map roles role_data in
    let all = level_within (roles_data roles) c.args.target c.levels.count c.levels.steps.items c.levels.level.items c.levels.invariant.0 (omega (arith, len, c.requires.target_in)) in
    omega (arith, len, all (get_or c.deref.result.now k d) (subst (λ (t : List ℕ). Contains t (get_or c.deref.result.now k d)) c.deref.ensures.value (Contains-get_or c.deref.result.now k d lt)))

pub overflow_add-count : goal.overflow_add-count
overflow_add-count c =
    let len : length (roles_data c.args.roles.now) ≡ length c.args.roles.now = length-map c.args.roles.now role_data in
    omega (arith, c.levels.invariant.1, c.levels.invariant.0.len, len, c.levels.steps.small, c.levels.steps.ok.0)

pub levels-preserved : goal.levels-preserved
levels-preserved c =
    let roles = c.args.roles.now in
    let len : length (roles_data roles) ≡ length roles = length-map roles role_data in
    let p : IsNextLevel (roles_data roles) c.levels.level.items c.levels.count (length (roles_data roles)) c.levels.steps.items c.next_level.new.steps.items c.in_ok-level-2.level.items = rw (len, ← c.deref.ensures.value) c.in_ok-level-2.ensures in
    let some : c.levels.level.len ≡ 0 → ⊥ = eqb-false _ _ (sym c.is_empty.ensures ∙ c.levels-test.true) in (
      below_next (roles_data roles) c.args.target c.levels.count c.levels.steps.items c.next_level.new.steps.items c.levels.level.items c.in_ok-level-2.level.items c.levels.invariant.0 p,
      omega (arith, c.levels.invariant.1, p.left, some, c.levels.level.ok.0),
    )

pub returns : goal.returns
returns c =
    let none : c.levels.level.len ≡ 0 = eqb-true _ _ (sym c.is_empty.ensures ∙ c.levels-test.false) in
    let empty : c.levels.level.items ≡ [] = nil_from_length _ (omega (arith, c.levels.level.ok.0)) in
    steps_end (roles_data c.args.roles.now) c.args.target c.levels.count c.levels.steps.items (subst (λ (t : List ℕ). AreStepsBelow (roles_data c.args.roles.now) c.args.target c.levels.count c.levels.steps.items t) empty c.levels.invariant.0)
