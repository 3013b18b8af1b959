use Rattle.std.proofs.Common.{◌≡◌, ◌∷◌, ◌++◌, [], ℕ, List, sym, ◌∙◌, ap, subst, arith}
use Rattle.std.proofs.lemmas.List.{append_assoc}
use Rattle.role_expand.specs.Roles.{RoleData, roles_data}
use Rattle.role_expand.specs.Levels.{IsLeastWalk}
use Rattle.role_expand.proofs.LevelLemmas.{next_there, least_more, steps_at}
use Rattle.role_expand.proofs.cycles.cycle_from.Goals as goal

pub first_toward-at-requires-clause-there : goal.first_toward-at-requires-clause-there
first_toward-at-requires-clause-there c = next_there (roles_data c.args.roles.now) c.args.place c.args.steps.now c.requires.numbers c.loop-left.at c.loop-left.left c.loop-left.invariant.0 (omega arith)

pub loop-left-preserved : goal.loop-left-preserved
loop-left-preserved c =
    let roles : List RoleData = roles_data c.args.roles.now in
    let place : ℕ = c.args.place in
    let steps : List ℕ = c.args.steps.now in
    let at : ℕ = c.loop-left.at in
    let to : ℕ = c.first_toward-at.result in
    let left : ℕ = c.loop-left.left in
    let front : List ℕ = c.loop-left.invariant.1.0 in
    let toward = c.first_toward-at.ensures in
    let items : c.push.new.self.items ≡ place ∷ (front ++ to ∷ []) = c.in_ok-push.ensures.items ∙ ap (λ (t : List ℕ). t ++ to ∷ []) c.loop-left.invariant.1.1 in (
      omega (arith, toward.number),
      (
        front ++ to ∷ [],
        items,
        λ rest r.
            subst (λ (t : List ℕ). IsLeastWalk roles place place t) (sym (append_assoc front (to ∷ []) rest))
            (c.loop-left.invariant.1.2 (to ∷ rest)
            (least_more roles place steps c.requires.numbers at to left rest c.loop-left.invariant.0 toward.number toward.edge toward.first
            (omega (arith, steps_at roles place steps c.requires.numbers to rest r, toward.number)) r)),
      ),
    )
