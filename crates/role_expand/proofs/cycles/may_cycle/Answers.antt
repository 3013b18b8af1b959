use Rattle.std.proofs.Common.{◌≡◌, ◌≤◌, List, ℕ, zero, suc, length, get_or, replicate, subst, arith, rules}
use Rattle.std.proofs.lemmas.List.{length-map}
use Rattle.role_expand.specs.Roles.{RoleData, role_data, roles_data}
use Rattle.role_expand.proofs.LevelLemmas.{IsWalk-within}
use Rattle.role_expand.proofs.RankLemmas.{acyclic_from_falls}
use Rattle.role_expand.proofs.cycles.may_cycle.Goals as goal

pub returns : goal.returns
returns c = λ i rest none.
    let roles : List RoleData = roles_data c.args.roles.now in
    let k = rw (c.in-Some.is, c.deref-4.ensures.value, c.deref-6.ensures.value) at c.in_ok-slack.ensures in
    acyclic_from_falls roles c.in_ok-marks.marks.items c.in_ok-ranks.ranks.items c.in-Some.slack.items (omega (arith, length-map c.args.roles.now role_data)) c.in_ok-marks.ensures.0 k.0 k.1 i rest none

ones : (n i : ℕ) → let xs : List ℕ = replicate n 1 in get_or xs i 0 ≡ 0 → n ≤ i
ones zero i e = omega arith
ones (suc n) zero e = absurd (omega (arith, e))
ones (suc n) (suc i) e = omega (arith, ones n i e)

pub returns-2 : goal.returns-2
returns-2 c = λ i rest none h.
    let roles : List RoleData = roles_data c.args.roles.now in
    let n : ℕ = length c.args.roles.now in
    let may : c.in_ok-may.may.items ≡ replicate n 1 = search rules in
    omega (arith, IsWalk-within roles i rest i h, length-map c.args.roles.now role_data, ones n i (subst (λ (xs : List ℕ). get_or xs i 0 ≡ 0) may none))
