-- A new desk keeps its rule.
use Rattle.std.proofs.Common.{◌≡◌, List, [], ◌∷◌, ◌++◌, subst, sym, ◌∙◌}
use Rattle.atomic_table.specs.Table.{opening}
use Rattle.shared_desk.specs.Views.{newcomer}
use Rattle.shared_desk.specs.Rule.{IsKept}
use Rattle.shared_desk.proofs.Kept.{opens}
use Rattle.shared_desk.proofs.shared.Shared.new.Goals as goal

pub new-requires : goal.new-requires
new-requires g c =
    let first = c.of-about.result.value in
    let slots : c.push.new.self.items ≡ first ∷ [] = c.in_default.ensures.items ∙ (λ i. c.new-slots.ensures.items i ++ sym c.of-about.ensures i ∷ []) in
    subst (λ (xs : List g.row.O.Denot). IsKept g.O.Law.Machine.rules g.O.Law.Machine.start g.O.Object.state g.O.Object.holds first (opening (0 ∷ 0 ∷ []) xs (newcomer first))) (sym slots)
    (opens g.O.Law.Machine.rules g.O.Law.Machine.start g.O.Object.state g.O.Object.holds first)
