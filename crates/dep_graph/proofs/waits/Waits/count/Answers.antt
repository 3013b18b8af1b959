use Rattle.std.proofs.Common.{◌≡◌, ◌∙◌, ◌^◌, ◌<◌, ℕ, List, true, slice_set, slice_index, refl, ap, subst, sym}
use Rattle.std.proofs.lemmas.Grind.{get_or_default_zero}
use Rattle.dep_graph.specs.declared.node.Requires.{Requires}
use Rattle.dep_graph.specs.Tables.{IsMoved}
use Rattle.dep_graph.proofs.waits.Waits.count.Goals as goal

pub counted-lacking-requires : goal.counted-lacking-requires
counted-lacking-requires c =
    let step = c.args.step in
    let items = c.args.self.now.lacking.items in
    let held : c.index.result.now ≡ slice_index items c.args.place = c.index.ensures ∙ get_or_default_zero items c.args.place c.index.result.now c.requires.count in
    subst (λ h. (n : ℕ) × (n < 2 ^ 63) × IsMoved true c.needs.result step.before step.now h n) (sym held)
    (subst (λ (needs : Requires). (n : ℕ) × (n < 2 ^ 63) × IsMoved true needs step.before step.now (slice_index items c.args.place) n) (sym c.needs.ensures) c.requires.fits)

pub returns-clause-counted : goal.returns-clause-counted
returns-clause-counted c =
    let step = c.args.step in
    let items = c.args.self.now.lacking.items in
    let n = c.counted-lacking.result in
    let held : c.index.result.now ≡ slice_index items c.args.place = c.index.ensures ∙ get_or_default_zero items c.args.place c.index.result.now c.requires.count in
    let told : IsMoved true c.args.task.now.needs step.before step.now c.index.result.now n = subst (λ (needs : Requires). IsMoved true needs step.before step.now c.index.result.now n) c.needs.ensures c.counted-lacking.ensures in
    let moved : IsMoved true c.args.task.now.needs step.before step.now (slice_index items c.args.place) n = subst (λ h. IsMoved true c.args.task.now.needs step.before step.now h n) held told in
    (n, moved, refl {A = List ℕ}, c.put.ensures ∙ ap (slice_set c.args.self.now.ready c.args.place) c.shown.ensures)
