-- Where nothing is due, only the last moment changes; it is the greater of the two.
use Rattle.std.proofs.Common.{◌≡◌, ℕ, max, ap, ◌∙◌, arith}
use Rattle.task_index.specs.Contents.{Contents}
use Rattle.task_index.specs.Due.{advance}
use Rattle.task_index.proofs.AdvanceLemmas.{advance-idle}
use Rattle.farm_machine.proofs.tables.Tables.reach.Goals as goal

pub returns : goal.returns
returns c =
    let old : Contents = c.args.self.now in
    let moment = c.args.moment in
    let ticked : c.tick.new.self ≡ advance old moment = rw (← c.self.view_is) c.tick.ensures in
    let later : max old.last moment ≡ moment = omega (arith, c.requires.later) in
    ticked ∙ (advance-idle old moment c.requires.nothing_due ∙ ap (λ (last : ℕ). record old { last = last }) later)
