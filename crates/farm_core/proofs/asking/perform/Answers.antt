-- A call that is planned is finished; where memory ran out, only its moment is reached.
use Rattle.std.proofs.Common.{refl, sym, subst, arith, rules}
use Rattle.task_index.specs.Contents.{Contents}
use Rattle.farm_machine.specs.Planned.{IsPlanOf, IsPlanOn}
use Rattle.farm_core.proofs.AskLemmas.{performs-halted, performs-from, performs-out}
use Rattle.farm_core.proofs.RecordLemmas.{KeepsRecords-none}
use Rattle.farm_core.proofs.asking.perform.Goals as goal

pub finish-requires-clause-planned : goal.finish-requires-clause-planned
finish-requires-clause-planned g c =
    subst (λ (t : Contents). IsPlanOn t c.in-Ok.plan) (sym c.in-Ok.ensures.same) (c.args.config.now, c.args.question, c.in-Ok.ensures.planned)

pub returns-in-Ok-clause-performs : goal.returns-in-Ok-clause-performs
returns-in-Ok-clause-performs g c =
    let same = c.in-Ok.ensures.same in
    let planned = subst (λ (t : Contents). IsPlanOf c.args.config.now t c.args.question c.in-Ok.plan) (sym same) c.in-Ok.ensures.planned in
    performs-from _ _ _ _ _ _ _ _ _ _ _ _ _ _ same (c.finish.ensures.performs c.args.config.now c.args.question planned)

pub returns-in-Err-clause-performs : goal.returns-in-Err-clause-performs
returns-in-Err-clause-performs g c =
    let value = c.moment_of-moment.ensures.value in
    let told = c.moment_of-moment.ensures.told in
    performs-halted _ _ _ _ _ _ _ _ _ _ _ _ _ _ c.requires.works
    (performs-out g.D.Disk.tells c.args.config.now c.args.tables.now c.reach.new.self c.args.question _ _ _ _ _ _
    (record { at_work = refl; told = omega arith; nothing_due = c.requires.idle; became = tt }) (search rules)
    (λ tells. KeepsRecords-none (g.D.Disk.contents c.args.records.now.disk) c.args.records.now.end) (omega arith))
