-- Where there is no change, nothing is kept.
use Rattle.std.proofs.Common.{◌≡◌, [], Option, None, sym, subst}
use Rattle.std.specs.Option.{option_to_list}
use Rattle.task_types.specs.declared.change.Change.{Change}
use Rattle.farm_core.specs.Records.{KeepsRecords}
use Rattle.farm_core.proofs.RecordLemmas.{KeepsRecords-none}
use Rattle.farm_core.proofs.asking.keep_change.Goals as goal

pub returns-in-Ok-None-clause-keeps : goal.returns-in-Ok-None-clause-keeps
returns-in-Ok-None-clause-keeps g c = λ tells.
    let disk = g.D.Disk.contents c.args.records.now.disk in
    let end = c.args.records.now.end in
    let none : c.args.plan.now.judgement.change ≡ None = rw c.in-Ok-None.field-0-is at c.in-Ok-None.ensures in
    subst (λ (o : Option Change). KeepsRecords disk end disk end (option_to_list o) []) (sym none) (KeepsRecords-none disk end)
