-- The record of the tick is kept where something is due.
use Rattle.std.proofs.Common.{List, ℕ, sym, subst}
use Rattle.farm_record.specs.Records.{IsRecord, tick_at}
use Rattle.farm_core.proofs.RecordLemmas.{KeepsRecords-none, KeepsRecords-one, KeepsRecords-failed}
use Rattle.farm_core.proofs.asking.keep_due.Goals as goal

pub returns-then-not-due-clause-keeps : goal.returns-then-not-due-clause-keeps
returns-then-not-due-clause-keeps g c = λ tells. KeepsRecords-none (g.D.Disk.contents c.args.records.now.disk) c.args.records.now.end

pub returns-in-Ok-clause-keeps : goal.returns-in-Ok-clause-keeps
returns-in-Ok-clause-keeps g c = λ tells.
    let is = subst (λ (b : List ℕ). IsRecord (tick_at c.args.moment) b) (sym c.frame_tick.ensures) c.tick_record.ensures in
    KeepsRecords-one _ _ _ _ (tick_at c.args.moment) _ is (c.in-Ok.ensures.kept tells)

pub returns-in-Err-clause-keeps : goal.returns-in-Err-clause-keeps
returns-in-Err-clause-keeps g c = λ tells.
    let is = subst (λ (b : List ℕ). IsRecord (tick_at c.args.moment) b) (sym c.frame_tick.ensures) c.tick_record.ensures in
    KeepsRecords-failed _ _ _ _ (tick_at c.args.moment) _ is (c.in-Err.ensures.failed tells)
