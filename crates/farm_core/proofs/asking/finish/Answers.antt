-- A planned call whose record is kept is finished; where memory runs out only its moment is reached.
use Rattle.std.proofs.Common.{refl, subst, ◌≤◌}
use Rattle.farm_text.specs.declared.moment.TheConstants.{LAST_TOLD_MOMENT}
use Rattle.farm_core.proofs.AskLemmas.{performs-halted, performs-done, performs-lost, performs-planned_out}
use Rattle.farm_core.proofs.asking.finish.Goals as goal

pub returns-in-Done-clause-performs : goal.returns-in-Done-clause-performs
returns-in-Done-clause-performs g c = λ config asking planned.
    let told : c.args.plan.moment ≤ LAST_TOLD_MOMENT = subst (λ m. m ≤ LAST_TOLD_MOMENT) c.requires.moment c.requires.told in
    performs-halted _ _ _ _ _ _ _ _ _ _ _ _ _ _ c.in-Done.ensures.halts
    (performs-done g.D.Disk.tells config c.args.tables.now asking c.args.plan _ _ _ _ _ _ told planned c.apply.new.tables c.apply.result c.apply.ensures.applied c.apply.ensures.reply (λ tells. c.in-Done.ensures.keeps tells) c.in-Done.ensures.counted)

pub returns-in-NoMemory-clause-performs : goal.returns-in-NoMemory-clause-performs
returns-in-NoMemory-clause-performs g c = λ config asking planned.
    performs-halted _ _ _ _ _ _ _ _ _ _ _ _ _ _ c.in-NoMemory.ensures.halts
    (performs-planned_out g.D.Disk.tells config c.args.tables.now asking c.args.plan c.args.moment c.reach.new.self _ _ _ _ _ _ c.requires.moment c.requires.told planned c.reach.ensures (λ tells. c.in-NoMemory.ensures.keeps tells) c.in-NoMemory.ensures.counted)

pub returns-in-Failed-clause-performs : goal.returns-in-Failed-clause-performs
returns-in-Failed-clause-performs g c = λ config asking planned.
    let told : c.args.plan.moment ≤ LAST_TOLD_MOMENT = subst (λ m. m ≤ LAST_TOLD_MOMENT) c.requires.moment c.requires.told in
    let change = c.in-Failed.ensures.some refl in
    performs-halted _ _ _ _ _ _ _ _ _ _ _ _ _ _ c.in-Failed.ensures.halts
    (performs-lost g.D.Disk.tells config c.args.tables.now asking c.args.plan _ _ _ _ _ _ told planned change.0 change.1 (λ tells. c.in-Failed.ensures.keeps tells) c.in-Failed.ensures.counted)
