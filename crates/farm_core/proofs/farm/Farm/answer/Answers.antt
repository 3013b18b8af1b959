-- What is due is kept and resolved, and the call is performed behind it.
use Rattle.std.proofs.Common.{refl, arith}
use Rattle.farm_core.proofs.AskLemmas.{asked-so, asked-failed, asks-from, asks-to}
use Rattle.farm_core.proofs.BareLemmas.{IsResolved-nothing_due}
use Rattle.farm_core.proofs.FaultLemmas.{rose-from, tells-rose, tells-then}
use Rattle.farm_core.proofs.farm.Farm.answer.Goals as goal

pub perform-reply-requires-clause-idle : goal.perform-reply-requires-clause-idle
perform-reply-requires-clause-idle g c =
    IsResolved-nothing_due _ _ _ _ c.args.question c.in-Ok.ensures.resolved c.moment_of-moment.ensures.value

pub returns-in-Ok-clause-asked : goal.returns-in-Ok-clause-asked
returns-in-Ok-clause-asked g c = λ working.
    let config = c.args.self.now.config in
    let made = asked-so g.D.Disk.tells config c.args.self.now.tables c.keep_due.new.tables c.perform-reply.new.tables c.args.question c.moment_of-moment.result c.in-Ok.ticked c.perform-reply.result _ _ _ _ _ _ _ _ _ _
    c.moment_of-moment.ensures.told c.moment_of-moment.ensures.value c.in-Ok.ensures.resolved (λ tells. c.in-Ok.ensures.keeps tells) c.in-Ok.ensures.counted c.perform-reply.ensures.performs in
    asks-from _ _ _ _ _ _ _ _ _ _ _ _ _ _ working made

pub returns-in-Err-clause-asked : goal.returns-in-Err-clause-asked
returns-in-Err-clause-asked g c = λ working.
    let config = c.args.self.now.config in
    let lost = c.in-Err.ensures.resolved in
    let made = asked-failed g.D.Disk.tells config c.args.self.now.tables c.args.question c.moment_of-moment.result _ _ _ _ _ _ c.moment_of-moment.ensures.told c.moment_of-moment.ensures.value lost.0 (λ tells. c.in-Err.ensures.keeps tells) c.in-Err.ensures.counted in
    asks-from _ _ _ _ _ _ _ _ _ _ _ _ _ _ working (asks-to _ _ _ _ _ _ _ _ _ _ _ _ _ _ _ lost.1 c.in-Err.ensures.halts made)

-- ---- one that has halted

pub returns-then-halted-clause-asked : goal.returns-then-halted-clause-asked
returns-then-halted-clause-asked g c = λ working. let is = c.if-halted.true in let same = c.halted.ensures in cc

pub returns-then-halted-clause-halted : goal.returns-then-halted-clause-halted
returns-then-halted-clause-halted g c = λ halted. (refl, refl)

pub returns-then-halted-clause-cause : goal.returns-then-halted-clause-cause
returns-then-halted-clause-cause g c = λ fault. cc

pub returns-then-halted-clause-faults : goal.returns-then-halted-clause-faults
returns-then-halted-clause-faults g c = λ working. let is = c.if-halted.true in let same = c.halted.ensures in cc

-- ---- one at work

pub returns-in-Ok-clause-halted : goal.returns-in-Ok-clause-halted
returns-in-Ok-clause-halted g c = λ halted. let is = c.if-halted.false in let same = c.halted.ensures in cc

pub returns-in-Ok-clause-cause : goal.returns-in-Ok-clause-cause
returns-in-Ok-clause-cause g c = λ fault. rose-from _ _ _ c.in-Ok.ensures.cause.kept (c.perform-reply.ensures.faults.rose (c.perform-reply.ensures.halts fault))

pub returns-in-Ok-clause-faults : goal.returns-in-Ok-clause-faults
returns-in-Ok-clause-faults g c = λ working. tells-then _ _ _ _ c.in-Ok.ensures.cause.kept c.perform-reply.ensures.faults

pub returns-in-Ok-clause-later : goal.returns-in-Ok-clause-later
returns-in-Ok-clause-later g c = (tells-then _ _ _ _ c.in-Ok.ensures.cause.kept c.perform-reply.ensures.faults).later

pub returns-in-Err-clause-halted : goal.returns-in-Err-clause-halted
returns-in-Err-clause-halted g c = λ halted. let is = c.if-halted.false in let same = c.halted.ensures in cc

pub returns-in-Err-clause-cause : goal.returns-in-Err-clause-cause
returns-in-Err-clause-cause g c = λ fault. c.in-Err.ensures.cause.failed

pub returns-in-Err-clause-faults : goal.returns-in-Err-clause-faults
returns-in-Err-clause-faults g c = λ working. tells-rose _ _ _ c.in-Err.ensures.halts c.in-Err.ensures.cause.later c.in-Err.ensures.cause.failed

pub returns-in-Err-clause-later : goal.returns-in-Err-clause-later
returns-in-Err-clause-later g c = c.in-Err.ensures.cause.later

pub returns-then-halted-clause-later : goal.returns-then-halted-clause-later
returns-then-halted-clause-later g c = omega arith

pub keep_due-requires-clause-told : goal.keep_due-requires-clause-told
keep_due-requires-clause-told g c = c.moment_of-moment.ensures.told

pub keep_due-requires-clause-works : goal.keep_due-requires-clause-works
keep_due-requires-clause-works g c = let is = c.if-halted.false in let same = c.halted.ensures in cc

pub perform-reply-requires-clause-works : goal.perform-reply-requires-clause-works
perform-reply-requires-clause-works g c = c.in-Ok.ensures.works
