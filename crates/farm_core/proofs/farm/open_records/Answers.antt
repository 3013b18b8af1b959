-- What the opening of the journal found is replayed.
use Rattle.std.proofs.Common.{arith, inl}
use Rattle.disk_journal.specs.Opened.{opened_bodies}
use Rattle.disk_journal.proofs.KeepsLemmas.{few-records}
use Rattle.farm_core.proofs.OpenedLemmas.{has-opened, restored-damaged, restored-no_disk, first-damaged, disk-first, opened-cause, restored-cause, first-cause, still-keeps, opened-keeps}
use Rattle.farm_core.proofs.farm.open_records.Goals as goal

pub new-requires-clause-few : goal.new-requires-clause-few
new-requires-clause-few g c = omega (arith, few-records (opened_bodies c.in-Ok.bodies), c.in-Ok.ensures.opened.place)

pub new-requires-clause-ready : goal.new-requires-clause-ready
new-requires-clause-ready g c = λ tells. (opened_bodies c.in-Ok.bodies, c.in-Ok.ensures.opened.ready tells, omega arith)

pub returns-in-Ok-restore-clause-opened : goal.returns-in-Ok-restore-clause-opened
returns-in-Ok-restore-clause-opened g c =
    rw c.new.ensures (has-opened g.D.Disk.tells _ _ _ _ (opened_bodies c.in-Ok.bodies) _ (λ tells. c.in-Ok.ensures.opened.opens tells) (λ tells. c.in-Ok.ensures.opened.ready tells) (λ tells. c.in-Ok.ensures.opened.gate tells) (omega arith) c.in-Ok-restore.ensures)

pub returns-in-Ok-restore-clause-any_moment : goal.returns-in-Ok-restore-clause-any_moment
returns-in-Ok-restore-clause-any_moment g c = λ tells. rw c.new.ensures (c.in-Ok.ensures.any_moment tells)

pub returns-in-Ok-restore-clause-cause : goal.returns-in-Ok-restore-clause-cause
returns-in-Ok-restore-clause-cause g c = rw c.new.ensures (opened-cause _ _ _ _ c.in-Ok.ensures.cause)

pub returns-clause-damaged : goal.returns-clause-damaged
returns-clause-damaged g c = λ tells place is.
    restored-damaged _ (opened_bodies c.in-Ok.bodies) _ place (inl (c.in-Ok.ensures.opened.opens tells)) c.in-Err-restore.ensures is

pub returns-clause-any_moment : goal.returns-clause-any_moment
returns-clause-any_moment g c = λ tells. rw c.into_disk.ensures (c.in-Ok.ensures.any_moment tells)

pub returns-clause-cause : goal.returns-clause-cause
returns-clause-cause g c = rw c.into_disk.ensures (restored-cause _ _ _ (opened_bodies c.in-Ok.bodies) _ c.in-Ok.ensures.cause c.in-Err-restore.ensures)

pub returns-clause-untouched : goal.returns-clause-untouched
returns-clause-untouched g c = λ tells other.
    rw c.into_disk.ensures (opened-keeps _ _ _ (opened_bodies c.in-Ok.bodies) (c.in-Ok.ensures.opened.opens tells) (c.in-Ok.ensures.opened.ready tells))

pub returns-in-Err-clause-untouched : goal.returns-in-Err-clause-untouched
returns-in-Err-clause-untouched g c = λ tells other.
    let was = c.in-Err.ensures.untouched tells (λ is. other (disk-first (opened_bodies c.in-Err.before) _ _ c.first_fault-first.ensures is)) in
    still-keeps _ _ was.0 was.1

pub returns-in-Err-clause-damaged : goal.returns-in-Err-clause-damaged
returns-in-Err-clause-damaged g c = λ tells place is.
    first-damaged _ (opened_bodies c.in-Err.before) c.in-Err.fault _ place (λ at names. c.in-Err.ensures.refused.damaged tells at names) c.first_fault-first.ensures is

pub returns-in-Err-clause-cause : goal.returns-in-Err-clause-cause
returns-in-Err-clause-cause g c = first-cause _ _ (opened_bodies c.in-Err.before) c.in-Err.fault _ c.in-Err.ensures.cause c.first_fault-first.ensures
