use Rattle.std.proofs.Common.{[]}
use Rattle.disk_journal.proofs.AppendLemmas.{first_stops, room_stops, room_done, room_keeps, failed_keeps}
use Rattle.disk_journal.proofs.journal.Journal.write_ahead.Goals as goal

pub returns-in-Ok-clause-kept : goal.returns-in-Ok-clause-kept
returns-in-Ok-clause-kept g c tells =
    room_keeps [] _ _ _
    (λ bodies ready. room_stops [] bodies [] _ _ ready (g.D.Disk.contents c.put.new.disk) _ _ (c.put.ensures.puts tells ready.settled))
    (λ bodies ready. let first = c.in-Ok.ensures.puts tells ready.settled in
    room_done [] bodies [] _ _ ready (g.D.Disk.contents c.put.new.disk) _ c.requires.some first.settled first.done)

pub returns-in-Err-clause-failed : goal.returns-in-Err-clause-failed
returns-in-Err-clause-failed g c tells body =
    failed_keeps [] _ _ _ _ _ (λ bodies ready. first_stops [] bodies body _ _ ready _ _ _ (c.put.ensures.puts tells ready.settled))
