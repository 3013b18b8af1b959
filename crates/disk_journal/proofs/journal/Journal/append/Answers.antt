use Rattle.std.proofs.Common.{◌≡◌, ◌+◌, [], ◌∷◌, length, ap, arith, length-append}
use Rattle.disk_base.proofs.StopsLemmas.{StopsLeave-then}
use Rattle.disk_journal.specs.Records.{sized}
use Rattle.disk_journal.proofs.RecordLemmas.{length-sized}
use Rattle.disk_journal.proofs.AppendLemmas.{first_stops, first_done, second_stops, second_done, failed_keeps, kept_keeps}
use Rattle.disk_journal.proofs.journal.Journal.append.Goals as goal

pub returns-in-Err-clause-failed : goal.returns-in-Err-clause-failed
returns-in-Err-clause-failed g c tells =
    failed_keeps [] _ _ _ _ _ (λ bodies ready. first_stops [] bodies (g.F.Frame.body c.args.frame.now) _ _ ready _ _ _ (c.put.ensures.puts tells ready.settled))

pub returns-in-Err-put-clause-failed : goal.returns-in-Err-put-clause-failed
returns-in-Err-put-clause-failed g c tells =
    failed_keeps [] _ _ _ _ _ (λ bodies ready.
    let body = g.F.Frame.body c.args.frame.now in
    let first = c.in-Ok.ensures.puts tells ready.settled in
    let mid = first_done [] bodies body _ _ ready (g.D.Disk.contents c.put.new.disk) _ c.text-text.ensures.text first.done in
    StopsLeave-then _ (g.D.Disk.contents c.put.new.disk) (g.D.Disk.contents c.put-2.new.disk) _
    (first_stops [] bodies body _ _ ready _ _ _ first)
    (second_stops [] bodies body _ _ ready c.text-text.ensures.size (g.D.Disk.contents c.put.new.disk) mid.0 mid.1 (g.D.Disk.contents c.put-2.new.disk) _ (c.put-2.ensures.puts tells first.settled)))

pub returns-clause-kept : goal.returns-clause-kept
returns-clause-kept g c tells =
    let body = g.F.Frame.body c.args.frame.now in
    let moved : length c.text-text.result.now ≡ 5 + length body = omega (arith, ap length c.text-text.ensures.text, length-append (sized body) (0 ∷ []), length-sized body) in
    kept_keeps [] _ _ _ _ _ (λ bodies ready.
    let first = c.in-Ok.ensures.puts tells ready.settled in
    let mid = first_done [] bodies body _ _ ready (g.D.Disk.contents c.put.new.disk) _ c.text-text.ensures.text first.done in
    StopsLeave-then _ (g.D.Disk.contents c.put.new.disk) (g.D.Disk.contents c.put-2.new.disk) _
    (first_stops [] bodies body _ _ ready _ _ _ first)
    (second_stops [] bodies body _ _ ready c.text-text.ensures.size (g.D.Disk.contents c.put.new.disk) mid.0 mid.1 (g.D.Disk.contents c.put-2.new.disk) _ (c.put-2.ensures.puts tells first.settled)))
    (λ bodies ready.
    let first = c.in-Ok.ensures.puts tells ready.settled in
    let mid = first_done [] bodies body _ _ ready (g.D.Disk.contents c.put.new.disk) _ c.text-text.ensures.text first.done in
    let second = c.in-Ok-put.ensures.puts tells first.settled in
    second_done [] bodies body _ _ ready c.text-text.ensures.size (g.D.Disk.contents c.put.new.disk) mid.0 mid.1 (g.D.Disk.contents c.put-2.new.disk) _ (ap (λ n. c.args.self.now.end + n) moved) second.settled second.done)

pub returns-clause-moves : goal.returns-clause-moves
returns-clause-moves g c =
    let body = g.F.Frame.body c.args.frame.now in
    omega (arith, ap length c.text-text.ensures.text, length-append (sized body) (0 ∷ []), length-sized body)
