use Rattle.std.proofs.Common.{◌≡◌, ◌-◌, ◌<◌, ◌≤◌, Err, refl, sym, ◌∙◌, subst, arith}
use Rattle.std.specs.Io.KnownBytes.{prepend_known}
use Rattle.http_wire.specs.Calls.{CountsReads}
use Rattle.http_wire.specs.Needed.{LosesUnfinished}
use Rattle.http_wire.specs.Reading.{Loses, Ends}
use Rattle.http_wire.specs.Stream.{TakesOne}
use Rattle.http_wire.specs.declared.message.Message.{Message}
use Rattle.http_wire.proofs.NeededLemmas.{LosesFew-held}
use Rattle.farm_server.specs.Turn.{Refuses}
use Rattle.farm_server.specs.declared.served.TheConstants.{REQUESTS}
use Rattle.farm_server.proofs.LeftLemmas.{Loses-then, Loses-held, Loses-stopped}
use Rattle.farm_server.proofs.ServesLemmas.{Turns-answered, Turns-refused, telling_same}
use Rattle.farm_server.proofs.connection.turn.Goals as goal

pub returns-in-Ok-clause-turns : goal.returns-in-Ok-clause-turns
returns-in-Ok-clause-turns g c =
    let some : 0 < REQUESTS - c.args.place = omega arith in
    let takes : TakesOne (prepend_known c.args.reader.now (g.L.Link.left c.args.link.now)) c.in-Ok.message (prepend_known c.next_request.new.self (g.L.Link.left c.answer.new.link)) = rw c.answer.ensures.left c.in-Ok.ensures.message in
    let few = c.in-Ok.ensures.rest c.requires.held in
    let needed : LosesUnfinished (prepend_known c.args.reader.now (g.L.Link.left c.args.link.now)) (g.L.Link.left c.answer.new.link) = rw c.answer.ensures.left (c.in-Ok.ensures.needed c.requires.held) in
    let kept : g.L.Link.read_faults c.answer.new.link ≡ g.L.Link.read_faults c.args.link.now = c.answer.ensures.read_faults ∙ c.in-Ok.ensures.only_reads.reads in
    Turns-answered (REQUESTS - c.args.place) _ _ _ _ _ _ _ _ _ _ c.in-Ok.message c.answer.result some takes (LosesFew-held c.next_request.new.self (g.L.Link.left c.answer.new.link) few) needed kept (telling_same _ _ _ _ _ _ _ c.in-Ok.ensures.only_reads.written c.in-Ok.ensures.only_reads.write_faults) c.answer.ensures.ends

pub returns-in-Err-clause-turns : goal.returns-in-Err-clause-turns
returns-in-Err-clause-turns g c =
    let some : 0 < REQUESTS - c.args.place = omega arith in
    let later : g.L.Link.read_faults c.args.link.now ≤ g.L.Link.read_faults c.refuse.new.link = omega (arith, c.in-Err.ensures.only_reads.later, c.refuse.ensures.read_faults) in
    let reads : CountsReads {T = Message} (g.L.Link.read_faults c.args.link.now) (g.L.Link.read_faults c.refuse.new.link) (Err c.in-Err.reason) = subst (λ n. CountsReads {T = Message} (g.L.Link.read_faults c.args.link.now) n (Err c.in-Err.reason)) (sym c.refuse.ensures.read_faults) c.in-Err.ensures.only_reads.reads in
    let writes : g.L.Link.write_faults c.args.link.now ≤ g.L.Link.write_faults c.refuse.new.link = omega (arith, c.in-Err.ensures.only_reads.write_faults, c.refuse.ensures.later) in
    let between = g.L.Link.left c.next_request.new.link in
    let lost : Loses (prepend_known c.args.reader.now (g.L.Link.left c.args.link.now)) (g.L.Link.left c.refuse.new.link) = rw c.refuse.ensures.left (Loses-then _ (prepend_known c.next_request.new.self between) between (Loses-stopped _ _ c.in-Err.reason c.in-Err.ensures.leaves) (Loses-held c.next_request.new.self between)) in
    let needed : LosesUnfinished (prepend_known c.args.reader.now (g.L.Link.left c.args.link.now)) (g.L.Link.left c.refuse.new.link) = rw c.refuse.ensures.left (c.in-Err.ensures.needed c.requires.held) in
    let spent : Ends (g.L.Link.left c.refuse.new.link) c.in-Err.reason = rw c.refuse.ensures.left c.in-Err.ensures.ended in
    let refuses : Refuses (g.L.Link.written c.args.link.now) (g.L.Link.written c.refuse.new.link) (g.L.Link.write_faults c.args.link.now) (g.L.Link.write_faults c.refuse.new.link) c.in-Err.reason c.refuse.result = rw (← c.in-Err.ensures.only_reads.written, ← c.in-Err.ensures.only_reads.write_faults) c.refuse.ensures.refuses in
    Turns-refused (REQUESTS - c.args.place) _ _ _ _ _ _ _ c.in-Err.reason c.refuse.result some c.in-Err.ensures.stops lost needed spent reads later refl refl refl writes refuses
