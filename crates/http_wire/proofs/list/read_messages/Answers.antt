use Rattle.std.proofs.Common.{◌≡◌, ◌+◌, ◌-◌, ◌<◌, List, length, true, false, IfSome, sym, ap, subst, ◌∙◌, arith}
use Rattle.std.specs.Io.KnownBytes.{prepend_known}
use Rattle.http_wire.specs.List.{ending_of, LeavesBehind}
use Rattle.http_wire.specs.declared.list.ListEnd.{ListEnd}
use Rattle.http_wire.specs.declared.message.Message.{Message}
use Rattle.http_wire.specs.Stream.{Ending, Messages, closing, is_of_stream}
use Rattle.http_wire.proofs.Taken.{TakesKnown, NoneCloses}
use Rattle.http_wire.proofs.StreamLaws.{TakesKnown-push, NoneCloses-push, known_stopped, known_full, known_closed, closing_some, closing_none}
use Rattle.http_wire.proofs.NeededLemmas.{LosesFew-held, known_into, known_to}
use Rattle.http_wire.proofs.list.read_messages.Goals as goal
use Rattle.http_wire.proofs.list.read_messages.Goals.{then-len-room, else-len-room}

pub returns-in-Err-next_request-clause-all : goal.returns-in-Err-next_request-clause-all
returns-in-Err-next_request-clause-all g c =
    let inv = c.messages.invariant in
    let fits : length c.messages.messages.items < c.args.room = omega (arith, c.messages-test.true, c.len.ensures, c.messages.messages.ok.0) in
    let stream : is_of_stream c.in-Err-next_request.wire ≡ true = cc in
    known_stopped c.args.room (g.L.Link.left c.args.link.now) (prepend_known c.messages.reader (g.L.Link.left c.messages.link)) c.messages.messages.items c.in-Err-next_request.wire inv.took inv.none fits stream c.in-Err-next_request.ensures.stops

pub returns-then-closes-clause-all : goal.returns-then-closes-clause-all
returns-then-closes-clause-all g c =
    let inv = c.messages.invariant in
    let left = g.L.Link.left c.args.link.now in
    let ms = c.messages.messages.items in
    let m = c.in-Ok-next_request.message in
    let fits : length ms < c.args.room = omega (arith, c.messages-test.true, c.len.ensures, c.messages.messages.ok.0) in
    let size : c.len-then-closes.result ≡ length ms + 1 = omega (arith, c.len-then-closes.ensures, c.in-Ok-push.ensures.len, c.messages.messages.ok.0) in
    let known = known_closed c.args.room left (prepend_known c.messages.reader (g.L.Link.left c.messages.link)) (prepend_known c.next_request.new.self (g.L.Link.left c.next_request.new.link)) ms m inv.took inv.none fits c.in-Ok-next_request.ensures.message c.if-closes.true in
    let ends : ending_of c.if-len-room.end ≡ closing (c.args.room - (length ms + 1)) =
    elim c.if-len-room.branch [
      | then-len-room w ↦ ap ending_of w.end-is ∙ sym (closing_some (c.args.room - (length ms + 1)) (omega (arith, w.if-len-room.true)))
      | else-len-room w ↦ ap ending_of w.end-is ∙ sym (closing_none (c.args.room - (length ms + 1)) (omega (arith, w.if-len-room.false)))
    ] in
    subst (λ (e : Ending). IfSome left (λ bytes. Messages c.args.room bytes c.push.new.self.items e)) (sym ends)
    (subst (λ (items : List Message). IfSome left (λ bytes. Messages c.args.room bytes items (closing (c.args.room - (length ms + 1))))) (sym c.in-Ok-push.ensures.items) known)

pub messages-preserved : goal.messages-preserved
messages-preserved g c =
    let inv = c.messages.invariant in
    let open_ : c.in-Ok-next_request.message.closes ≡ false = c.if-closes.false in
    record {
      took = subst (λ items. TakesKnown (g.L.Link.left c.args.link.now) items (prepend_known c.next_request.new.self (g.L.Link.left c.next_request.new.link))) (sym c.in-Ok-push.ensures.items)
          (TakesKnown-push (g.L.Link.left c.args.link.now) (prepend_known c.messages.reader (g.L.Link.left c.messages.link)) (prepend_known c.next_request.new.self (g.L.Link.left c.next_request.new.link)) c.messages.messages.items c.in-Ok-next_request.message inv.took c.in-Ok-next_request.ensures.message);
      none = subst NoneCloses (sym c.in-Ok-push.ensures.items) (NoneCloses-push c.messages.messages.items c.in-Ok-next_request.message inv.none open_);
      few = c.in-Ok-next_request.ensures.rest inv.few;
      fits = omega (arith, c.messages-test.true, c.len.ensures, c.in-Ok-push.ensures.len);
      reads = c.in-Ok-next_request.ensures.only_reads.reads ∙ inv.reads;
      written = c.in-Ok-next_request.ensures.only_reads.written ∙ inv.written;
      write_faults = c.in-Ok-next_request.ensures.only_reads.write_faults ∙ inv.write_faults;
    }

pub returns-clause-all : goal.returns-clause-all
returns-clause-all g c =
    let inv = c.messages.invariant in
    let whole : length c.messages.messages.items ≡ c.args.room = omega (arith, c.messages-test.false, c.len.ensures, c.messages.messages.ok.0, inv.fits) in
    known_full c.args.room (g.L.Link.left c.args.link.now) (prepend_known c.messages.reader (g.L.Link.left c.messages.link)) c.messages.messages.items inv.took inv.none whole

pub returns-in-Err-next_request-clause-leaves : goal.returns-in-Err-next_request-clause-leaves
returns-in-Err-next_request-clause-leaves g c =
    known_into (g.L.Link.left c.args.link.now) (prepend_known c.messages.reader (g.L.Link.left c.messages.link)) (g.L.Link.left c.next_request.new.link) c.messages.messages.items c.messages.invariant.took
    (c.in-Err-next_request.ensures.needed c.messages.invariant.few)

pub returns-then-closes-clause-leaves : goal.returns-then-closes-clause-leaves
returns-then-closes-clause-leaves g c =
    let inv = c.messages.invariant in
    let left = g.L.Link.left c.args.link.now in
    let now = g.L.Link.left c.next_request.new.link in
    let held = c.next_request.new.self in
    let took = TakesKnown-push left (prepend_known c.messages.reader (g.L.Link.left c.messages.link)) (prepend_known held now) c.messages.messages.items c.in-Ok-next_request.message inv.took c.in-Ok-next_request.ensures.message in
    let to = known_to left (prepend_known held now) now c.push.new.self.items (subst (λ (items : List Message). TakesKnown left items (prepend_known held now)) (sym c.in-Ok-push.ensures.items) took)
    (LosesFew-held held now (c.in-Ok-next_request.ensures.rest inv.few)) in
    let Q : ListEnd → Type 0 = λ e. IfSome left (λ bytes. LeavesBehind bytes c.push.new.self.items now e) in
    elim c.if-len-room.branch [
      | then-len-room w ↦ subst Q (sym w.end-is) to
      | else-len-room w ↦ subst Q (sym w.end-is) to
    ]

pub returns-clause-leaves : goal.returns-clause-leaves
returns-clause-leaves g c =
    let inv = c.messages.invariant in
    let now = g.L.Link.left c.messages.link in
    known_to (g.L.Link.left c.args.link.now) (prepend_known c.messages.reader now) now c.messages.messages.items inv.took (LosesFew-held c.messages.reader now inv.few)
