use Rattle.std.proofs.Common.{refl, sym, ap}
use Rattle.history.proofs.AsksLemmas.{LeadsAlone-none}
use Rattle.farm_text.specs.Told.{told_by, first_uuid}
use Rattle.farm_machine.specs.Step.{farm_rules}
use Rattle.load_requests.specs.Still.{midnight}
use Rattle.farm_bulk.proofs.ConnectionLemmas.{Converses-of, IfOk-written}
use Rattle.farm_bulk.proofs.connections.converse.Goals as goal

pub returns-clause-conversed : goal.returns-clause-conversed
returns-clause-conversed c =
    let serves = c.serve_routed-served.ensures.serves in
    let clock = c.serve_routed-served.new.clock in
    let draws = c.serve_routed-served.new.draws in
    let talk = Converses-of c.args.desk.now.0 c.serve_routed-served.new.desk.0 c.args.sent.items c.written-written.result.now clock draws _ _ _ _ serves.asks serves.replies c.serve_routed-served.result serves.spoke serves.asked
    (record {
      left = c.in_ok-link.ensures.left;
      written = c.in_ok-link.ensures.written;
      moments = ap (told_by (λ _. midnight)) c.new-clock.ensures;
      ids = ap (told_by (λ _. first_uuid)) c.new-draws.ensures;
    })
    (record { written_is = sym c.written-written.ensures; moments_are = refl; ids_are = refl })
    (c.if-not-is_complete.ensures refl)
    (LeadsAlone-none farm_rules c.args.desk.now.0 c.args.desk.now.0 refl, tt)
    (λ seen mine stood. stood) in
    IfOk-written c.from_slice.result c.args.desk.now.0 c.serve_routed-served.new.desk.0 c.args.sent.items c.written-written.result.now c.from_slice.ensures.items talk
