use Rattle.http_wire.specs.Calls.{LinkState}
use Rattle.console_commands.proofs.InputLemmas.{Turns-written}
use Rattle.console_commands.proofs.expanding.expand.Goals as goal

pub returns-in-Ok : goal.returns-in-Ok
returns-in-Ok g c =
    let talk : g.row.L.Denot → LinkState = λ link. record {
      left = g.L.Link.left link;
      written = g.L.Link.written link;
      read_faults = g.L.Link.read_faults link;
      write_faults = g.L.Link.write_faults link;
    } in
    let whole = rw c.in-Ok-Some.field-0-is at c.in-Ok-Some.ensures.whole in
    record {
      expands = rw c.on_console.ensures (Turns-written _ _ (talk c.args.console.now) (talk c.read_all.new.link) (talk c.write_text.new.console) _ _ _
          whole.1 (rw c.as_slice.ensures.value at c.in-Ok.ensures) whole.2 c.in-Ok-Some.ensures.same_reads (record { written = c.read_all.ensures.written; faults = c.read_all.ensures.write_faults }) (record { left = c.write_text.ensures.left; faults = c.write_text.ensures.read_faults }) (rw c.as_slice-in-Ok.ensures.value at c.write_text.ensures.writes));
    }
