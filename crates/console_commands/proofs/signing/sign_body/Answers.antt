use Rattle.http_wire.specs.Calls.{state_of}
use Rattle.console_commands.proofs.InputLemmas.{Turns-written}
use Rattle.console_commands.proofs.signing.sign_body.Goals as goal

pub returns-in-Ok : goal.returns-in-Ok
returns-in-Ok g c =
    let whole = rw c.in-Ok-Some.field-0-is at c.in-Ok-Some.ensures.whole in
    record {
      turns = rw c.on_console.ensures (Turns-written _ _ (state_of g.L.Link c.args.console.now) (state_of g.L.Link c.read_all.new.link) (state_of g.L.Link c.write_text.new.console) _ _ _
          whole.1 (record { short = rw (← c.as_slice.ensures.value, c.as_slice.ensures.len) whole.0; text_is = rw c.as_slice.ensures.value at c.in-Ok.ensures }) whole.2 c.in-Ok-Some.ensures.same_reads (record { written = c.read_all.ensures.written; faults = c.read_all.ensures.write_faults }) (record { left = c.write_text.ensures.left; faults = c.write_text.ensures.read_faults }) (rw c.as_bytes.ensures.value at c.write_text.ensures.writes));
    }
