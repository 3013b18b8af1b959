use Rattle.std.proofs.Common.{inl}
use Rattle.http_wire.specs.Calls.{state_of}
use Rattle.farm_crews.proofs.serving.serve_ready.Goals as goal

-- `ready` was written, and the workers served
pub returns-in-Done : goal.returns-in-Done
returns-in-Done g c = record {
  serves = inl (record {
    between = state_of g.L.Link c.tell_ready.new.console;
    unread = record { left = c.tell_ready.ensures.left; faults = c.tell_ready.ensures.read_faults };
    ready = rw c.in-Done.is at c.tell_ready.ensures.writes;
    ended = c.serve-token.result.1;
    serves = c.serve-token.ensures.serves;
    last = c.tell_served-last.result;
    told = c.tell_served-last.ensures;
    status_is = c.status_after.ensures;
  });
}
