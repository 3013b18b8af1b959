-- How a list of messages that was read ends.
use Rattle.std.specs.Prelude.{ℕ, List, Option}
use Rattle.http_wire.specs.Needed.{TakesTo, TakesInto}
use Rattle.http_wire.specs.Stream.{Ending, stopped, closed, full}
use Rattle.http_wire.specs.declared.message.Message.{Message}
use Rattle.http_wire.specs.declared.list.ListEnd.{ListEnd}
use Rattle.http_wire.specs.declared.list.ListEnd.TheVariants as end

-- how a list of messages ended, as the code tells it
abbrev pub ending_of : ListEnd → Ending
ending_of (end.Stopped wire) = stopped wire
ending_of end.Closed = closed
ending_of end.Full = full

-- what is left behind the messages of a list that ended so
abbrev pub LeavesBehind : List ℕ → List Message → Option (List ℕ) → ListEnd → Type 0
LeavesBehind bytes messages left (end.Stopped wire) = TakesInto bytes messages left
LeavesBehind bytes messages left end.Closed = TakesTo bytes messages left
LeavesBehind bytes messages left end.Full = TakesTo bytes messages left
