use Rattle.std.proofs.Common.{◌≡◌, reverse, length}
use Rattle.jsone_expr.specs.Moves.{closed}
use Rattle.jsone_expr.proofs.machine.Reader.close.Given as goal

-- what is left to close gives what all gives
abbrev pub invariant-loop-node : goal.invariant-loop-node
invariant-loop-node l = record {
  same : closed l.level l.self.nodes.items (reverse l.self.frames.items) ≡ closed l.level l.initial.self.nodes.items (reverse l.initial.self.frames.items);
  next : l.self.next ≡ l.initial.self.next;
}

abbrev pub decreases-loop-node : goal.decreases-loop-node
decreases-loop-node l = length l.self.frames.items
