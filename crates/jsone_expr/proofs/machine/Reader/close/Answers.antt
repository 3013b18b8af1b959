use Rattle.std.proofs.Common.{◌∙◌, ap, reverse}
use Rattle.jsone_expr.specs.Moves.{closed}
use Rattle.jsone_expr.proofs.Closing.{closes_last}
use Rattle.jsone_expr.proofs.machine.Reader.close.Goals as goal

pub loop-node-preserved : goal.loop-node-preserved
loop-node-preserved c = record {
  same =
      let pushed = c.in_ok-push.ensures.items in
      let last = c.last.ensures.value in
      let same_slice = c.deref.ensures.value in
      let closing = closes_last c.args.level c.in-Some.node c.loop-node.self.nodes.items c.loop-node.self.frames.items c.pop.new.self.items c.copied.result (cc) (cc) (cc (c.pop.ensures.rest, c.loop-node.self.frames.ok.0)) in
      ap (λ l. closed c.args.level l (reverse c.pop.new.self.items)) pushed ∙ closing ∙ c.loop-node.invariant.same;
  next = c.loop-node.invariant.next;
}
