use Rattle.std.proofs.Common.{◌+◌, ◌-◌, ◌≤◌, length, refl, arith}
use Rattle.http_wire.proofs.MoveLemmas.{size_stays, more_moved, behind_stays}
use Rattle.http_wire.proofs.body.move_to_front.Goals as goal

pub loop-at-preserved : goal.loop-at-preserved
loop-at-preserved c =
    let i = c.loop-at.invariant in
    let at = c.loop-at.at in
    let size = c.min-size.result in
    let few : size ≤ length c.args.bytes.now - c.args.by - at = omega (arith, c.min-size.ensures) in
    let apart : size ≤ c.args.by = omega (arith, c.min-size.ensures) in
    let within : at + c.args.by + size ≤ length c.args.bytes.now = omega (arith, few, i.within, c.requires.within, c.loop-at-test.true) in
    record {
      size = size_stays at c.args.by size c.args.bytes.now c.loop-at.bytes c.move_piece.new.bytes i.size within apart i.moved i.behind c.move_piece.ensures;
      rest = refl;
      within = omega (arith, few, i.within);
      moved = more_moved at c.args.by size c.args.bytes.now c.loop-at.bytes c.move_piece.new.bytes i.size within apart i.moved i.behind c.move_piece.ensures;
      behind = behind_stays at c.args.by size c.args.bytes.now c.loop-at.bytes c.move_piece.new.bytes i.size within apart i.moved i.behind c.move_piece.ensures;
    }
