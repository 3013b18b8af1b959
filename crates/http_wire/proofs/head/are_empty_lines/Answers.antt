use Rattle.std.proofs.Common.{◌≡◌, false, rules}
use Rattle.http_wire.proofs.EmptyLines.{is_pairs, empty_lines_meaning}
use Rattle.http_wire.proofs.head.are_empty_lines.Goals as goal

pub returns-then-first-ne13 : goal.returns-then-first-ne13
returns-then-first-ne13 c =
    let pairs : false ≡ is_pairs c.args.bytes.now = search rules in
    empty_lines_meaning c.args.bytes.now false pairs

pub returns : goal.returns
returns c =
    let pairs : c.is_empty.result ≡ is_pairs c.args.bytes.now = search rules in
    empty_lines_meaning c.args.bytes.now c.is_empty.result pairs
