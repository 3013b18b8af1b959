use Rattle.std.proofs.Common.{◌≡◌, ◌++◌, take, rules}
use Rattle.disk_journal.proofs.OpenLemmas.{front_more}
use Rattle.disk_journal.proofs.reading.read_piece.Goals as goal

pub returns-in-Ok-extend_from_slice-clause-front :
    goal.returns-in-Ok-extend_from_slice-clause-front
returns-in-Ok-extend_from_slice-clause-front g c tells front =
    let reads = c.in-Ok.ensures.reads tells in
    let grown : c.extend_from_slice.new.self.items ≡ c.args.bytes.now.items ++ take c.in-Ok.count c.read.new.buf = search rules in
    front_more _ _ _ _ _ _ c.in-Ok.count _ front c.len.ensures reads.bytes grown (search rules)
