use Rattle.farm_text.proofs.DocLemmas.{ReadsBack-whole, IsWhole-whole}
use Rattle.farm_text.proofs.doc.write_whole.Goals as goal

pub returns-clause-reads_back : goal.returns-clause-reads_back
returns-clause-reads_back c = ReadsBack-whole c.args.n c.ranges.n

pub returns-clause-whole : goal.returns-clause-whole
returns-clause-whole c = IsWhole-whole c.args.n c.ranges.n
