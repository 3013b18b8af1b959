use Rattle.farm_text.specs.Entries.{held}
use Rattle.farm_text.proofs.DocLemmas.{document-Map}
use Rattle.farm_text.proofs.entries.Entries.into_doc.Goals as goal

pub returns : goal.returns
unfolding held
returns c = document-Map c.args.self.map
