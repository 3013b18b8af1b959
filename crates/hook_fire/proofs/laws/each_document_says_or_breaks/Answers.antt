use Rattle.hook_fire.proofs.SomeDefinition.{says_or_breaks}
use Rattle.hook_fire.proofs.laws.each_document_says_or_breaks.Goals as goal

pub returns : goal.returns
returns c = says_or_breaks
