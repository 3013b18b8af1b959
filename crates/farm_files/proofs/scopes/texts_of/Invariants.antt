use Rattle.std.proofs.Common.{map}
use Rattle.farm_files.proofs.ValueLemmas.{HasTexts}
use Rattle.farm_files.proofs.scopes.texts_of.Given as goal

abbrev pub invariant-loop-value : goal.invariant-loop-value
invariant-loop-value l = HasTexts l.values l.value-index (map (λ t. t.now) l.texts.items)
