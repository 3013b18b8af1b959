use Rattle.std.proofs.Common.{◌≡◌, ◌++◌, map}
use Rattle.std.specs.Char.{encode_utf8}
use Rattle.std.specs.Str.{chars}
use Rattle.farm_text.specs.Document.{text}
use Rattle.farm_text.specs.Doc.{documents}
use Rattle.jsone_values.proofs.splits.characters.Given as goal

abbrev pub invariant-loop-character : goal.invariant-loop-character
invariant-loop-character l = documents l.characters.items ≡ map (λ c. text (encode_utf8 c)) l.yielded
