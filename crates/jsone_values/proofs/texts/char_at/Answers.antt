use Rattle.std.proofs.Common.{Option, Some, None, ◌≡◌, ℕ, refl, ◌∙◌}
use Rattle.std.specs.Option.{option_map}
use Rattle.std.proofs.lemmas.Iterator.{YieldsList-from_chars}
use Rattle.std.proofs.lemmas.Iterator.Consumers.{nth_from_yields_List}
use Rattle.jsone_values.proofs.texts.char_at.Goals as goal

same : (o : Option ℕ) → o ≡ option_map (λ c. c) o
same None = refl
same (Some c) = refl

pub returns : goal.returns
returns c = same c.nth.result ∙ nth_from_yields_List c.nth.result c.nth.new.self c.args.place c.nth.ensures.ran (YieldsList-from_chars c.args.text.now c.utf8.text c.chars.ensures.rest)
