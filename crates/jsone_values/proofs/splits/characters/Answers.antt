use Rattle.std.proofs.Common.{◌≡◌, ℕ, List, [], ◌∷◌, map, refl, sym, ap, ◌∙◌}
use Rattle.std.specs.Char.{encode_utf8}
use Rattle.std.proofs.lemmas.Iterator.{YieldsList-from_chars}
use Rattle.std.proofs.lemmas.Iterator.Consumers.{YieldsList-end}
use Rattle.farm_text.specs.Document.{text}
use Rattle.jsone_values.proofs.splits.characters.Goals as goal

same : (xs : List ℕ) → xs ≡ map (λ x. x) xs
same [] = refl
same (x ∷ xs) = ap (λ l. x ∷ l) (same xs)

pub returns : goal.returns
returns c =
    let all = YieldsList-end (YieldsList-from_chars c.args.text.now c.utf8.text cc) c.loop-character.yielded _ c.loop-character.yielded_by _ _ c.in-None.is c.next.ensures.steps in
    c.loop-character.invariant ∙ ap (map (λ c. text (encode_utf8 c))) (same c.loop-character.yielded ∙ all.0)
