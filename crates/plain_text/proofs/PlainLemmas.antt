-- Plain bytes are UTF-8.
use Rattle.std.proofs.Common.{◌≡◌, ℕ, ◌<◌, List, length, get_or, inl, inr, arith}
use Rattle.std.proofs.lemmas.Bool.{cases_lt}
use Rattle.std.proofs.lemmas.List.{get_or_past}
use Rattle.std.proofs.lemmas.List.Elements.{All-weaker}
use Rattle.std.proofs.lemmas.Str.{IsUtf8-from_ascii}
use Rattle.std.specs.List.{All}
use Rattle.std.specs.Str.{IsUtf8}
use Rattle.scope_sets.specs.Scopes.{IsPrintable}
use Rattle.plain_text.specs.Plain.{IsPlain}

IsPlain-low : (b : ℕ) → IsPlain b → b < 128
IsPlain-low b (inl is) = let high = is.1 in omega arith
IsPlain-low b (inr is) = omega arith

pub IsUtf8-plain : (text : List ℕ) → All IsPlain text → IsUtf8 text
IsUtf8-plain text all = IsUtf8-from_ascii text (λ i. elim (cases_lt i (length text)) [
  | inl within ↦ IsPlain-low (get_or text i 0) (all i 0 within)
  | inr past ↦ let none : get_or text i 0 ≡ 0 = get_or_past text i 0 past in omega arith
])

pub All-plain : (text : List ℕ) → All IsPrintable text → All IsPlain text
All-plain text all = All-weaker IsPrintable IsPlain (λ b is. inl is) text all
