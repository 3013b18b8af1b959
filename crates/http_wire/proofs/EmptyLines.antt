-- Empty lines, as the code tells them.
use Rattle.std.proofs.Common.{◌≡◌, ℕ, zero, suc, Bool, true, false, ◌&&◌, ◌==◌, List, [], ◌∷◌, replicate, refl, sym, ◌∙◌, subst}
use Rattle.std.specs.List.{concat}
use Rattle.std.proofs.lemmas.Bool.{and_parts, eqb-true, false≢true}
use Rattle.httparse.specs.Ascii.{line_feed, carriage_return}
use Rattle.http_wire.specs.Head.{IsEmptyLines}

-- two bytes at a time, each time a carriage return and a line feed
abbrev pub is_pairs : List ℕ → Bool
is_pairs [] = true
is_pairs (a ∷ []) = false
is_pairs (a ∷ b ∷ bytes) = (a == carriage_return) && ((b == line_feed) && is_pairs bytes)

one_more_line : (a b : ℕ) (bytes : List ℕ) → a ≡ carriage_return → b ≡ line_feed → IsEmptyLines bytes → IsEmptyLines (a ∷ b ∷ bytes)
one_more_line a b bytes first second (count, is) = (suc count, rw (first, second, is))

EmptyLines-from_pairs : (bytes : List ℕ) → is_pairs bytes ≡ true → IsEmptyLines bytes
EmptyLines-from_pairs [] e = (0, refl)
EmptyLines-from_pairs (a ∷ []) e = absurd (false≢true e)
EmptyLines-from_pairs (a ∷ b ∷ bytes) e =
    let parts = and_parts _ _ e in
    let inner = and_parts _ _ parts.1 in
    one_more_line a b bytes (eqb-true a carriage_return parts.0) (eqb-true b line_feed inner.0) (EmptyLines-from_pairs bytes inner.1)

pairs_of_lines : (count : ℕ) → is_pairs (concat (replicate count (carriage_return ∷ line_feed ∷ []))) ≡ true
pairs_of_lines zero = refl
pairs_of_lines (suc count) = pairs_of_lines count

pub empty_lines_meaning : (bytes : List ℕ) (r : Bool) → r ≡ is_pairs bytes → (r ≡ true → IsEmptyLines bytes) × (IsEmptyLines bytes → r ≡ true)
empty_lines_meaning bytes r e = (
  λ t. EmptyLines-from_pairs bytes (sym e ∙ t),
  λ lines. e ∙ subst (λ (b : List ℕ). is_pairs b ≡ true) (sym lines.1) (pairs_of_lines lines.0),
)
