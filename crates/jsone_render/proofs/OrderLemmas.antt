-- When bytes begin with a text that is kept.
use Rattle.std.proofs.Common.{◌≡◌, ℕ, ◌+◌, ◌≤◌, List, [], ◌∷◌, ◌++◌, length, min, sym, ap, ◌∙◌, arith, append-nil}
use Rattle.jsone_render.specs.Readings.{first_or_curly, Begins}

-- both are equal as far as the shorter reaches, and so is the byte that is next
pub begins : (text bytes front rest start behind : List ℕ) (shared : ℕ) → text ≡ front ++ rest → bytes ≡ start ++ behind → length rest + shared ≡ length text → shared ≡ min (length text) (length bytes)
    → front ≡ start → first_or_curly rest ≡ first_or_curly behind → length text ≤ length bytes → Begins text bytes
begins text bytes front [] start behind shared cut split left fits same next small =
    (behind, split ∙ ap (λ l. l ++ behind) (sym same ∙ sym (append-nil front) ∙ sym cut), sym next)
begins text bytes front (b ∷ rest) start behind shared cut split left fits same next small = absurd (omega arith)
