-- Names, which operators bind (JSON-e, "Language"), and the keys that bind them: `each(v)`, `each(v,i)` and `by(v)`.
use Rattle.std.specs.Prelude.{◌≡◌, ℕ, Bool, true, false, not, ◌&&◌, ◌||◌, codes, List, [], ◌∷◌, ◌++◌}
use Rattle.std.specs.List.{list_all}
use Rattle.std.specs.Str.{bytes_eq}
use Rattle.jsone_expr.specs.Tokens.{is_letter, is_word_byte}

-- the words of the language that are no names
abbrev pub is_reserved : List ℕ → Bool
is_reserved bs = bytes_eq bs (codes "in") || (bytes_eq bs (codes "true") || (bytes_eq bs (codes "false") || bytes_eq bs (codes "null")))

-- a letter or `_`, and then letters, digits and `_`
abbrev pub is_name : List ℕ → Bool
is_name [] = false
is_name (b ∷ bs) = is_letter b && (list_all is_word_byte bs && not (is_reserved (b ∷ bs)))

-- up to three names with commas between them
abbrev pub between_commas : List (List ℕ) → List ℕ
between_commas [] = []
between_commas (a ∷ []) = a
between_commas (a ∷ b ∷ []) = a ++ 44 ∷ b
between_commas (a ∷ b ∷ c ∷ ds) = a ++ 44 ∷ (b ++ 44 ∷ c)

-- no two of them are equal
abbrev pub are_distinct : List (List ℕ) → Bool
are_distinct [] = false
are_distinct (a ∷ []) = true
are_distinct (a ∷ b ∷ []) = not (bytes_eq a b)
are_distinct (a ∷ b ∷ c ∷ []) = not (bytes_eq a b) && (not (bytes_eq a c) && not (bytes_eq b c))
are_distinct (a ∷ b ∷ c ∷ d ∷ ds) = false

-- the key is the word, and in brackets behind it these names: one, two or three
pub record IsBinder (word key : List ℕ) (names : List (List ℕ)) : Type 0 where
  pub spelled : key ≡ word ++ 40 ∷ (between_commas names ++ 41 ∷ [])
  pub named : list_all is_name names ≡ true
  pub distinct : are_distinct names ≡ true
