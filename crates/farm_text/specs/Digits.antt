-- The digits at the front of a text; for private clauses.
use Rattle.std.specs.Prelude.{ℕ, suc, ◌&&◌, List, [], ◌∷◌, nat_le, if◌then◌else◌}

-- how many
abbrev pub digits_ahead : List ℕ → ℕ
digits_ahead [] = 0
digits_ahead (c ∷ cs) = if nat_le 48 c && nat_le c 57 then suc (digits_ahead cs) else 0
