-- Texts that a terminal shows as they are (the printable characters of ASCII, RFC 20).
use Rattle.std.specs.Prelude.{◌≡◌, ℕ, ◌+◌, ◌/◌, ◌%◌, ◌⊎◌, List, [], ◌∷◌, Bool, false, true, ◌&&◌, ◌||◌, ◌==◌, nat_lt, nat_le, if◌then◌else◌}
use Rattle.std.specs.List.{flat_map}
use Rattle.scope_sets.specs.Scopes.{IsPrintable}

-- a byte of a text of lines: printable ASCII, or a line feed (10)
abbrev pub IsPlain : ℕ → Type 0
IsPlain b = IsPrintable b ⊎ (b ≡ 10)

-- a byte that is kept, where line feeds are or are not
abbrev pub IsKept : Bool → ℕ → Type 0
IsKept false b = IsPrintable b
IsKept true b = IsPlain b

-- whether a byte is kept, where line feeds are or are not
abbrev pub is_kept : Bool → ℕ → Bool
is_kept feeds b = (nat_le 32 b && nat_le b 126) || (feeds && (b == 10))

-- the digit of a value below 16 (RFC 4648, base 16, in lower case)
abbrev pub digit_of : ℕ → ℕ
digit_of value = if nat_lt value 10 then 48 + value else 87 + value

-- how a byte is written: as it is, or as `\x` with two digits of base 16
abbrev pub escape : Bool → ℕ → List ℕ
escape feeds b = if is_kept feeds b then b ∷ [] else 92 ∷ 120 ∷ digit_of (b / 16) ∷ digit_of (b % 16) ∷ []

-- each byte in turn
abbrev pub escaped : Bool → List ℕ → List ℕ
escaped feeds text = flat_map (escape feeds) text
