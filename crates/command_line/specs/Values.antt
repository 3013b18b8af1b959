-- The forms of the values of options, as tests on their bytes.
use Rattle.std.specs.Prelude.{ℕ, Bool, ◌==◌, ◌&&◌, ◌||◌, not, List, length, codes, nat_le}
use Rattle.std.specs.List.{list_all, list_any}
use Rattle.std.specs.Str.Parse.{digits_value}

-- from the least to the most
abbrev pub is_between : ℕ → ℕ → ℕ → Bool
is_between least most n = nat_le least n && nat_le n most

-- so many bytes of a class, at least and at most
abbrev pub has_form : ℕ → ℕ → (ℕ → Bool) → List ℕ → Bool
has_form least most class text = is_between least most (length text) && list_all class text

-- the classes `[0-9]`, `[A-Za-z]` and `[A-Za-z0-9]`
abbrev pub is_digit : ℕ → Bool
is_digit b = is_between 48 57 b

abbrev pub is_letter : ℕ → Bool
is_letter b = is_between 65 90 b || is_between 97 122 b

abbrev pub is_alphanumeric : ℕ → Bool
is_alphanumeric b = is_letter b || is_digit b

-- printable ASCII
abbrev pub is_printable : ℕ → Bool
is_printable b = is_between 32 126 b

-- one of these bytes
abbrev pub is_one_of : List ℕ → ℕ → Bool
is_one_of bytes b = list_any (λ one. one == b) bytes

-- the classes `[A-Za-z0-9!@/:.+|_-]` of a client's id and `[A-Za-z0-9_-]` of its token
abbrev pub is_id_byte : ℕ → Bool
is_id_byte b = is_alphanumeric b || is_one_of (codes "!@/:.+|_-") b

abbrev pub is_token_byte : ℕ → Bool
is_token_byte b = is_alphanumeric b || is_one_of (codes "_-") b

-- what may stand in a value of the header: printable ASCII without `"` and `\`
abbrev pub is_value_byte : ℕ → Bool
is_value_byte b = is_printable b && not (is_one_of (codes "\"\\") b)

-- printable ASCII without the space
abbrev pub is_target_byte : ℕ → Bool
is_target_byte b = is_between 33 126 b

-- all bytes are of a class; and there is one
abbrev pub are_all : (ℕ → Bool) → List ℕ → Bool
are_all class text = list_all class text

abbrev pub are_some : (ℕ → Bool) → List ℕ → Bool
are_some class text = nat_le 1 (length text) && list_all class text

-- a number of 1 to 19 digits, from the least to the most
abbrev pub is_number : ℕ → ℕ → List ℕ → Bool
is_number least most text = has_form 1 19 is_digit text && is_between least most (digits_value 10 text)
