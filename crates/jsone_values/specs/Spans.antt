-- Spans of time by their words, and the moments that they lead to (JSON-e, "$fromNow"; without months and years, and spaces alone between the words).
use Rattle.std.specs.Prelude.{◌≡◌, ◌≢◌, ℕ, ℤ, pos, neg_ℤ, ◌+◌, ◌*◌, ◌*ℤ◌, ◌+ℤ◌, ◌≤◌, Bool, true, false, ◌&&◌, ◌==◌, not, ◌⊎◌, if◌then◌else◌, codes, List, [], ◌∷◌, length, take, drop, slice_index, Option, Some, None, option_map, Result, Ok, Err}
use Rattle.std.specs.List.{prefix_len}
use Rattle.std.specs.Char.{is_ascii_digit, is_ascii_alphabetic}
use Rattle.std.specs.Map.{lookup}
use Rattle.std.specs.Str.{bytes_eq}
use Rattle.farm_text.specs.DateTime.{IsDateTime}
use Rattle.farm_text.specs.Moment.{IsMomentText}
use Rattle.farm_text.specs.Document.{Document, text}
use Rattle.jsone_values.specs.declared.faults.Fault.{Fault}
use Rattle.jsone_values.specs.declared.faults.Fault.TheVariants.{UnknownName, WrongKind, OutOfRange, BadSpan}
use Rattle.jsone_values.specs.Letters.{is_space}
use Rattle.jsone_values.specs.Numbers.{digits_from}

-- the units by their names, in milliseconds
abbrev pub unit_names : List (List ℕ × ℕ)
unit_names =
    (codes "weeks", 604_800_000) ∷ (codes "week", 604_800_000) ∷ (codes "w", 604_800_000) ∷ (codes "days", 86_400_000) ∷ (codes "day", 86_400_000) ∷ (codes "d", 86_400_000)
    ∷ (codes "hours", 3_600_000) ∷ (codes "hour", 3_600_000) ∷ (codes "h", 3_600_000)
    ∷ (codes "minutes", 60_000) ∷ (codes "minute", 60_000) ∷ (codes "min", 60_000) ∷ (codes "m", 60_000)
    ∷ (codes "seconds", 1_000) ∷ (codes "second", 1_000) ∷ (codes "sec", 1_000) ∷ (codes "s", 1_000) ∷ []

abbrev pub unit_of : List ℕ → Option ℕ
unit_of word = lookup (bytes_eq word) unit_names

-- weeks, days, hours, minutes and seconds
abbrev pub units : List ℕ
units = 604_800_000 ∷ 86_400_000 ∷ 3_600_000 ∷ 60_000 ∷ 1_000 ∷ []

abbrev pub unspaced : List ℕ → List ℕ
unspaced bs = drop (prefix_len is_space bs) bs

-- the digits at the front, and what stands behind them
abbrev pub front_digits : List ℕ → List ℕ
front_digits bs = take (prefix_len is_ascii_digit bs) bs

abbrev pub behind_digits : List ℕ → List ℕ
behind_digits bs = drop (prefix_len is_ascii_digit bs) bs

-- the same of letters
abbrev pub front_word : List ℕ → List ℕ
front_word bs = take (prefix_len is_ascii_alphabetic bs) bs

abbrev pub behind_word : List ℕ → List ℕ
behind_word bs = drop (prefix_len is_ascii_alphabetic bs) bs

abbrev pub is_unit : ℕ → Option ℕ → Bool
is_unit unit (Some size) = size == unit
is_unit unit None = false

-- digits and a name of this unit at the front of a text without spaces before it; spaces may stand between
abbrev pub begins_with_part : ℕ → List ℕ → Bool
begins_with_part unit bs = not (length (front_digits bs) == 0) && is_unit unit (unit_of (front_word (unspaced (behind_digits bs))))

abbrev pub behind_part : List ℕ → List ℕ
behind_part bs = behind_word (unspaced (behind_digits bs))

-- parts of these units in order, each at most once, with spaces before and behind each: their sum in milliseconds
abbrev pub parts_of : List ℕ → List ℕ → Option ℕ
parts_of [] bs = if length (unspaced bs) == 0 then Some 0 else None
parts_of (unit ∷ more) bs =
    if begins_with_part unit (unspaced bs) then option_map (λ n. digits_from 0 (front_digits (unspaced bs)) * unit + n) (parts_of more (behind_part (unspaced bs)))
    else parts_of more bs

-- a sign, if there is one, and parts: so many milliseconds later or, behind a minus, earlier
abbrev pub span_of : List ℕ → Option (Bool × ℕ)
span_of bs =
    if slice_index (unspaced bs) 0 == 45 then option_map (λ n. (true, n)) (parts_of units (drop 1 (unspaced bs)))
    else (if slice_index (unspaced bs) 0 == 43 then option_map (λ n. (false, n)) (parts_of units (drop 1 (unspaced bs)))
    else option_map (λ n. (false, n)) (parts_of units bs))

-- so long before or after a moment
abbrev pub shifted : Bool × ℕ → ℕ → ℤ
shifted span m = if span.0 then pos m +ℤ neg_ℤ (pos span.1) else pos m +ℤ pos span.1

-- the text of the moment, where there is one: up to the end of the year 9999
abbrev pub IsTextOf : ℤ → Result Document Fault → Type 0
IsTextOf z (Ok d) = (m : ℕ) × (bs : List ℕ) × (z ≡ pos m) × (m ≤ 253_402_300_799_999) × IsMomentText m bs × (d ≡ text bs)
IsTextOf z (Err f) = ((m : ℕ) → m ≤ 253_402_300_799_999 → z ≢ pos m) × (f ≡ OutOfRange)

-- the moment of this number of milliseconds, if there is one; for private clauses
abbrev pub IsPlaceOf : ℤ → Option ℕ → Type 0
IsPlaceOf z None = (m : ℕ) → m ≤ 253_402_300_799_999 → z ≢ pos m
IsPlaceOf z (Some m) = (z ≡ pos m) × (m ≤ 253_402_300_799_999)

-- so long before or after the moment that a text writes
abbrev pub IsMovedFrom : Bool × ℕ → List ℕ → Result Document Fault → Type 0
IsMovedFrom span from r = ((m : ℕ) × IsDateTime m from × IsTextOf (shifted span m) r) ⊎ (((m : ℕ) → ¬ IsDateTime m from) × (r ≡ Err WrongKind))

-- from a value, which has to be a text; without one there is no moment to begin at
abbrev pub IsMoved : Bool × ℕ → Option Document → Result Document Fault → Type 0
IsMoved span None r = r ≡ Err UnknownName
IsMoved span (Some (text from)) r = IsMovedFrom span from r
IsMoved span (Some _) r = r ≡ Err WrongKind

-- by a span, if there is one
abbrev pub IsMovedBy : Option (Bool × ℕ) → Option Document → Result Document Fault → Type 0
IsMovedBy None from r = r ≡ Err BadSpan
IsMovedBy (Some span) from r = IsMoved span from r

-- `fromNow`, of the text of a span: its form is judged before the moment is looked at
abbrev pub IsFromNow : Document → Option Document → Result Document Fault → Type 0
IsFromNow (text bs) from r = IsMovedBy (span_of bs) from r
IsFromNow _ from r = r ≡ Err WrongKind
