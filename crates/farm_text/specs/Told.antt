-- What a list tells: its values in order, and after them the last one again.
use Rattle.std.specs.Prelude.{◌≡◌, ℕ, ◌-◌, ◌^◌, List, [], ◌∷◌, map, min, nat_lt, slice_get, unwrap_or, if◌then◌else◌, Option, Some, None}
use Rattle.std.specs.List.{range_with_len, last_or}
use Rattle.farm_text.specs.declared.moment.TheConstants.{LAST_TOLD_MOMENT}

-- the value told by the call that k calls came before: the one at place k, past the end the last one, and `other` of an empty list
abbrev pub told_at : {A : Type 0} → List A → A → ℕ → A
told_at values other k = unwrap_or (slice_get values k) (unwrap_or (last_or None values) other)

-- the values told by the first n calls, which are counted up to 2^64 - 2
abbrev pub told_by : {A : Type 0} → (ℕ → A) → ℕ → Option (List A)
told_by value n = if nat_lt n (2 ^ 64 - 1) then Some (map value (range_with_len 0 n)) else None

-- where a log is told, another one is told beside it, and is empty
abbrev pub IsNewBeside : {A : Type 0} → Option (List A) → Option (List A) → Type 0
IsNewBeside None other = Unit {0}
IsNewBeside (Some values) other = other ≡ Some []

-- what a clock over these moments tells after k calls
abbrev pub listed_moment : List ℕ → ℕ → ℕ
listed_moment moments k = min (told_at moments 0 k) LAST_TOLD_MOMENT

-- UUID 00000000-0000-4000-8000-000000000000
abbrev pub first_uuid : List ℕ
first_uuid = 0 ∷ 0 ∷ 0 ∷ 0 ∷ 0 ∷ 0 ∷ 64 ∷ 0 ∷ 128 ∷ 0 ∷ 0 ∷ 0 ∷ 0 ∷ 0 ∷ 0 ∷ 0 ∷ []

-- what draws over these ids give after k calls
abbrev pub listed_id : List (List ℕ) → ℕ → List ℕ
listed_id ids k = told_at ids first_uuid k
