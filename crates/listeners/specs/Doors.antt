-- What doors tell of their links.
use Rattle.std.specs.Prelude.{◌≡◌, ℕ, ◌+◌, ◌-◌, ◌^◌, ◌≤◌, ◌⊎◌, List, [], Option, option_map}
use Rattle.http_wire.specs.Calls.{LinkState}

-- a count is so many more, or stands at its last value
abbrev pub IsMore : ℕ → ℕ → ℕ → Type 0
IsMore more before after = (after ≡ before + more) ⊎ ((2 ^ 64 - 1 ≤ after) × (after ≤ before + more))

-- a log that is told where another one is, and that is empty
abbrev pub IsEmptyBeside : {A : Type 0} → Option (List A) → Option (List A) → Type 0
IsEmptyBeside other log = log ≡ option_map (λ told. []) other

-- A new door tells its links where the one that it was made of tells them. None was given or taken yet, none is out, and no accept was made.
pub record IsNewDoor (their_given given : Option (List LinkState)) (their_taken taken : Option (List (LinkState × ℕ))) (out accepts faults : ℕ) : Type 0 where
  pub none_given : IsEmptyBeside their_given given
  pub none_taken : IsEmptyBeside their_taken taken
  pub none_out : out ≡ 0
  pub none_made : accepts ≡ 0
  pub no_faults : faults ≡ 0
