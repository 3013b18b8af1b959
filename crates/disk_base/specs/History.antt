-- The contents of a disk that keeps its first bytes and its calls, of which the newest comes first.
use Rattle.std.specs.Prelude.{◌≡◌, ℕ, ◌≤◌, ◌⊎◌, Bool, true, List, [], ◌∷◌, length, take}
use Rattle.disk_base.specs.Calls.{written, Torn, Shortened}

-- a write or a cut, with whether it was done, or a sync that was done; a call that changed nothing is not kept
pub data Call : Type 0 where
  wrote : (at : ℕ) → (bytes : List ℕ) → (done : Bool) → Call
  cut : (size : ℕ) → (done : Bool) → Call
  synced : Call

-- what a read gives after these calls on a file that had the first bytes
abbrev pub read_after : List ℕ → List Call → List ℕ
read_after first [] = first
read_after first (wrote at bytes true ∷ calls) = written at bytes (read_after first calls)
read_after first (cut size true ∷ calls) = take size (read_after first calls)
read_after first (_ ∷ calls) = read_after first calls

-- a stop right after these calls may leave this
abbrev pub MayLeave : List ℕ → List Call → List ℕ → Type 0
MayLeave first [] image = image ≡ first
MayLeave first (wrote at bytes done ∷ calls) image = (before : List ℕ) × MayLeave first calls before × Torn at (length bytes) before image
MayLeave first (cut size done ∷ calls) image = (before : List ℕ) × MayLeave first calls before × Shortened size before image
MayLeave first (synced ∷ calls) image = image ≡ read_after first calls

-- a stop when at least t of these calls were made might have left this
abbrev pub LeftSince : List ℕ → List Call → ℕ → List ℕ → Type 0
LeftSince first [] t image = image ≡ first
LeftSince first (call ∷ calls) t image = MayLeave first (call ∷ calls) image ⊎ ((t ≤ length calls) × LeftSince first calls t image)
