-- What each call does to a disk. Between two syncs each written range, and the part past the old end, may hold any bytes after a
-- stop, of any length up to the greatest in between; other bytes stay. All rules are own.
use Rattle.std.specs.Prelude.{◌≡◌, ℕ, ◌+◌, ◌-◌, ◌<◌, ◌≤◌, min, max, List, [], ◌∷◌, ◌++◌, length, take, drop, replicate, slice_index, Result, IfOk, OnOk, OnErr}
use Rattle.disk_base.specs.Contents.{Contents, LeftNow, IsSettled, KeepsPending, StopsLeave, StopsAddNothing}

-- a file with these bytes at that place, and zeros in a gap before them
abbrev pub written : ℕ → List ℕ → List ℕ → List ℕ
written at [] old = old
written at (byte ∷ bytes) old =
    take at (old ++ replicate (at - length old) 0) ++ (byte ∷ bytes ++ drop (at + length (byte ∷ bytes)) old)

-- a stop may make this of a file in a write of n bytes at `at`
pub record Torn (at n : ℕ) (old new : List ℕ) : Type 0 where
  pub no_shorter : length old ≤ length new
  pub no_longer : length new ≤ max (length old) (at + n)
  pub before : (i : ℕ) → i < at → i < length old → slice_index new i ≡ slice_index old i
  pub after : (i : ℕ) → at + n ≤ i → i < length old → slice_index new i ≡ slice_index old i

-- a stop may make this of a file in a cut to that size
pub record Shortened (size : ℕ) (old new : List ℕ) : Type 0 where
  pub no_shorter : min size (length old) ≤ length new
  pub front : new ≡ take (length new) old

-- what a stop may leave after a step from an image
abbrev pub After : (List ℕ → List ℕ → Type 0) → Contents → List ℕ → Type 0
After step old image = (before : List ℕ) × LeftNow old before × step before image

-- A read changes nothing. It gives a front of what is there from `at` on, at least one byte where there is one and room for it.
pub record Reads {E : Type 0} (at : ℕ) (old new : Contents) (result : Result ℕ E) (buf : List ℕ) : Type 0 where
  pub bytes : IfOk result (λ n. take n buf ≡ take n (drop at old.bytes))
  pub count : IfOk result (λ n. n ≤ length old.bytes - at)
  pub some : IfOk result (λ n. 0 < length buf → at < length old.bytes → 0 < n)
  pub same : new.bytes ≡ old.bytes
  pub stops : StopsAddNothing old new
  pub pending : KeepsPending old new

pub record Writes {T E : Type 0} (at : ℕ) (bytes : List ℕ) (old new : Contents) (result : Result T E) : Type 0 where
  pub done : OnOk result (new.bytes ≡ written at bytes old.bytes)
  pub stops : StopsLeave old new (After (Torn at (length bytes)) old)
  pub pending : OnErr result (KeepsPending old new)

-- A cut never lengthens.
pub record Cuts {T E : Type 0} (size : ℕ) (old new : Contents) (result : Result T E) : Type 0 where
  pub done : OnOk result (new.bytes ≡ take size old.bytes)
  pub stops : StopsLeave old new (After (Shortened size) old)
  pub pending : OnErr result (KeepsPending old new)

-- After a sync that succeeds nothing is pending; one that fails changes nothing.
pub record Syncs {T E : Type 0} (old new : Contents) (result : Result T E) : Type 0 where
  pub done : OnOk result (IsSettled new)
  pub same : new.bytes ≡ old.bytes
  pub stops : StopsAddNothing old new
  pub pending : OnErr result (KeepsPending old new)
