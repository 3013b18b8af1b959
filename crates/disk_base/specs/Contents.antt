-- What a disk holds, and what a stop of the machine may leave of it. All rules are own.
use Rattle.std.specs.Prelude.{◌≡◌, ℕ, ◌≤◌, ◌⊎◌, List}

-- A stop ends the machine at some moment, during a call or between two. A moment is a number that does not fall.
pub record Contents : Type 1 where
  -- what a read gives
  pub bytes : List ℕ
  pub moment : ℕ
  -- the bytes that a stop at some moment from this one on, and up to now, might have left
  pub left_since : ℕ → List ℕ → Type 0
  pub earlier : (t u : ℕ) (image : List ℕ) → t ≤ u → left_since u image → left_since t image
  pub reads : left_since moment bytes

-- a stop now may leave these bytes: they are an image of the disk
abbrev pub LeftNow : Contents → List ℕ → Type 0
LeftNow disk image = disk.left_since disk.moment image

-- nothing is pending: a stop now leaves what a read gives
abbrev pub IsSettled : Contents → Type 0
IsSettled disk = (image : List ℕ) → LeftNow disk image → image ≡ disk.bytes

-- what was pending is pending: each image is one still
abbrev pub KeepsPending : Contents → Contents → Type 0
KeepsPending old new = (image : List ℕ) → LeftNow old image → LeftNow new image

-- A stop at any moment since `old` leaves what a stop by then might have left, or what has P; what might have been left stays so.
pub record StopsLeave (old new : Contents) (P : List ℕ → Type 0) : Type 0 where
  pub later : old.moment ≤ new.moment
  pub adds : (t : ℕ) (image : List ℕ) → t ≤ old.moment → new.left_since t image → old.left_since t image ⊎ P image
  pub keeps : (t : ℕ) (image : List ℕ) → t ≤ old.moment → old.left_since t image → new.left_since t image

-- a stop since `old` leaves nothing that a stop by then might not have left
abbrev pub StopsAddNothing : Contents → Contents → Type 0
StopsAddNothing old new = StopsLeave old new (λ _. ⊥)
