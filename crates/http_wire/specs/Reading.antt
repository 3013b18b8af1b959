-- Why a step of the reader stopped, and what a call leaves of a stream.
use Rattle.std.specs.Prelude.{ℕ, ◌<◌, Bool, true, false, List, length, Option, IfSome}
use Rattle.std.specs.Bool.{MatchBool}
use Rattle.std.specs.Io.KnownBytes.{Keeps, Consumes, IsAtEnd}
use Rattle.causes.specs.Causes.{Rose}
use Rattle.http_wire.specs.declared.message.Wire.{Wire}
use Rattle.http_wire.specs.declared.message.Wire.TheVariants.{End, EndedInside, ReadFault, NoMemory}

-- the stream has lost some bytes at its front, or none
abbrev pub Loses : Option (List ℕ) → Option (List ℕ) → Type 0
Loses before now = (gone : List ℕ) × Consumes before now gone

-- a piece did not come: a read failed, or memory ran out
abbrev pub IsFillStop : ℕ → ℕ → Wire → Type 0
IsFillStop before now ReadFault = Rose before now
IsFillStop before now NoMemory = Unit {0}
IsFillStop before now wire = ⊥

-- the next size bytes did not come: fewer are left, or a read failed
abbrev pub IsReadStop : ℕ → Option (List ℕ) → ℕ → ℕ → Wire → Type 0
IsReadStop size left before now EndedInside = IfSome left (λ bytes. length bytes < size)
IsReadStop size left before now ReadFault = Rose before now
IsReadStop size left before now wire = ⊥

-- the same, or memory ran out
abbrev pub IsBodyStop : ℕ → Option (List ℕ) → ℕ → ℕ → Wire → Type 0
IsBodyStop size left before now NoMemory = Unit {0}
IsBodyStop size left before now wire = IsReadStop size left before now wire

-- the reasons that say that the input has ended
abbrev pub is_ending : Wire → Bool
is_ending End = true
is_ending EndedInside = true
is_ending wire = false

-- where the reason says that the input has ended, no byte is left to read
abbrev pub Ends : Option (List ℕ) → Wire → Type 0
Ends left wire = MatchBool (is_ending wire) (IsAtEnd left) (Unit {0})

-- the reasons that come before any part of a body has been read
abbrev pub keeps_all : Wire → Bool
keeps_all EndedInside = false
keeps_all ReadFault = false
keeps_all wire = true

-- what a call that gave no message leaves: all of the stream, or all but some bytes at its front where it ended or a read failed
abbrev pub Leaves : Option (List ℕ) → Option (List ℕ) → Wire → Type 0
Leaves before now wire = MatchBool (keeps_all wire) (Keeps before now) (Loses before now)
