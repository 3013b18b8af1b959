-- All bytes written to a link or read from one, by calls that each move some of them (as `write` and `read` of POSIX, IEEE 1003.1).
use Rattle.std.specs.Prelude.{◌≡◌, ℕ, ◌<◌, ◌≤◌, List, ◌++◌, length, Option, Result, OnOk, OnErr}
use Rattle.std.specs.Io.KnownBytes.{Appends, Consumes}
use Rattle.causes.specs.Causes.{Rose, HasCause}
use Rattle.http_wire.specs.Calls.{LinkState}
use Rattle.http_wire.specs.declared.body.TheConstants.{PIECE}
use Rattle.http_wire.specs.declared.whole.ReadAllFault.{ReadAllFault}
use Rattle.http_wire.specs.declared.whole.ReadAllFault.TheVariants.{Failed, NoMemory}

-- front is how text begins, and more of the text follows
abbrev pub IsProperFrontOf : List ℕ → List ℕ → Type 0
IsProperFrontOf front text = (more : List ℕ) × (0 < length more) × (text ≡ front ++ more)

-- known bytes grow by a front of these, and not by all of them
abbrev pub AppendsFront : Option (List ℕ) → Option (List ℕ) → List ℕ → Type 0
AppendsFront before after text = (front : List ℕ) × IsProperFrontOf front text × Appends before after front

-- the most that one read takes: 8,192 bytes, by a law
abbrev pub piece_size : ℕ
piece_size = PIECE

-- the bytes that a link has left have lost some at their front, no more than so many
abbrev pub LosesWithin : ℕ → Option (List ℕ) → Option (List ℕ) → Type 0
LosesWithin most before now = (gone : List ℕ) × Consumes before now gone × (length gone ≤ most)

-- why not all bytes could be read: a read failed, for which the count of faults rose, or memory ran out, and the count is as it was
abbrev pub FailsToReadAll : ℕ → ℕ → ReadAllFault → Type 0
FailsToReadAll before now Failed = Rose before now
FailsToReadAll before now NoMemory = now ≡ before

-- All of the text was written, or after a failed write, for which the count of faults rose, a front of it and not all. Nothing was read.
pub record WritesAll {T E : Type 0} (before now : LinkState) (text : List ℕ) (result : Result T E) : Type 0 where
  pub ok : OnOk result (Appends before.written now.written text)
  pub front : OnErr result (AppendsFront before.written now.written text)
  pub cause : HasCause before.write_faults now.write_faults result
  pub left : now.left ≡ before.left
  pub read_faults : now.read_faults ≡ before.read_faults
