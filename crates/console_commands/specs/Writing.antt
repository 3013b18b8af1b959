-- How much of a text was written, and what a command left alone.
use Rattle.std.specs.Prelude.{◌≡◌, ℕ, ◌⊎◌, List, Option}
use Rattle.std.specs.Io.KnownBytes.{Appends}
use Rattle.causes.specs.Causes.{Rose}
use Rattle.http_wire.specs.Whole.{AppendsFront}
use Rattle.console_commands.specs.declared.status.Status.{Status}
use Rattle.console_commands.specs.declared.status.Status.TheVariants.{Done, Write}
use Rattle.http_wire.specs.Calls.{LinkState}

-- all of a text was written; or a write failed, and a front of it was
abbrev pub WritesFront : Option (List ℕ) → Option (List ℕ) → ℕ → ℕ → List ℕ → Type 0
WritesFront written_before written_after faults_before faults_after text =
    Appends written_before written_after text ⊎ (AppendsFront written_before written_after text × Rose faults_before faults_after)

-- the console was not read
pub record SameReads (before after : LinkState) : Type 0 where
  pub left : after.left ≡ before.left
  pub faults : after.read_faults ≡ before.read_faults

-- nothing was written to the console
pub record SameWrites (before after : LinkState) : Type 0 where
  pub written : after.written ≡ before.written
  pub faults : after.write_faults ≡ before.write_faults

-- a text was written to the console; or a write failed, and a front of it was
abbrev pub WritesText : LinkState → LinkState → List ℕ → Status → Type 0
WritesText before after text Done = Appends before.written after.written text × (after.write_faults ≡ before.write_faults)
WritesText before after text Write = AppendsFront before.written after.written text × Rose before.write_faults after.write_faults
WritesText before after text _ = ⊥
