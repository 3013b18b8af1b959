-- What notes are told of a run.
use Rattle.std.specs.Prelude.{◌≡◌, ℕ, List, Option}
use Rattle.console_commands.specs.declared.status.Status.{Status}
use Rattle.console_commands.specs.declared.status.Status.TheVariants.{Done}
use Rattle.houses.specs.declared.lending.Lending.{Lending}
use Rattle.houses.specs.House.{WasLent}
use Rattle.console_commands.specs.Notes.{IsLineOf}
use Rattle.console_commands.specs.Writing.{WritesFront}

-- notes were told a text, as far as their writes did not fail
pub record TellsLine {N : Type 0} (written : N → Option (List ℕ)) (faults : N → ℕ) (old new : Lending N) (line : List ℕ) : Type 0 where
  pub given : N
  pub back : N
  pub lent : WasLent old new given back
  pub writes : WritesFront (written given) (written back) (faults given) (faults back) line

-- what notes are told of a run that ended so; of one that is done they are not asked for
abbrev pub TellsStatus : {N : Type 0} → (N → Option (List ℕ)) → (N → ℕ) → Lending N → Lending N → Status → Type 0
TellsStatus written faults old new Done = new ≡ old
TellsStatus written faults old new status = (line : List ℕ) × IsLineOf status line × TellsLine written faults old new line
