-- An input that is read to its end, and what is then written.
use Rattle.std.proofs.Common.{◌≡◌, ℕ, ◌∙◌, List, Option, Some, None, subst}
use Rattle.std.specs.Prelude.{IfSome}
use Rattle.std.specs.Io.KnownBytes.{IsAtEnd}
use Rattle.http_wire.specs.Calls.{LinkState}
use Rattle.console_commands.specs.Inputs.{Turns}
use Rattle.console_commands.specs.Writing.{SameReads, SameWrites, WritesText}
use Rattle.console_commands.specs.declared.status.Status.{Status}
use Rattle.console_commands.specs.declared.status.Status.TheVariants.{Done, Usage, FarmFile, Input, Opening, Disk, Door, Read, Write, NoMemory, Wire, Damaged}

-- all that was left was read, and this is so of it
held : (left : Option (List ℕ)) (input : List ℕ) (IsSo : List ℕ → Type 0) → IfSome left (λ all. input ≡ all) → IsSo input → IfSome left IsSo
held None input IsSo all so = tt
held (Some bytes) input IsSo all so = subst IsSo all so

module _ (Gives : List ℕ → List ℕ → Type 0) (IsBad : List ℕ → Type 0) where
  -- an input was read to its end, and then what it gives was written
  pub Turns-written : (before between after : LinkState) (input text : List ℕ) (status : Status)
      → IfSome before.left (λ all. input ≡ all) → Gives input text → IsAtEnd between.left
      → between.read_faults ≡ before.read_faults → SameWrites before between → SameReads between after
      → WritesText between after text status → Turns Gives IsBad before after status
  Turns-written before between after input text Done all is end reads same kept writes =
      (text, held before.left input (λ i. Gives i text) all is, rw kept.left end, kept.faults ∙ reads, rw (same.written, same.faults) at writes)
  Turns-written before between after input text Write all is end reads same kept writes =
      (text, held before.left input (λ i. Gives i text) all is, rw kept.left end, kept.faults ∙ reads, rw (same.written, same.faults) at writes)
  Turns-written before between after input text Usage all is end reads same kept writes = absurd writes
  Turns-written before between after input text FarmFile all is end reads same kept writes = absurd writes
  Turns-written before between after input text Input all is end reads same kept writes = absurd writes
  Turns-written before between after input text Opening all is end reads same kept writes = absurd writes
  Turns-written before between after input text Disk all is end reads same kept writes = absurd writes
  Turns-written before between after input text Read all is end reads same kept writes = absurd writes
  Turns-written before between after input text NoMemory all is end reads same kept writes = absurd writes
  Turns-written before between after input text Wire all is end reads same kept writes = absurd writes
  Turns-written before between after input text Door all is end reads same kept writes = absurd writes
  Turns-written before between after input text Damaged all is end reads same kept writes = absurd writes
