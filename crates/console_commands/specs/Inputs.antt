-- What a command does that reads an input to its end and writes what that gives.
use Rattle.std.specs.Prelude.{◌≡◌, ℕ, ◌+◌, List, IfSome}
use Rattle.std.specs.Io.KnownBytes.{IsAtEnd}
use Rattle.causes.specs.Causes.{Rose}
use Rattle.http_wire.specs.Calls.{LinkState}
use Rattle.http_wire.specs.Whole.{piece_size, LosesWithin}
use Rattle.console_commands.specs.declared.inputs.TheConstants.{LONGEST_INPUT}
use Rattle.console_commands.specs.declared.status.Status.{Status}
use Rattle.console_commands.specs.declared.status.Status.TheVariants.{Input, Read, NoMemory}
use Rattle.console_commands.specs.Writing.{SameReads, SameWrites, WritesText}

-- the greatest number of bytes of an input
abbrev pub longest_input : ℕ
longest_input = LONGEST_INPUT

-- no more was read than one piece past the greatest length
abbrev pub ReadsEnough : LinkState → LinkState → Type 0
ReadsEnough before after = LosesWithin (longest_input + piece_size) before.left after.left

-- What a command did with a console, by the status that it ended with: it read all that was to be read and wrote what that gives, or refused
-- what it read.
abbrev pub Turns : (List ℕ → List ℕ → Type 0) → (List ℕ → Type 0) → LinkState → LinkState → Status → Type 0
Turns Gives IsBad before after Input = IfSome before.left IsBad × (after.read_faults ≡ before.read_faults) × SameWrites before after × ReadsEnough before after
Turns Gives IsBad before after Read = Rose before.read_faults after.read_faults × SameWrites before after × ReadsEnough before after
Turns Gives IsBad before after NoMemory = (after.read_faults ≡ before.read_faults) × SameWrites before after × ReadsEnough before after
Turns Gives IsBad before after status =
    (text : List ℕ) × IfSome before.left (λ input. Gives input text) × IsAtEnd after.left × (after.read_faults ≡ before.read_faults) × WritesText before after text status

-- What a command did with a console that it does not read: it wrote this text.
abbrev pub Tells : List ℕ → LinkState → LinkState → Status → Type 0
Tells text before after NoMemory = SameReads before after × SameWrites before after
Tells text before after status = SameReads before after × WritesText before after text status
