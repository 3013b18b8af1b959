-- What a link tells at one moment, and what a call that only reads, or only writes, leaves as it was.
use Rattle.std.specs.Prelude.{◌≡◌, ℕ, ◌≤◌, List, Option, Result, Ok, Err}
use Rattle.causes.specs.Causes.{Rose}
use Rattle.http_wire.specs.declared.link.Link as links
use Rattle.http_wire.specs.declared.message.Wire.{Wire}
use Rattle.http_wire.specs.declared.message.Wire.TheVariants.{ReadFault}

-- the bytes that reads will give, all that was written, and how many reads and writes have failed
pub record LinkState : Type 0 where
  pub left : Option (List ℕ)
  pub written : Option (List ℕ)
  pub read_faults : ℕ
  pub write_faults : ℕ

-- what this link tells now
abbrev pub state_of : {L : Type 0} → links.Ghosts L → L → LinkState
state_of tells link = record { left = tells.left link; written = tells.written link; read_faults = tells.read_faults link; write_faults = tells.write_faults link }

-- the count of failed reads rose where a read failed, and else is as it was
abbrev pub CountsReads : {T : Type 0} → ℕ → ℕ → Result T Wire → Type 0
CountsReads before now (Ok value) = now ≡ before
CountsReads before now (Err ReadFault) = Rose before now
CountsReads before now (Err wire) = now ≡ before

-- A call only read: the count of failed reads never falls and has its cause, and nothing was written, nor did a write fail.
pub record OnlyReads {T : Type 0} (before now : LinkState) (result : Result T Wire) : Type 0 where
  pub later : before.read_faults ≤ now.read_faults
  pub reads : CountsReads before.read_faults now.read_faults result
  pub written : now.written ≡ before.written
  pub write_faults : now.write_faults ≡ before.write_faults
