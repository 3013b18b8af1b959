-- Where the disk is after an opening.
use Rattle.std.specs.Prelude.{Result, Ok, Err}

-- the disk of what is opened, or the one beside the fault
abbrev pub disk_after : {D J B F : Type 0} → (J → D) → Result (J × B) (F × D × B) → D
disk_after disk_of (Ok opened) = disk_of opened.0
disk_after disk_of (Err refused) = refused.1
