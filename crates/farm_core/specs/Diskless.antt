-- Entries in which no disk had a part: those of a farm without one.
use Rattle.std.specs.Prelude.{List, [], ◌∷◌}
use Rattle.farm_machine.specs.Entry.{Outcome, finished, out_of_memory, disk_failed, was_halted, Entry, tick, call}

-- a call finished, or memory ran out
abbrev pub NeedsNoDisk : Outcome → Type 0
NeedsNoDisk (finished judgement) = Unit {0}
NeedsNoDisk out_of_memory = Unit {0}
NeedsNoDisk disk_failed = ⊥
NeedsNoDisk was_halted = ⊥

-- the entry is a tick, or such a call
abbrev pub HasNoDisk : Entry → Type 0
HasNoDisk (tick moment) = Unit {0}
HasNoDisk (call asking outcome) = NeedsNoDisk outcome

-- each of them is
abbrev pub HaveNoDisk : List Entry → Type 0
HaveNoDisk [] = Unit {0}
HaveNoDisk (entry ∷ entries) = HasNoDisk entry × HaveNoDisk entries
