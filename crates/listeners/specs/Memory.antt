-- What a door in memory tells.
use Rattle.std.specs.Prelude.{ℕ, List, map, Option, Some}
use Rattle.http_wire.specs.Calls.{LinkState}
use Rattle.http_wire.specs.Memory.{source_left, read_faults, sink_written, write_faults}
use Rattle.http_wire.specs.declared.joined.Joined.{Joined}
use Rattle.http_wire.specs.declared.memory.MemorySource.{MemorySource}
use Rattle.http_wire.specs.declared.memory.MemorySink.{MemorySink}
use Rattle.listeners.specs.declared.coming.MemoryListener.{MemoryListener}

-- what a link in memory tells
abbrev pub memory_state : Joined MemorySource MemorySink → LinkState
memory_state link = record {
  left = source_left link.source;
  written = sink_written link.sink;
  read_faults = read_faults link.source;
  write_faults = write_faults link.sink;
}

-- the links that it gave, as they were then; a door in memory tells always
abbrev pub links_given : MemoryListener → Option (List LinkState)
links_given door = Some (map (λ seen. memory_state seen.value) door.given.items)

-- the links that it took back, with the numbers of their messages asked
abbrev pub links_taken : MemoryListener → Option (List (LinkState × ℕ))
links_taken door = Some (map (λ back. (memory_state back.link, back.asked)) door.returned.items)

-- how many of its links are out
abbrev pub links_out : MemoryListener → ℕ
links_out door = door.out

-- how many accepts were made
abbrev pub accepts_made : MemoryListener → ℕ
accepts_made door = door.calls

-- how many of its accepts failed
abbrev pub accept_faults : MemoryListener → ℕ
accept_faults door = door.faults
