-- What the sources and sinks in memory tell beside their bytes: which of their calls fail.
use Rattle.std.specs.Prelude.{ℕ, ◌+◌, ◌-◌, ◌^◌, min, max, List, drop, Option, Some, vec_len, vec_capacity}
use Rattle.std.specs.Io.Cursor.{cursor_position, cursor_inner}
use Rattle.http_wire.specs.declared.memory.MemorySource.{MemorySource}
use Rattle.http_wire.specs.declared.memory.MemorySink.{MemorySink}

-- the number of the next call, which stands still at its last value
abbrev pub next_call : ℕ → ℕ
next_call call = min (call + 1) (2 ^ 64 - 1)

-- the bytes that a source has left to give
abbrev pub source_left : MemorySource → Option (List ℕ)
source_left s = Some (drop (cursor_position s.bytes) (cursor_inner s.bytes).items)

-- how many reads have failed
abbrev pub read_faults : MemorySource → ℕ
read_faults s = s.faults

-- the numbers of the reads that fail
abbrev pub failing_reads : MemorySource → List ℕ
failing_reads s = s.failing.items

-- the number of the next read
abbrev pub read_number : MemorySource → ℕ
read_number s = s.calls

-- the most bytes that one read gives
abbrev pub read_piece : MemorySource → ℕ
read_piece s = max s.piece 1

-- the numbers of the writes that fail
abbrev pub failing_writes : MemorySink → List ℕ
failing_writes s = s.failing.items

-- the number of the next write
abbrev pub write_number : MemorySink → ℕ
write_number s = s.calls

-- how many bytes still fit
abbrev pub room_left : MemorySink → ℕ
room_left s = vec_capacity s.bytes - vec_len s.bytes

-- what is written so far
abbrev pub sink_written : MemorySink → Option (List ℕ)
sink_written s = Some s.bytes.items

-- how many writes have failed
abbrev pub write_faults : MemorySink → ℕ
write_faults s = s.faults
