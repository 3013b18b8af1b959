-- What a disk in memory tells.
use Rattle.std.specs.Prelude.{◌≡◌, ℕ, ◌+◌, ◌-◌, ◌^◌, min, List, ◌⊎◌, ◌<◌, ◌≤◌, Contains, reverse, vec_len, vec_capacity, Result, OnErr}
use Rattle.disk_base.specs.declared.memory.MemoryDisk.{MemoryDisk}
use Rattle.disk_base.specs.Contents.{Contents}
use Rattle.disk_base.specs.History.{Call}
use Rattle.disk_base.specs.Steps.{calls_of}
use Rattle.disk_base.specs.HistoryLaws.{contents_after}

-- its calls that changed something
abbrev pub kept_calls : MemoryDisk → List Call
kept_calls disk = calls_of disk.arena.items (reverse disk.steps.items)

abbrev pub memory_contents : MemoryDisk → Contents
memory_contents disk = contents_after disk.first.items (kept_calls disk)

-- how many calls have failed
abbrev pub memory_faults : MemoryDisk → ℕ
memory_faults disk = disk.faults

-- the numbers of the calls that fail, and the number of the next call
abbrev pub failing_calls : MemoryDisk → List ℕ
failing_calls disk = disk.failing.items

abbrev pub call_number : MemoryDisk → ℕ
call_number disk = disk.calls

-- the number after this one, which stands still at its last value
abbrev pub next_number : ℕ → ℕ
next_number n = min (n + 1) (2 ^ 64 - 1)

-- how many more calls can change something, how many bytes more can be written in all, and the greatest length
abbrev pub calls_left : MemoryDisk → ℕ
calls_left disk = vec_capacity disk.steps - vec_len disk.steps

abbrev pub bytes_left : MemoryDisk → ℕ
bytes_left disk = vec_capacity disk.arena - vec_len disk.arena

abbrev pub greatest_length : MemoryDisk → ℕ
greatest_length disk = vec_capacity disk.bytes

-- a call fails by choice
abbrev pub IsChosen : MemoryDisk → Type 0
IsChosen disk = Contains (failing_calls disk) (call_number disk)

-- there is no room for a write of n bytes at `at`
abbrev pub HasNoRoom : MemoryDisk → ℕ → ℕ → Type 0
HasNoRoom disk at n = (calls_left disk ≡ 0) ⊎ (bytes_left disk < n) ⊎ (greatest_length disk < at + n)

-- a call is counted: the calls that are to fail stay, its number is past, and one that failed is counted as a fault
pub record CountsCall {T E : Type 0} (old new : MemoryDisk) (result : Result T E) : Type 0 where
  pub failing : failing_calls new ≡ failing_calls old
  pub number : call_number new ≡ next_number (call_number old)
  pub count : OnErr result (memory_faults new ≡ next_number (memory_faults old))

-- a call takes at most so many calls and bytes of the room
pub record TakesRoom (old new : MemoryDisk) (count size : ℕ) : Type 0 where
  pub calls : calls_left old ≤ calls_left new + count
  pub bytes : bytes_left old ≤ bytes_left new + size
  pub greatest : greatest_length old ≤ greatest_length new
