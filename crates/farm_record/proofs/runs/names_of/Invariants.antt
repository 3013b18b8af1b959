use Rattle.std.proofs.Common.{◌≡◌, ◌-◌, length}
use Rattle.farm_record.specs.Reading.{names_at}
use Rattle.farm_record.proofs.LoopLemmas.{with_front}
use Rattle.farm_record.proofs.runs.names_of.Given as goal

abbrev pub invariant-loop : goal.invariant-loop
invariant-loop l = (with_front l.names.items (names_at (l.count - l.counter) l.rest) ≡ names_at l.count l.bytes) × (length l.names.items ≡ l.counter)
