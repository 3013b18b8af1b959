-- What happens to a farm: a tick, or a call and what became of it.
use Rattle.std.specs.Prelude.{ℕ}
use Rattle.farm_asks.specs.Questions.{Asking}
use Rattle.farm_machine.specs.Judgement.{Judgement}

-- what became of a call: it was judged so, memory ran out, a call of the disk failed in it, or one had failed before it
pub data Outcome : Type 0 where
  finished : (judgement : Judgement) → Outcome
  out_of_memory : Outcome
  disk_failed : Outcome
  was_halted : Outcome

-- an entry of a history: a tick at a moment, or a call
pub data Entry : Type 0 where
  tick : (moment : ℕ) → Entry
  call : (asking : Asking) → (outcome : Outcome) → Entry
