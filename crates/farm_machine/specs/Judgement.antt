-- What a call is answered, and what it changes.
use Rattle.std.specs.Prelude.{Option, None}
use Rattle.task_types.specs.declared.change.Change.{Change}
use Rattle.farm_asks.specs.declared.reply.Answer.{Answer}

-- what a call is answered, and what it changes
pub record Judgement : Type 0 where
  pub answer : Answer
  pub change : Option Change

-- an answer that changes nothing
abbrev pub only_answer : Answer → Judgement
only_answer answer = record { answer = answer; change = None }
