-- Where a run is not there; for private clauses.
use Rattle.std.specs.Prelude.{Option}
use Rattle.task_types.specs.declared.change.RunName.{RunName}
use Rattle.farm_asks.specs.declared.reply.Answer.{Answer}
use Rattle.farm_machine.specs.Case.{Setting, on_run, passing}

-- the answer where the task of a run does not stand, or has no run of this number
abbrev pub absent_run : RunName → Setting → Option Answer
absent_run name at = (on_run name.id name.run at (λ row. passing)).absent
