-- What comes of a hook that is triggered, as the program tells of it; for private clauses.
use Rattle.std.specs.Prelude.{Option, Some, None, Ok, Err}
use Rattle.task_types.specs.declared.change.Creation.{Creation}
use Rattle.farm_machine.specs.declared.firing.Firing.{Firing}
use Rattle.farm_machine.specs.declared.firing.Firing.TheVariants.{Makes, Refuses}
use Rattle.farm_asks.specs.declared.reply.Answer.{Answer}
use Rattle.farm_machine.specs.Calls.TriggerHook.{Fired}

-- what comes of the hook that is told of
abbrev pub outcome_of : Firing → Fired
outcome_of (Makes creation) = Ok creation
outcome_of (Refuses answer) = Err answer

-- what comes of a task that an answer may refuse
abbrev pub fired_by : Creation → Option Answer → Fired
fired_by creation None = Ok creation
fired_by creation (Some answer) = Err answer
