-- task: the definition of a task (the queue service of the Taskcluster reference).
use Rattle.std.specs.Prelude.{ℕ, List}
use Rattle.call_rules.specs.Policy.{task_policy}
use Rattle.task_statuses.specs.Statuses.{definition_of}
use Rattle.farm_machine.specs.Case.{Setting, Case, on_task, passing, reading}

-- the task has to stand
abbrev pub task : List ℕ → Setting → Case
task id at =
    on_task id at (λ row. record passing { policy = task_policy id; deed = reading (λ contents. definition_of row.definition) })
