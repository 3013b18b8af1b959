-- status: the status of a task (the queue service of the Taskcluster reference).
use Rattle.std.specs.Prelude.{ℕ, List}
use Rattle.call_rules.specs.Policy.{status_policy}
use Rattle.farm_machine.specs.Case.{Setting, Case, on_task, passing, reading}
use Rattle.farm_asks.specs.Replies.{status_body}

-- the task has to stand
abbrev pub status : List ℕ → Setting → Case
status id at = on_task id at (λ row. record passing { policy = status_policy id; deed = reading (λ contents. status_body row) })
