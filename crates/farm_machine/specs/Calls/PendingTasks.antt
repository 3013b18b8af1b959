-- pendingTasks: how many tasks wait in a queue (the queue service of the Taskcluster reference).
use Rattle.std.specs.Prelude.{count_by}
use Rattle.call_rules.specs.Policy.{pending_policy}
use Rattle.task_index.specs.Picks.{waits_in}
use Rattle.task_types.specs.declared.names.TaskQueue.{TaskQueue}
use Rattle.farm_machine.specs.Case.{Setting, Case, passing, reading}
use Rattle.farm_asks.specs.Replies.{pending_body}

-- nothing has to stand
abbrev pub pending_tasks : TaskQueue → Setting → Case
pending_tasks queue at = record passing {
  policy = pending_policy queue;
  deed = reading (λ contents. pending_body queue (count_by (waits_in queue) contents.rows));
}
