use Rattle.std.proofs.Common.{◌≡◌, ℕ, List, Some, ap, sym, ◌∙◌, slice_set}
use Rattle.task_types.specs.declared.choices.Priority.{Priority}
use Rattle.task_types.specs.declared.task_def.TaskDef.{TaskDef}
use Rattle.claim_queue.specs.Waits.{Waiting, Waits}
use Rattle.task_index.specs.Queues.{name_of, waiting_of}
use Rattle.task_index.proofs.QueueRoomLemmas.{is-held}
use Rattle.task_index.proofs.queues.held.hold_counted.Goals as goal

abbrev waiting : List ℕ → Priority → ℕ → Waiting
waiting queue priority number = record { queue = queue; priority = priority; number = number }

pub returns-then-is_pending : goal.returns-then-is_pending
returns-then-is_pending g c =
    let waits = c.args.pending.now in
    let task = c.args.task.now in
    let here = waiting c.args.name.now c.definition.result.now.priority c.number_of-number.result in
    let same : here ≡ waiting_of task =
    ap (λ (name : List ℕ). waiting name c.definition.result.now.priority c.number_of-number.result) c.requires.named
    ∙ (ap (λ (definition : TaskDef). waiting (name_of task.definition.queue) definition.priority c.number_of-number.result) c.definition.ensures
    ∙ ap (waiting (name_of task.definition.queue) task.definition.priority) c.number_of-number.ensures) in
    c.add.ensures.rows
    ∙ (ap (λ (w : Waits). let v : Waits = record { queues = w.queues; rows = slice_set w.rows c.args.row (Some here) } in v) c.release.ensures
    ∙ is-held waits c.args.row c.args.name.now task here (sym c.is_pending.ensures ∙ c.if-is_pending.true) same)
