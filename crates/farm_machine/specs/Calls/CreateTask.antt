-- createTask: a task is made, once (the queue service of the Taskcluster reference; its rules and their order are this project's profile).
use Rattle.std.specs.Prelude.{◌≡◌, ℕ, nat_le, true, List, [], ◌∷◌, ◌++◌, Option, Some, None, option_and_then, bytes_eq, if◌then◌else◌}
use Rattle.call_rules.specs.Policy.{create_policy}
use Rattle.task_types.specs.declared.change.Creation.{Creation}
use Rattle.task_types.specs.declared.change.Kind.TheVariants.{Create}
use Rattle.task_types.specs.declared.task_def.TaskDef.{TaskDef}
use Rattle.run_states.specs.Rows.{Row}
use Rattle.task_index.specs.Changes.{kept_scheduler}
use Rattle.task_index.specs.Contents.{row_with}
use Rattle.farm_rows.specs.Waits.{missing_dependency, early_dependency}
use Rattle.farm_asks.specs.declared.reply.Answer.{Answer}
use Rattle.farm_machine.specs.Case.{Setting, Rule, when, Case, passing, changing}
use Rattle.farm_asks.specs.Replies.{tells_status, conflict, too_late, bad_dependency, other_scheduler}

-- where a task of the id stands: with an equal definition its status is answered, and with another one that is a conflict
abbrev pub standing : TaskDef → Option Row → List Rule
standing definition None = []
standing definition (Some row) =
    record { Ends = row.definition ≡ definition; answer = tells_status row }
    ∷ record { Ends = Unit {0}; answer = conflict 1 row }
    ∷ []

-- the scheduler that its group's tasks have, where that is another than its own
abbrev pub scheduler_besides : Creation → List Row → Option (List ℕ)
scheduler_besides creation rows =
    option_and_then (λ kept. if bytes_eq kept creation.definition.scheduler_id then None else Some kept)
    (kept_scheduler creation.definition.task_group_id rows)

-- a rule that ends the call where something is found, of which its answer tells
abbrev pub where_found : (List ℕ → Answer) → Option (List ℕ) → List Rule
where_found tell None = []
where_found tell (Some found) = when true (tell found) ∷ []

-- a new task waits for tasks that stand, and expire no earlier than its deadline; and has the scheduler of its group
abbrev pub joining : Creation → List Row → List Rule
joining creation rows =
    where_found (bad_dependency 16) (missing_dependency creation rows)
    ++ (where_found (bad_dependency 17) (early_dependency creation rows)
    ++ where_found other_scheduler (scheduler_besides creation rows))

-- Nothing has to stand. A task that stands under the id is not made again; and the deadline has to be still to come.
abbrev pub create_task : Creation → Setting → Case
create_task creation at = record passing {
  policy = create_policy creation.definition;
  rules =
      standing creation.definition (row_with creation.id at.state.contents.rows)
      ++ when (nat_le creation.definition.deadline at.moment) too_late
      ∷ joining creation at.state.contents.rows;
  deed = changing at.moment (Create creation);
}
