use Rattle.std.proofs.Common.{IfOk, ap, ◌∙◌, subst}
use Rattle.task_index.specs.Contents.{Contents}
use Rattle.task_index.specs.Changes.{creating, may_apply}
use Rattle.task_index.specs.Plans.{Planned, IsPlanOn}
use Rattle.task_index.proofs.IdLemmas.{may-create}
use Rattle.farm_rows.proofs.tables.TaskTables.plan_new.Goals as goal

pub note-requires : goal.note-requires
note-requires c = (may-create c.args.self.now c.args.at c.args.creation c.requires).1

pub plan_creation-requires : goal.plan_creation-requires
plan_creation-requires c = ap (λ (k : Contents). may_apply k (creating c.args.at c.args.creation)) c.in-Ok.ensures ∙ c.requires

pub returns-in-Ok-clause-plan : goal.returns-in-Ok-clause-plan
returns-in-Ok-clause-plan c = subst (λ (k : Contents). IfOk c.plan_creation.result (λ (p : Planned). IsPlanOn k p)) c.in-Ok.ensures c.plan_creation.ensures.plan
