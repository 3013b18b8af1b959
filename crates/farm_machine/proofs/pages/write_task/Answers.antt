use Rattle.std.proofs.Common.{codes, [], ◌∷◌, ◌++◌, ap, ◌∙◌}
use Rattle.std.proofs.lemmas.Result.{on_ok_weaker}
use Rattle.task_types.specs.declared.task_def.TaskDef.{TaskDef}
use Rattle.task_statuses.specs.Statuses.{status_of, definition_of}
use Rattle.task_statuses.specs.Tokens.{tokens_of}
use Rattle.task_statuses.proofs.WritingLemmas.{member_then, members_then, object_then}
use Rattle.farm_machine.proofs.pages.write_task.Goals as goal

pub returns-clause-ok : goal.returns-clause-ok
returns-clause-ok c =
    let row = c.args.row.now in
    let t = c.args.out.now.tokens in
    let u = c.begin_object.new.self.tokens in
    let k = c.key.new.self.tokens in
    let v = c.write_status.new.out.tokens in
    let l = c.key-2.new.self.tokens in
    let w = c.write_definition.new.out.tokens in
    let status = (codes "status", status_of row) ∷ [] in
    let task = (codes "task", definition_of row.definition) ∷ [] in
    let defined = c.in_ok-write_definition.ensures.ok ∙ ap (λ (d : TaskDef). l ++ tokens_of (definition_of d)) c.definition.ensures in
    on_ok_weaker c.end_object.result
    (λ e. object_then t u w c.end_object.new.self.tokens (status ++ task) c.in_ok-begin_object.ensures.ok
    (members_then u v w status task (member_then u k v (codes "status") (status_of row) c.in_ok-key.ensures.ok c.in_ok-write_status.ensures.ok)
    (member_then v l w (codes "task") (definition_of row.definition) c.in_ok-key-2.ensures.ok defined)) e)
    c.end_object.ensures.ok
