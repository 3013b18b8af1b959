use Rattle.std.proofs.Common.{codes, [], ◌∷◌, ◌++◌, ap, ◌∙◌}
use Rattle.std.proofs.lemmas.Result.{on_ok_weaker}
use Rattle.task_types.specs.declared.task_def.TaskDef.{TaskDef}
use Rattle.task_statuses.specs.Parts.{worker}
use Rattle.task_statuses.specs.Statuses.{definition_of}
use Rattle.task_statuses.specs.Tokens.{tokens_of}
use Rattle.task_statuses.proofs.WritingLemmas.{member_then, members_then, object_then}
use Rattle.farm_asks.specs.Shown.{run_members}
use Rattle.farm_asks.proofs.works.write_taken_run.Goals as goal

pub returns-clause-ok : goal.returns-clause-ok
returns-clause-ok c =
    let row = c.args.row.now in
    let claim = c.args.claim.now in
    let t = c.args.out.now.tokens in
    let u = c.begin_object.new.self.tokens in
    let v = c.write_run.new.out.tokens in
    let k = c.key.new.self.tokens in
    let w = c.write_definition.new.out.tokens in
    let x = c.write_worker.new.out.tokens in
    let run = run_members c.args.run row claim in
    let task = (codes "task", definition_of row.definition) ∷ [] in
    let defined = c.in_ok-write_definition.ensures.ok ∙ ap (λ (d : TaskDef). k ++ tokens_of (definition_of d)) c.definition.ensures in
    on_ok_weaker c.end_object.result
    (λ e. object_then t u x c.end_object.new.self.tokens (run ++ (task ++ worker claim)) c.in_ok-begin_object.ensures.ok
    (members_then u v x run (task ++ worker claim) c.in_ok-write_run.ensures.ok
    (members_then v w x task (worker claim) (member_then v k w (codes "task") (definition_of row.definition) c.in_ok-key.ensures.ok defined) c.in_ok-write_worker.ensures.ok)) e)
    c.end_object.ensures.ok
