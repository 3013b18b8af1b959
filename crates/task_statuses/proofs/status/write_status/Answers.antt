use Rattle.std.proofs.Common.{◌++◌, codes, [], ◌∷◌, ap, ◌∙◌, List}
use Rattle.std.proofs.lemmas.Result.{on_ok_weaker}
use Rattle.farm_text.specs.Document.{array}
use Rattle.run_states.specs.declared.run.Run.{Run}
use Rattle.task_statuses.specs.Parts.{before_runs, behind_runs}
use Rattle.task_statuses.specs.Statuses.{runs_from}
use Rattle.task_statuses.specs.Tokens.{tokens_of}
use Rattle.task_statuses.proofs.WritingLemmas.{members_then, member_then, object_then}
use Rattle.task_statuses.proofs.status.write_status.Goals as goal

pub returns-clause-ok : goal.returns-clause-ok
returns-clause-ok c =
    let row = c.args.row.now in
    let t = c.args.out.now.tokens in
    let u = c.begin_object.new.self.tokens in
    let v = c.write_before_runs.new.out.tokens in
    let k = c.key.new.self.tokens in
    let w = c.write_runs.new.out.tokens in
    let x = c.write_behind_runs.new.out.tokens in
    let y = c.end_object.new.self.tokens in
    let runs = (codes "runs", array (runs_from 0 row.runs)) ∷ [] in
    let listed = c.in_ok-write_runs.ensures.ok ∙ ap (λ (rs : List Run). k ++ tokens_of (array (runs_from 0 rs))) c.runs.ensures.value in
    on_ok_weaker c.end_object.result
    (λ e. object_then t u x y (before_runs row ++ (runs ++ behind_runs row)) c.in_ok-begin_object.ensures.ok
    (members_then u v x (before_runs row) (runs ++ behind_runs row) c.in_ok-write_before_runs.ensures.ok
    (members_then v w x runs (behind_runs row) (member_then v k w (codes "runs") (array (runs_from 0 row.runs)) c.in_ok-key.ensures.ok listed) c.in_ok-write_behind_runs.ensures.ok)) e)
    c.end_object.ensures.ok
