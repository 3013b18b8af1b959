use Rattle.std.proofs.Common.{codes, pos, [], ◌∷◌, ◌++◌}
use Rattle.std.proofs.lemmas.Result.{on_ok_weaker}
use Rattle.farm_text.specs.Document.{whole}
use Rattle.task_statuses.specs.Statuses.{status_of, moment_doc}
use Rattle.task_statuses.proofs.WritingLemmas.{member_then, members_then, members_of_same}
use Rattle.farm_asks.proofs.works.write_run.Goals as goal

pub returns-clause-ok : goal.returns-clause-ok
returns-clause-ok c =
    let row = c.args.row.now in
    let t = c.args.out.now.tokens in
    let u = c.number_member.new.out.tokens in
    let k = c.key.new.self.tokens in
    let v = c.write_status.new.out.tokens in
    let w = c.moment_member.new.out.tokens in
    let number = (codes "runId", whole (pos c.args.run)) ∷ [] in
    let status = (codes "status", status_of row) ∷ [] in
    let until = (codes "takenUntil", moment_doc c.args.claim.now.taken_until) ∷ [] in
    on_ok_weaker c.moment_member.result
    (λ e. members_then t u w number (status ++ until) (members_of_same t u (λ n. (codes "runId", whole (pos n)) ∷ []) c.from.result c.args.run c.in_ok-number_member.ensures.ok c.from.ensures)
    (members_then u v w status until (member_then u k v (codes "status") (status_of row) c.in_ok-key.ensures.ok c.in_ok-write_status.ensures.ok) e))
    c.moment_member.ensures.ok
