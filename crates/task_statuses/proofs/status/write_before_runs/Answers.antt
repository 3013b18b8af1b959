use Rattle.std.proofs.Common.{◌++◌, ◌∙◌, codes, pos, [], ◌∷◌}
use Rattle.std.proofs.lemmas.Result.{on_ok_weaker}
use Rattle.farm_text.specs.Document.{whole}
use Rattle.task_statuses.specs.Parts.{dates, owners}
use Rattle.task_statuses.proofs.WritingLemmas.{members_then, members_of_same}
use Rattle.task_statuses.proofs.status.write_before_runs.Goals as goal

pub returns-clause-ok : goal.returns-clause-ok
returns-clause-ok c =
    let row = c.args.row.now in
    let t = c.args.out.now.tokens in
    let u = c.write_dates.new.out.tokens in
    let v = c.write_owners.new.out.tokens in
    let w = c.number_member.new.out.tokens in
    let left = (codes "retriesLeft", whole (pos row.retries_left)) ∷ [] in
    on_ok_weaker c.number_member.result
    (λ e. members_then t u w (dates row.definition) (owners row.definition ++ left) (members_of_same t u dates c.definition.result.now row.definition c.in_ok-write_dates.ensures.ok c.definition.ensures)
    (members_then u v w (owners row.definition) left (members_of_same u v owners c.definition-2.result.now row.definition c.in_ok-write_owners.ensures.ok c.definition-2.ensures)
    (members_of_same v w (λ n. (codes "retriesLeft", whole (pos n)) ∷ []) c.from.result row.retries_left e (c.from.ensures ∙ c.retries_left.ensures))))
    c.number_member.ensures.ok
