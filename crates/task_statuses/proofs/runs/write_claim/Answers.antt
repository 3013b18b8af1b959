use Rattle.std.proofs.Common.{codes, [], ◌∷◌}
use Rattle.std.proofs.lemmas.Result.{on_ok_weaker}
use Rattle.task_statuses.specs.Parts.{worker}
use Rattle.task_statuses.specs.Statuses.{moment_doc}
use Rattle.task_statuses.proofs.WritingLemmas.{members_then}
use Rattle.task_statuses.proofs.runs.write_claim.Goals as goal

pub returns-clause-ok : goal.returns-clause-ok
returns-clause-ok c =
    let claim = c.args.claim.now in
    on_ok_weaker c.write_worker.result
    (λ e. members_then c.args.out.now.tokens c.moment_member.new.out.tokens c.write_worker.new.out.tokens ((codes "takenUntil", moment_doc claim.taken_until) ∷ []) (worker claim) c.in_ok-moment_member.ensures.ok e)
    c.write_worker.ensures.ok
