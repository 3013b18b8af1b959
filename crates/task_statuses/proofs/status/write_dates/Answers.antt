use Rattle.std.proofs.Common.{codes, refl}
use Rattle.std.proofs.lemmas.Result.{on_ok_weaker}
use Rattle.task_statuses.specs.Calendar.{moment_text}
use Rattle.task_statuses.proofs.WritingLemmas.{two_texts}
use Rattle.task_statuses.proofs.status.write_dates.Goals as goal

pub returns-clause-ok : goal.returns-clause-ok
returns-clause-ok c =
    let deadline = moment_text c.args.definition.now.deadline in
    let expires = moment_text c.args.definition.now.expires in
    on_ok_weaker c.moment_member-2.result
    (λ e. two_texts c.args.out.now.tokens c.moment_member.new.out.tokens c.moment_member-2.new.out.tokens (codes "deadline") (codes "expires") deadline expires deadline expires c.in_ok-moment_member.ensures.ok e refl refl)
    c.moment_member-2.ensures.ok
