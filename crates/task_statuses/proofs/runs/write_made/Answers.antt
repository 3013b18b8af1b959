use Rattle.std.proofs.Common.{codes, decimal, [], ◌∷◌}
use Rattle.std.proofs.lemmas.Result.{on_ok_weaker}
use Rattle.json.specs.Token.{key, string, number}
use Rattle.task_statuses.specs.Calendar.{moment_text}
use Rattle.task_statuses.proofs.WritingLemmas.{both}
use Rattle.task_statuses.proofs.runs.write_made.Goals as goal

pub returns-clause-ok : goal.returns-clause-ok
returns-clause-ok c =
    on_ok_weaker c.moment_member.result
    (λ e. both c.args.out.now.tokens c.number_member.new.out.tokens c.moment_member.new.out.tokens (key (codes "runId") ∷ number (decimal c.args.number) ∷ []) (key (codes "scheduled") ∷ string (moment_text c.args.run.now.scheduled) ∷ [])
    c.in_ok-number_member.ensures.ok e)
    c.moment_member.ensures.ok
