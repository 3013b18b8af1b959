use Rattle.std.proofs.Common.{◌≡◌, ◌++◌}
use Rattle.task_statuses.specs.Statuses.{runs_from}
use Rattle.task_statuses.specs.Tokens.{tokens_of_items}
use Rattle.task_statuses.proofs.MemberLemmas.{left}
use Rattle.task_statuses.proofs.runs.write_runs.Given as goal

-- what is left to be written makes the whole
abbrev pub invariant-loop-number : goal.invariant-loop-number
invariant-loop-number l =
    (l.out.before ≡ l.initial.out.before) × (l.out.tokens ++ left l.number l.runs ≡ l.initial.out.tokens ++ tokens_of_items (runs_from 0 l.runs))
