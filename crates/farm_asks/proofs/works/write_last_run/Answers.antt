use Rattle.std.proofs.Common.{List, ◌++◌, ◌-◌, length, ap, ◌∙◌}
use Rattle.std.proofs.lemmas.Result.{on_ok_weaker}
use Rattle.farm_text.specs.Document.{Document}
use Rattle.run_states.specs.declared.run.Run.{Run}
use Rattle.task_statuses.specs.Tokens.{tokens_of}
use Rattle.farm_asks.proofs.WorkLemmas.{taken-whole}
use Rattle.farm_asks.proofs.works.write_last_run.Goals as goal

pub returns-in-Some-clause-ok : goal.returns-in-Some-clause-ok
returns-in-Some-clause-ok c =
    let last = c.saturating_sub-last.ensures ∙ ap (λ (runs : List Run). length runs - 1) c.runs.ensures.value in
    on_ok_weaker c.write_taken_run.result
    (λ e. e ∙ ap (λ (d : Document). c.args.out.now.tokens ++ tokens_of d) (taken-whole c.args.row.now c.saturating_sub-last.result c.in-Some.claim.now c.in-Some.ensures last))
    c.write_taken_run.ensures.ok
