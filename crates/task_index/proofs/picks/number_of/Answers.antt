use Rattle.std.proofs.Common.{Option, None, option_and_then, unwrap_or, ap, ◌∙◌}
use Rattle.std.specs.List.{last_or}
use Rattle.run_states.specs.declared.run.Run.{Run}
use Rattle.run_states.proofs.RunLemmas.{get-last}
use Rattle.task_index.proofs.picks.number_of.Goals as goal

pub returns-in-Some : goal.returns-in-Some
returns-in-Some c =
    c.unwrap_or.ensures
    ∙ ap (λ (o : Option Run). unwrap_or (option_and_then (λ (run : Run). run.number) o) 0) (c.in-Some.ensures.value ∙ (get-last c.runs.result.now ∙ ap (last_or None) c.runs.ensures.value))
