use Rattle.std.proofs.Common.{◌≡◌, min, List, filter, is_some, nat_le, ap, ◌∙◌, rules}
use Rattle.std.specs.List.{reduce}
use Rattle.run_states.specs.Rows.{Row}
use Rattle.task_index.specs.Due.{all_due_moments, is_due}
use Rattle.task_index.specs.Contents.{Contents}
use Rattle.task_index.proofs.LeastLemmas.{some-reached}
use Rattle.farm_rows.proofs.tables.TaskTables.due.Goals as goal

pub returns : goal.returns
returns c =
    let rows = c.self.inside.rows.items in
    let told : c.is_some.result ≡ is_some c.first_due.result = search rules in
    told
    ∙ (ap is_some c.first_due.ensures
    ∙ (ap (λ (rs : List Row). is_some (reduce min (filter (λ due. nat_le due c.args.moment) (all_due_moments rs)))) c.deref.ensures.value
    ∙ (some-reached c.args.moment (all_due_moments rows) ∙ ap (λ (contents : Contents). is_due contents c.args.moment) c.self.view_is)))
