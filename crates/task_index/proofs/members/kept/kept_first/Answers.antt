use Rattle.std.proofs.Common.{List, ℕ, slice_get, ap, ◌∙◌}
use Rattle.task_index.specs.Members.{in_group}
use Rattle.task_index.proofs.PlaceListLemmas.{first-place}
use Rattle.task_index.proofs.members.kept.kept_first.Goals as goal

pub returns-in-Some : goal.returns-in-Some
returns-in-Some c = λ rows are. c.in-Some.ensures ∙ (ap (λ (ps : List ℕ). slice_get ps 0) (are.places c.args.group) ∙ first-place (in_group c.args.group) rows)

pub returns-in-None : goal.returns-in-None
returns-in-None c = λ rows are. c.in-None.ensures ∙ (ap (λ (ps : List ℕ). slice_get ps 0) (are.places c.args.group) ∙ first-place (in_group c.args.group) rows)
