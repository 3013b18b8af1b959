use Rattle.std.proofs.Common.{sym, ◌∙◌}
use Rattle.task_index.proofs.ComingLemmas.{waited-at, unwaited}
use Rattle.task_index.proofs.PlaceLemmas.{place-lost}
use Rattle.task_index.specs.Changes.{has_id}
use Rattle.task_index.proofs.index.Index.dependants_of.Goals as goal

pub returns-in-Some : goal.returns-in-Some
returns-in-Some c = c.dependants.ensures ∙ waited-at c.args.lists.now c.args.rows.now c.args.id c.in-Some.place c.requires.listed.waited (sym c.in-Some.ensures)

pub returns-in-None : goal.returns-in-None
returns-in-None c = sym (unwaited c.args.rows.now c.args.id c.requires.listed.waited.stand (place-lost (has_id c.args.id) c.args.rows.now (sym c.in-None.ensures)))
