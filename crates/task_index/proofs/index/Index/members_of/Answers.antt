use Rattle.std.proofs.Common.{sym, ◌∙◌}
use Rattle.task_index.specs.Members.{in_group}
use Rattle.task_index.proofs.PlaceLemmas.{place-no}
use Rattle.task_index.proofs.PlaceListLemmas.{no-places}
use Rattle.task_index.proofs.index.Index.members_of.Goals as goal

pub returns-in-Some : goal.returns-in-Some
returns-in-Some c = c.members.ensures ∙ c.requires.listed.grouped c.args.group c.in-Some.place (sym c.in-Some.ensures)

pub returns-in-None : goal.returns-in-None
returns-in-None c = sym (no-places (in_group c.args.group) 0 c.args.rows.now (place-no (in_group c.args.group) c.args.rows.now (sym c.in-None.ensures)))
