use Rattle.std.proofs.Common.{sym, ◌∙◌}
use Rattle.task_index.proofs.MemberLemmas.{member-first, member-none}
use Rattle.task_index.proofs.members.kept.standing_first.Goals as goal

pub returns-in-Some : goal.returns-in-Some
returns-in-Some c = c.task_at.ensures ∙ member-first c.args.members.now.groups c.args.rows.now c.args.group c.in-Some.place c.requires (sym c.in-Some.ensures)

pub returns-in-None : goal.returns-in-None
returns-in-None c = member-none c.args.members.now.groups c.args.rows.now c.args.group c.requires (sym c.in-None.ensures)
