use Rattle.farm_text.proofs.DocLemmas.{members_in}
use Rattle.jsone_render.specs.Answers.{form_in}
use Rattle.jsone_render.proofs.FormLemmas.{by_none, by_one, by_more}
use Rattle.jsone_render.proofs.forms.with_others.Goals as goal

pub returns-in-None : goal.returns-in-None
returns-in-None c = by_none c.args.others c.args.operator (members_in c.args.members.now.entries) (form_in c.without_others.result) c.in-None.is c.without_others.ensures

pub returns-in-One : goal.returns-in-One
returns-in-One c = by_one c.args.others c.in-One.key c.args.operator (members_in c.args.members.now.entries) (form_in c.with_other.result) c.in-One.is c.with_other.ensures

pub returns-in-More : goal.returns-in-More
returns-in-More c = by_more c.args.others c.args.operator (members_in c.args.members.now.entries) c.in-More.is
