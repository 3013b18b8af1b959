use Rattle.std.proofs.Common.{ap, ◌∙◌}
use Rattle.farm_text.proofs.DocLemmas.{members_in, members_in-insert_entry}
use Rattle.jsone_render.proofs.maps.insert.Goals as goal

pub returns : goal.returns
returns c = ap members_in c.in_ok-insert.ensures.entries ∙ members_in-insert_entry c.args.map.now.entries c.args.key c.args.value
