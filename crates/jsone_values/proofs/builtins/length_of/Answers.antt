use Rattle.std.proofs.Common.{◌∙◌}
use Rattle.jsone_values.proofs.MemberLemmas.{list_length}
use Rattle.jsone_values.proofs.builtins.length_of.Goals as goal

pub returns-in-List : goal.returns-in-List
returns-in-List c = list_length c.args.value.now c.in-List.items c.len.result c.counted-in-List.result c.in-List.is (c.len.ensures ∙ c.in-List.items.ok.0) c.counted-in-List.ensures
