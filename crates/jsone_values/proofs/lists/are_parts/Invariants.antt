use Rattle.std.proofs.Common.{◌≡◌, drop}
use Rattle.std.specs.List.{list_all}
use Rattle.farm_text.specs.Doc.{documents}
use Rattle.jsone_values.specs.Lists.{is_part}
use Rattle.jsone_values.proofs.lists.are_parts.Given as goal

abbrev pub invariant-loop-value : goal.invariant-loop-value
invariant-loop-value l = list_all is_part (documents (drop l.value-index l.values)) ≡ list_all is_part (documents l.values)
