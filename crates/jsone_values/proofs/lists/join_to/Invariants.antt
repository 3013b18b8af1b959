use Rattle.std.proofs.Common.{◌≡◌, ◌++◌, drop, string_bytes}
use Rattle.std.specs.List.{flat_map, join_by}
use Rattle.farm_text.specs.Doc.{documents}
use Rattle.jsone_values.specs.Lists.{part_text}
use Rattle.jsone_values.proofs.lists.join_to.Given as goal

-- with what is left it is the whole
abbrev pub invariant-loop-part : goal.invariant-loop-part
invariant-loop-part l =
    string_bytes l.out ++ flat_map (λ d. l.separator ++ part_text d) (documents (drop l.part-index l.rest)) ≡ string_bytes l.fn.out ++ join_by part_text l.separator (documents l.fn.parts)
