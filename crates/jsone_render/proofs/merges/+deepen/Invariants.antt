use Rattle.std.proofs.Common.{◌≡◌}
use Rattle.farm_text.proofs.DocLemmas.{members_in}
use Rattle.jsone_render.specs.Merges.{deep_all}
use Rattle.jsone_render.proofs.merges.+deepen.Given as goal

-- what is left to merge makes the whole
abbrev pub invariant-deep_all-loop-key : goal.invariant-deep_all-loop-key
invariant-deep_all-loop-key l = deep_all (members_in l.key-iterator) (members_in l.members.entries) ≡ deep_all (members_in l.later.entries) (members_in l.initial.members.entries)
