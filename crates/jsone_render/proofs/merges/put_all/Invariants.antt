use Rattle.std.proofs.Common.{◌≡◌}
use Rattle.farm_text.proofs.DocLemmas.{members_in}
use Rattle.jsone_render.specs.Merges.{put_all}
use Rattle.jsone_render.proofs.merges.put_all.Given as goal

-- what is left to put makes the whole
abbrev pub invariant-loop-key : goal.invariant-loop-key
invariant-loop-key l = put_all (members_in l.map.entries) (members_in l.key-iterator) ≡ put_all (members_in l.initial.map.entries) (members_in l.fn.more.entries)
