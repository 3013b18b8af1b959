use Rattle.std.proofs.Common.{◌≡◌, ◌++◌}
use Rattle.farm_text.proofs.DocLemmas.{members_in}
use Rattle.jsone_render.specs.Answers.{names_in, pairs_of}
use Rattle.jsone_render.specs.Bindings.{turns_of}
use Rattle.jsone_render.proofs.turns.turns_of.Given as goal

-- the members that are left make the whole
abbrev pub invariant-loop-key : goal.invariant-loop-key
invariant-loop-key l = pairs_of l.turns.items ++ turns_of (names_in l.names) (members_in l.key-iterator) ≡ turns_of (names_in l.names) (members_in l.fn.members.entries)
