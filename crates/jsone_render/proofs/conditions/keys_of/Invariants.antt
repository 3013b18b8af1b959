use Rattle.std.proofs.Common.{◌≡◌, ◌++◌}
use Rattle.jsone_render.specs.Answers.{texts_in}
use Rattle.jsone_render.proofs.KeyLemmas.{keys_in}
use Rattle.jsone_render.proofs.conditions.keys_of.Given as goal

-- the keys that are left make the whole
abbrev pub invariant-loop-key : goal.invariant-loop-key
invariant-loop-key l = texts_in l.keys.items ++ keys_in l.key-iterator ≡ keys_in l.members.entries
