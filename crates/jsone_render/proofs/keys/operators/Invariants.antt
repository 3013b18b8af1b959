use Rattle.std.proofs.Common.{◌≡◌, ◌++◌, ℕ, List}
use Rattle.std.specs.List.{filter}
use Rattle.jsone_render.specs.Answers.{AreOthers}
use Rattle.jsone_render.specs.Maps.{is_operator_key}
use Rattle.jsone_render.proofs.KeyLemmas.{keys_in}
use Rattle.jsone_render.proofs.keys.operators.Given as goal

-- the keys that passed, and those that are left, are those of all
abbrev pub invariant-loop-key : goal.invariant-loop-key
invariant-loop-key l = (ks : List (List ℕ)) × AreOthers l.found ks × (ks ++ filter is_operator_key (keys_in l.key-iterator) ≡ filter is_operator_key (keys_in l.members.entries))
