use Rattle.std.proofs.Common.{◌≡◌, ◌++◌, ℕ, List, not, ◌||◌}
use Rattle.std.specs.List.{filter, list_any}
use Rattle.std.specs.Str.{bytes_eq}
use Rattle.jsone_render.specs.Answers.{AreOthers}
use Rattle.jsone_render.specs.Forms.{others_of, words_of}
use Rattle.jsone_render.specs.Maps.{is_operator_key}
use Rattle.jsone_render.proofs.KeyLemmas.{keys_in}
use Rattle.jsone_render.proofs.keys.others_of.Given as goal

-- the keys that passed, and those that are left, are those of all
abbrev pub invariant-loop-key : goal.invariant-loop-key
invariant-loop-key l = (ks : List (List ℕ)) × AreOthers l.others ks × (ks ++ filter (λ k. not (is_operator_key k || list_any (bytes_eq k) (words_of l.operator))) (keys_in l.key-iterator) ≡ others_of l.operator (keys_in l.members.entries))
