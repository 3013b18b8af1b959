use Rattle.std.proofs.Common.{◌≡◌, ◌++◌, not}
use Rattle.std.specs.List.{filter}
use Rattle.std.specs.Str.{bytes_eq}
use Rattle.jsone_render.specs.Answers.{texts_in}
use Rattle.jsone_render.specs.Conditions.{default_key}
use Rattle.jsone_render.proofs.KeyLemmas.{keys_in}
use Rattle.jsone_render.proofs.conditions.conditions_of.Given as goal

-- the keys that are left make the whole
abbrev pub invariant-loop-key : goal.invariant-loop-key
invariant-loop-key l =
    texts_in l.keys.items ++ filter (λ k. not (bytes_eq k default_key)) (keys_in l.key-iterator) ≡ filter (λ k. not (bytes_eq k default_key)) (keys_in l.members.entries)
