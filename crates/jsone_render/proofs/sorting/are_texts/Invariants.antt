use Rattle.std.proofs.Common.{◌≡◌, drop}
use Rattle.std.specs.List.{list_all}
use Rattle.jsone_render.specs.Answers.{pairs_of}
use Rattle.jsone_render.specs.Sorting.{is_text}
use Rattle.jsone_render.proofs.sorting.are_texts.Given as goal

abbrev pub invariant-loop-pair : goal.invariant-loop-pair
invariant-loop-pair l = list_all (λ p. is_text p.0) (pairs_of (drop l.pair-index l.pairs)) ≡ list_all (λ p. is_text p.0) (pairs_of l.pairs)
