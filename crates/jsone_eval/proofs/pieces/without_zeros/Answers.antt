use Rattle.std.proofs.Common.{ℕ, ◌-◌, length, drop, length-drop, arith, ap, ◌∙◌}
use Rattle.std.proofs.lemmas.List.{take_all}
use Rattle.jsone_values.specs.Numbers.{digits_from}
use Rattle.jsone_eval.proofs.PieceLemmas.{zeros_lead, zeros_within}
use Rattle.jsone_eval.proofs.pieces.without_zeros.Goals as goal

pub slice_bounds-result-count : goal.slice_bounds-result-count
slice_bounds-result-count c = omega (arith, c.zeros_len.ensures, zeros_within c.without_runs-rest.result.now)

pub slice_bounds-result-start : goal.slice_bounds-result-start
slice_bounds-result-start c = omega (arith, c.zeros_len.ensures, zeros_within c.without_runs-rest.result.now)

pub returns : goal.returns
returns c =
    let ds = c.without_runs-rest.result.now in
    let n = c.zeros_len.result in
    let behind = take_all (length ds - n) (drop n ds) (omega (arith, length-drop n ds)) in
    ap (digits_from 0) behind ∙ ap (λ (k : ℕ). digits_from 0 (drop k ds)) c.zeros_len.ensures ∙ zeros_lead ds ∙ c.without_runs-rest.ensures
