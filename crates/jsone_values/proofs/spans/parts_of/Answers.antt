use Rattle.std.proofs.Common.{◌≡◌, ◌+◌, ◌*◌, ◌≤◌, ℕ, min, length, get_or, drop, option_map, rules, arith, refl, sym, ap, subst, ◌∙◌}
use Rattle.std.proofs.lemmas.Bool.Decides.{nat_tests}
use Rattle.jsone_values.proofs.SpanLemmas.{nothing_summed, part_taken, part_absent, all_summed, more_is_left}
use Rattle.jsone_values.specs.Spans.{parts_of}
use Rattle.jsone_values.proofs.spans.parts_of.Goals.{in-Some, in-None}
use Rattle.jsone_values.proofs.spans.parts_of.Goals as goal

pub loop-unit-init : goal.loop-unit-init
loop-unit-init c = record { whole = nothing_summed (parts_of c.args.units.now c.args.bytes.now); small = omega arith }

pub loop-unit-preserved : goal.loop-unit-preserved
loop-unit-preserved c = elim c.match-part.branch [
  | in-Some w ↦ record {
    whole =
        rw (w.rest-is)
        (part_taken c.args.units.now c.loop-unit.rest.now c.unspaced.result.now w.in-Some.behind.now c.loop-unit.unit-index (get_or c.args.units.now c.loop-unit.unit-index 0) w.in-Some.count c.loop-unit.total c.match-part.total _
        c.loop-unit-test.true refl c.unspaced.ensures w.in-Some.ensures.0 w.in-Some.ensures.1 w.in-Some.ensures.2
        (w.total-is ∙ w.saturating_add-total.ensures ∙ ap (λ k. min (c.loop-unit.total + k) 18446744073709551615) w.saturating_mul.ensures) c.loop-unit.invariant.whole);
    small = omega (arith, w.total-is, w.saturating_add-total.ensures);
  }
  | in-None w ↦ record {
    whole =
        rw (w.rest-is, w.total-is)
        (part_absent c.args.units.now c.loop-unit.rest.now c.unspaced.result.now c.loop-unit.unit-index (get_or c.args.units.now c.loop-unit.unit-index 0) c.loop-unit.total _
        c.loop-unit-test.true refl c.unspaced.ensures w.in-None.ensures c.loop-unit.invariant.whole);
    small = omega (arith, w.total-is, c.loop-unit.invariant.small);
  }
]

pub returns-then-is_empty : goal.returns-then-is_empty
returns-then-is_empty c =
    let none : length c.unspaced-2.result.now ≡ 0 = grind (arith, nat_tests) in
    all_summed c.args.units.now c.loop-unit.rest.now c.unspaced-2.result.now c.loop-unit.unit-index c.loop-unit.total _ c.loop-unit-test.false c.unspaced-2.ensures none c.loop-unit.invariant.small c.loop-unit.invariant.whole

pub returns-else-is_empty : goal.returns-else-is_empty
returns-else-is_empty c =
    let some : length c.unspaced-2.result.now ≡ 0 → ⊥ = grind (arith, nat_tests) in
    more_is_left c.args.units.now c.loop-unit.rest.now c.unspaced-2.result.now c.loop-unit.unit-index c.loop-unit.total _ c.loop-unit-test.false c.unspaced-2.ensures some c.loop-unit.invariant.whole
