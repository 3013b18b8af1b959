use Rattle.std.proofs.Common.{◌≡◌, ℕ, ◌+◌, ◌-◌, ◌/◌, ◌<◌, arith, sym, ap, ◌∙◌, true, length}
use Rattle.std.proofs.lemmas.Bool.{both_ways}
use Rattle.std.specs.Cmp.Lexicographic.{slice_cmp}
use Rattle.std.specs.Ordering.{nat_cmp, is_lt}
use Rattle.role_expand.specs.Index.{text_of, Begins}
use Rattle.role_expand.specs.declared.index.RoleKey.{RoleKey}
use Rattle.role_expand.proofs.IndexLemmas.{none_after}
use Rattle.role_expand.proofs.EdgeLemmas.{begins}
use Rattle.role_expand.proofs.index.count_with.Goals as goal

pub halves-preserved-then-not-starts_with : goal.halves-preserved-then-not-starts_with
halves-preserved-then-not-starts_with c =
    let m : ℕ = c.halves.low + (c.halves.high - c.halves.low) / 2 in
    let key : RoleKey = c.index-keys-middle.result in
    let lt : m < length c.args.keys.now = omega (arith, c.halves-test.true, c.halves.invariant.low_high, c.halves.invariant.high_in) in
    let text : c.as_str-key.result.now ≡ text_of key = c.as_str-key.ensures.value ∙ ap text_of (sym c.index-keys-middle.is) in
    let less : is_lt (slice_cmp nat_cmp c.args.text.now (text_of key)) ≡ true = rw (← text) (sym c.lt.ensures ∙ c.if-lt.true) in
    let front = begins c.starts_with.result c.args.text.now c.as_str-key.result.now c.starts_with.ensures.cases in
    let none : Begins (text_of key) c.args.text.now → ⊥ = λ b. both_ways _ c.if-not-starts_with.true (front.1 (rw text b)) in
    record {
      low_high = omega (arith, c.halves-test.true);
      high_in = omega arith;
      after = none_after c.args.keys.now c.requires m key lt c.index-keys-middle.is c.args.text.now less none;
    }

pub returns-clause-after : goal.returns-clause-after
returns-clause-after c = λ j d low lt b. c.halves.invariant.after j d (omega (arith, c.halves-test.false)) lt b
