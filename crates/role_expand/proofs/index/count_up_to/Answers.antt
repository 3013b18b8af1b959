use Rattle.std.proofs.Common.{◌≡◌, ℕ, ◌+◌, ◌-◌, ◌/◌, ◌<◌, arith, sym, ap, ◌∙◌, true, false, length}
use Rattle.std.specs.Cmp.Lexicographic.{slice_cmp}
use Rattle.std.specs.Ordering.{nat_cmp, is_lt}
use Rattle.role_expand.specs.Index.{text_of}
use Rattle.role_expand.specs.declared.index.RoleKey.{RoleKey}
use Rattle.role_expand.proofs.IndexLemmas.{upto_before, less_after}
use Rattle.role_expand.proofs.index.count_up_to.Goals as goal

pub halves-preserved-then-lt : goal.halves-preserved-then-lt
halves-preserved-then-lt c =
    let m : ℕ = c.halves.low + (c.halves.high - c.halves.low) / 2 in
    let key : RoleKey = c.index-keys-middle.result in
    let lt : m < length c.args.keys.now = omega (arith, c.halves-test.true, c.halves.invariant.low_high, c.halves.invariant.high_in) in
    let text : c.as_str.result.now ≡ text_of key = c.as_str.ensures.value ∙ ap text_of (sym c.index-keys-middle.is) in
    let less : is_lt (slice_cmp nat_cmp c.args.text.now (text_of key)) ≡ true = rw (← text) (sym c.lt.ensures ∙ c.if-lt.true) in
    record {
      low_high = omega (arith, c.halves-test.true);
      high_in = omega arith;
      before = c.halves.invariant.before;
      after = less_after c.args.keys.now c.requires m key lt c.index-keys-middle.is c.args.text.now less;
    }

pub halves-preserved : goal.halves-preserved
halves-preserved c =
    let m : ℕ = c.halves.low + (c.halves.high - c.halves.low) / 2 in
    let key : RoleKey = c.index-keys-middle.result in
    let lt : m < length c.args.keys.now = omega (arith, c.halves-test.true, c.halves.invariant.low_high, c.halves.invariant.high_in) in
    let text : c.as_str.result.now ≡ text_of key = c.as_str.ensures.value ∙ ap text_of (sym c.index-keys-middle.is) in
    let high : is_lt (slice_cmp nat_cmp c.args.text.now (text_of key)) ≡ false = rw (← text) (sym c.lt.ensures ∙ c.if-lt.false) in
    record {
      low_high = omega (arith, c.halves-test.true);
      high_in = c.halves.invariant.high_in;
      before = λ j d below. upto_before c.args.keys.now c.requires m key lt c.index-keys-middle.is c.args.text.now high j d (omega arith);
      after = c.halves.invariant.after;
    }
