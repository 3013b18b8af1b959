use Rattle.std.proofs.Common.{◌≡◌, ◌<◌, ◌≤◌, ℕ, List, length, get_or, sym, ◌∙◌, subst, arith}
use Rattle.std.proofs.lemmas.Bool.{false≢true}
use Rattle.std.proofs.lemmas.Result.{err_from_is_err_and}
use Rattle.role_expand.specs.Known.{known_data}
use Rattle.role_expand.specs.declared.expansion.TheConstants.{MOST_SCOPES}
use Rattle.role_expand.proofs.ClosureLemmas.{partly_begin, partly_more, partly_end, fails_at_start, fails_at_scope}
use Rattle.role_expand.proofs.expansion.derive_all.Goals as goal

pub returns-in_err-add_all : goal.returns-in_err-add_all
returns-in_err-add_all c =
    let p = err_from_is_err_and c.from_residual.result c.from_residual.ensures.1 in
    rw (p.1, p.2) (fails_at_start (known_data c.args.roles.now) c.args.start.now MOST_SCOPES _ (rw c.new-found.ensures at c.in_err-add_all.ensures))

pub loop-next-init : goal.loop-next-init
loop-next-init c = record {
  partly = partly_begin (known_data c.args.roles.now) c.args.start.now MOST_SCOPES _ (rw c.new-found.ensures at c.in_ok-add_all.ensures);
  marked = λ place d lt mark. absurd (false≢true (sym (c.in_ok-given.ensures place) ∙ mark));
}

pub returns-in_err-add_given_by_all : goal.returns-in_err-add_given_by_all
returns-in_err-add_given_by_all c =
    let p = err_from_is_err_and c.from_residual-in_err-add_given_by_all.result c.from_residual-in_err-add_given_by_all.ensures.1 in
    let old : List (List ℕ) = c.loop-next.found in
    let n : ℕ = c.loop-next.next in
    let held : List ℕ = c.in_ok-held.held in
    let lt : n < length old = omega (arith, c.len.ensures, c.loop-next-test.true) in
    let is : held ≡ get_or old n held = subst (λ (t : List ℕ). t ≡ get_or old n t) (sym c.in_ok-held.ensures.cases) c.at.ensures in
    rw (p.1, p.2) (fails_at_scope (known_data c.args.roles.now) c.args.start.now MOST_SCOPES old n held _ c.loop-next.invariant.partly lt is c.in_err-add_given_by_all.ensures)

pub loop-next-preserved : goal.loop-next-preserved
loop-next-preserved c =
    let old : List (List ℕ) = c.loop-next.found in
    let n : ℕ = c.loop-next.next in
    let held : List ℕ = c.in_ok-held.held in
    let lt : n < length old = omega (arith, c.len.ensures, c.loop-next-test.true) in
    let is : held ≡ get_or old n held = subst (λ (t : List ℕ). t ≡ get_or old n t) (sym c.in_ok-held.ensures.cases) c.at.ensures in
    record {
      partly = partly_more (known_data c.args.roles.now) c.args.start.now MOST_SCOPES old c.add_given_by_all.new.found n held c.loop-next.invariant.partly lt is c.in_ok-add_given_by_all.ensures.0;
      marked = c.in_ok-add_given_by_all.ensures.1;
    }

pub returns : goal.returns
returns c =
    let high : length c.loop-next.found ≤ c.loop-next.next = omega (arith, c.len.ensures, c.loop-next-test.false) in
    rw c.into_list.ensures (partly_end (known_data c.args.roles.now) c.args.start.now MOST_SCOPES _ c.loop-next.next c.loop-next.invariant.partly high)
