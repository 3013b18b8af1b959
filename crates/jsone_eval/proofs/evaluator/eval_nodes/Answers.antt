use Rattle.std.proofs.Common.{◌≡◌, ◌+◌, ◌<◌, zero, drop, get_or, slice_index_or, arith, refl, sym, ap, subst, ◌∙◌, add-one}
use Rattle.std.specs.Bool.{MatchBool}
use Rattle.farm_text.specs.Doc.{document}
use Rattle.jsone_expr.specs.declared.nodes.Node.{Node}
use Rattle.jsone_expr.specs.declared.nodes.Node.TheVariants.{Number as number_node}
use Rattle.jsone_eval.specs.Ends.{beyond}
use Rattle.jsone_eval.specs.Machine.{top, values_in, parts_in}
use Rattle.jsone_eval.specs.Outcomes.{given}
use Rattle.jsone_eval.specs.Scopes.{scopes_of}
use Rattle.jsone_eval.specs.Values.{Setting, IsOutcome}
use Rattle.jsone_eval.proofs.EvalLemmas.{one_node, outcome_of, all_nodes, at_first, last_answer}
use Rattle.jsone_eval.proofs.EndLemmas.{ends_length, end_at, goes_next_so, goes_beyond_so, leads_so}
use Rattle.jsone_eval.proofs.MachineLemmas.{fault_answers}
use Rattle.jsone_eval.proofs.evaluator.eval_nodes.Goals as goal

pub loop-at-init : goal.loop-at-init
loop-at-init c =
    let s : Setting = record { source = c.args.text.now; scopes = scopes_of c.args.context.now } in
    let m = c.new-machine.result in
    record {
      leads = λ o h. at_first s c.args.nodes.now (values_in m) (parts_in m) zero m.spent c.args.cost.now.spent o c.new-machine.ensures.values c.new-machine.ensures.gathered refl c.new-machine.ensures.spent h;
      none = c.new-machine.ensures.passed;
    }

pub bounds-ends-at : goal.bounds-ends-at
bounds-ends-at c = omega (arith, c.loop-at-test.true, ends_length c.args.nodes.now c.args.nodes.now c.args.ends.now c.requires)

pub loop-at-smaller-then-passes : goal.loop-at-smaller-then-passes
loop-at-smaller-then-passes c =
    let ahead = (end_at c.args.nodes.now c.args.nodes.now c.args.ends.now c.loop-at.at 0 c.loop-at-test.true c.requires).1 in
    omega (arith, c.loop-at-test.true, ahead)

pub loop-at-preserved-then-passes : goal.loop-at-preserved-then-passes
loop-at-preserved-then-passes c =
    let s : Setting = record { source = c.args.text.now; scopes = scopes_of c.args.context.now } in
    let m = c.loop-at.machine in
    let nodes = c.args.nodes.now in
    let i = c.loop-at.at in
    let none : Node = number_node (record { from = 0; to = 0 }) in
    let after = c.step.new.self in
    let is = (end_at nodes nodes c.args.ends.now i 0 c.loop-at-test.true c.requires).0 in
    record {
      leads = λ o h. c.loop-at.invariant.leads o
          (one_node s nodes i (get_or nodes i none) none (values_in m) (parts_in m) zero m.spent o c.loop-at-test.true refl
          (goes_beyond_so s (get_or nodes i none) (drop (i + 1) nodes) (drop (slice_index_or c.args.ends.now i 0) nodes) m c.step.new.self c.passes.new.self c.in-Ok.ensures c.loop-at.invariant.none (subst (λ b. MatchBool b (0 < after.passed) (after.passed ≡ 0)) c.if-passes.true c.passes.ensures.passes) (is ∙ ap (λ j. beyond 1 (drop j nodes)) (sym (add-one i)))
          c.passes.ensures.values c.passes.ensures.gathered c.passes.ensures.spent o h));
      none = c.passes.ensures.passed;
    }

pub loop-at-preserved : goal.loop-at-preserved
loop-at-preserved c =
    let s : Setting = record { source = c.args.text.now; scopes = scopes_of c.args.context.now } in
    let m = c.loop-at.machine in
    let nodes = c.args.nodes.now in
    let i = c.loop-at.at in
    let none : Node = number_node (record { from = 0; to = 0 }) in
    let after = c.step.new.self in
    record {
      leads = λ o h. c.loop-at.invariant.leads o
          (one_node s nodes i (get_or nodes i none) none (values_in m) (parts_in m) zero m.spent o c.loop-at-test.true refl
          (goes_next_so s (get_or nodes i none) (drop (i + 1) nodes) m c.step.new.self c.passes.new.self c.in-Ok.ensures c.loop-at.invariant.none (subst (λ b. MatchBool b (0 < after.passed) (after.passed ≡ 0)) c.if-passes.false c.passes.ensures.passes) c.passes.ensures.values c.passes.ensures.gathered c.passes.ensures.spent o h));
      none = c.passes.ensures.passed;
    }

pub returns-in-Err : goal.returns-in-Err
returns-in-Err c = λ t is.
    let s : Setting = record { source = c.args.text.now; scopes = scopes_of c.args.context.now } in
    let m = c.loop-at.machine in
    let nodes = c.args.nodes.now in
    let i = c.loop-at.at in
    let none : Node = number_node (record { from = 0; to = 0 }) in
    let before = c.args.cost.now.spent in
    let x = get_or nodes i none in
    fault_answers (Unit {0}) (IsOutcome s t before) s x (drop (i + 1) nodes) (values_in m) (parts_in m) zero m.spent c.in-Err.fault c.step.new.self before
    (λ o h. outcome_of s t nodes (drop i nodes) (values_in m) (parts_in m) zero m.spent before is c.loop-at.invariant.leads o
    (one_node s nodes i x none (values_in m) (parts_in m) zero m.spent o c.loop-at-test.true refl h))
    (leads_so s x m c.in-Err.fault c.step.new.self c.loop-at.invariant.none c.in-Err.ensures)

pub returns : goal.returns
returns c = λ t is.
    let s : Setting = record { source = c.args.text.now; scopes = scopes_of c.args.context.now } in
    let m = c.loop-at.machine in
    let nodes = c.args.nodes.now in
    let before = c.args.cost.now.spent in
    last_answer (IsOutcome s t before) (document c.into_answer-value.result.0) (top (values_in m)) c.into_answer-value.result.1 m.spent c.into_answer-value.ensures.value c.into_answer-value.ensures.spent
    (outcome_of s t nodes (drop c.loop-at.at nodes) (values_in m) (parts_in m) zero m.spent before is c.loop-at.invariant.leads (given (top (values_in m)) m.spent)
    (all_nodes s nodes c.loop-at.at (values_in m) (parts_in m) zero m.spent c.loop-at-test.false))
