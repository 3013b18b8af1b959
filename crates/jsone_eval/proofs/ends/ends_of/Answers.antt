use Rattle.std.proofs.Common.{◌≡◌, ◌∷◌, [], ◌+◌, ◌-◌, ℕ, suc, length, drop, drop-cons, get_or, reverse, arith, rules, sym, ap, subst, ◌∙◌}
use Rattle.std.proofs.lemmas.List.{length-drop, reverse-append}
use Rattle.jsone_expr.specs.declared.nodes.Node.{Node}
use Rattle.jsone_expr.specs.declared.nodes.Node.TheVariants.{Number as number_node}
use Rattle.jsone_eval.specs.Ends.{EndsOf, place_in}
use Rattle.jsone_eval.proofs.EndLemmas.{ends_none, opens_first, ends_more, opens_more}
use Rattle.jsone_eval.proofs.ends.ends_of.Goals as goal

pub loop-at-init : goal.loop-at-init
loop-at-init c = record {
  within = omega arith;
  ends = ends_none c.args.nodes.now c.in_ok-ends.ends.items c.in_ok-ends.ensures.items;
  places = opens_first c.args.nodes.now c.new-places.result.items c.new-places.ensures.items;
}

pub offset_bounds-nodes-at : goal.offset_bounds-nodes-at
offset_bounds-nodes-at c = search rules

pub bounds-nodes-at : goal.bounds-nodes-at
bounds-nodes-at c = omega (arith, c.loop-at-test.true, c.loop-at.invariant.within)

pub loop-at-preserved : goal.loop-at-preserved
loop-at-preserved c =
    let nodes = c.args.nodes.now in
    let at = c.loop-at.at in
    let none : Node = number_node (record { from = 0; to = 0 }) in
    let x = get_or nodes (at - 1) none in
    let before : suc (at - 1) ≡ at = omega (arith, c.loop-at-test.true) in
    let behind : at - 1 + 1 ≡ at = omega (arith, c.loop-at-test.true) in
    let split : drop (at - 1) nodes ≡ x ∷ drop at nodes = drop-cons nodes (at - 1) none (omega (arith, c.loop-at-test.true, c.loop-at.invariant.within)) ∙ ap (λ (i : ℕ). x ∷ drop i nodes) before in
    let places = reverse c.loop-at.places.items in
    let innermost = c.innermost.ensures ∙ ap (λ (l : _). place_in (length nodes) (reverse l) 0) c.deref.ensures.value in
    record {
      within = omega (arith, c.loop-at.invariant.within);
      ends = ends_more nodes (drop (at - 1) nodes) (drop at nodes) x places (reverse c.loop-at.ends.items) (reverse c.push.new.self.items) c.innermost.result split
          (ap reverse c.in_ok-push.ensures.items ∙ reverse-append c.loop-at.ends.items (c.innermost.result ∷ [])) innermost c.loop-at.invariant.places c.loop-at.invariant.ends;
      places = opens_more nodes (drop (at - 1) nodes) (drop at nodes) x (at - 1 + 1) places (reverse c.meet.new.places.items) split (ap (λ (i : ℕ). drop i nodes) behind)
          (omega (arith, behind, length-drop at nodes, c.loop-at.invariant.within)) c.in_ok-meet.ensures c.loop-at.invariant.places;
    }

pub returns : goal.returns
returns c =
    let nodes = c.args.nodes.now in
    let none : c.loop-at.at ≡ 0 = omega (arith, c.loop-at-test.false) in
    subst (EndsOf nodes nodes) (sym c.reverse.ensures.items) (subst (λ (i : ℕ). EndsOf nodes (drop i nodes) (reverse c.loop-at.ends.items)) none c.loop-at.invariant.ends)
