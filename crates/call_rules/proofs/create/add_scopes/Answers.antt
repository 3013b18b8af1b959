use Rattle.std.proofs.Common.{map, sym, ap, ◌∙◌, append-nil, arith}
use Rattle.scope_sets.specs.Expressions.{view, one}
use Rattle.call_rules.proofs.PolicyLemmas.{view-One, grown, all_grown}
use Rattle.call_rules.proofs.create.add_scopes.Goals as goal

pub loop-scope-init : goal.loop-scope-init
loop-scope-init c = sym (append-nil (map view c.args.members.now.items))

pub loop-scope-preserved : goal.loop-scope-preserved
loop-scope-preserved c =
    grown one c.args.scopes.now c.loop-scope.scope-index (map view c.args.members.now.items) c.loop-scope.members.items c.push.new.self.items _ c.scope-item.result
    (omega arith) c.loop-scope.invariant c.in_ok-push.ensures.items (view-One c.in_ok-clone.field-0 ∙ ap one (c.in_ok-clone.ensures.cases ∙ c.scope-item.is))

pub returns : goal.returns
returns c = all_grown one c.args.scopes.now c.loop-scope.scope-index (map view c.args.members.now.items) c.loop-scope.members.items c.loop-scope-test.false c.loop-scope.invariant
