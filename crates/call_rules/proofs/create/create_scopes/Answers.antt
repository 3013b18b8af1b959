use Rattle.std.proofs.Common.{◌+◌, map, take, ap, ◌∙◌, arith, []}
use Rattle.scope_sets.specs.Expressions.{Expression, view, one}
use Rattle.task_types.specs.Choices.{priorities}
use Rattle.task_types.specs.declared.choices.Priority.{Priority}
use Rattle.call_rules.specs.Policy.{create_scope}
use Rattle.call_rules.proofs.PolicyLemmas.{view-One, grown, all_grown}
use Rattle.call_rules.proofs.PriorityLemmas.{down_to}
use Rattle.call_rules.proofs.create.create_scopes.Goals as goal

pub loop-priority-init : goal.loop-priority-init
loop-priority-init c = ap (map view) c.new-members.ensures.items

pub loop-priority-preserved : goal.loop-priority-preserved
loop-priority-preserved c =
    let f : Priority → Expression = λ p. one (create_scope c.args.queue.now p) in
    grown f (take (c.rank.result + 1) priorities) c.loop-priority.priority-index [] c.loop-priority.members.items c.push.new.self.items _ _
    (omega arith) c.loop-priority.invariant c.in_ok-push.ensures.items (view-One _ ∙ ap one c.in_ok-create_scope.ensures)

pub returns : goal.returns
returns c =
    let f : Priority → Expression = λ p. one (create_scope c.args.queue.now p) in
    all_grown f (take (c.rank.result + 1) priorities) c.loop-priority.priority-index [] c.loop-priority.members.items c.loop-priority-test.false c.loop-priority.invariant
    ∙ ap (λ n. map f (take (n + 1) priorities)) c.rank.ensures ∙ ap (map f) (down_to c.args.least)
