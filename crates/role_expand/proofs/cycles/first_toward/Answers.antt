use Rattle.std.proofs.Common.{arith, below_more}
use Rattle.std.proofs.lemmas.Bool.{both_ways}
use Rattle.std.proofs.lemmas.List.{length-map}
use Rattle.role_expand.specs.Roles.{role_data, roles_data}
use Rattle.role_expand.proofs.EdgeLemmas.{EdgeAt-from_roles, roles_from_EdgeAt}
use Rattle.role_expand.proofs.LevelLemmas.{EdgeAt-within}
use Rattle.role_expand.proofs.cycles.first_toward.Goals as goal
use Rattle.role_expand.proofs.cycles.first_toward.Goals.{else-steps-to-via-then-steps-to+else-has_edge, else-steps-to-via-else-steps-to}

pub returns-then-has_edge-clause-edge : goal.returns-then-has_edge-clause-edge
returns-then-has_edge-clause-edge c =
    EdgeAt-from_roles role_data c.args.roles.now c.args.at c.loop-to.to c.index-roles-at.result c.index-roles-to.result c.requires.at_in c.index-roles-at.is (omega arith) c.index-roles-to.is (c.has_edge.ensures.0 c.if-has_edge.true)

pub loop-to-preserved : goal.loop-to-preserved
loop-to-preserved c = below_more _ _ c.loop-to.invariant (λ number edge.
    (elim c.else-steps-to.branch [
      | else-steps-to-via-then-steps-to+else-has_edge w ↦ both_ways _ w.if-has_edge.false (w.has_edge.ensures.1
          (roles_from_EdgeAt role_data c.args.roles.now c.args.at c.loop-to.to w.index-roles-at.result w.index-roles-to.result c.requires.at_in w.index-roles-at.is (omega arith) w.index-roles-to.is edge))
      | else-steps-to-via-else-steps-to w ↦ w.if-steps-to.false number
    ]))

pub unreachable-requires : goal.unreachable-requires
unreachable-requires c =
    let h = c.requires.there in
    c.loop-to.invariant h.0 (omega (arith, (EdgeAt-within (roles_data c.args.roles.now) c.args.at h.0 h.2).1, length-map c.args.roles.now role_data)) h.1 h.2
