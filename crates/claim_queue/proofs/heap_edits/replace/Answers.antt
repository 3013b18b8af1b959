use Rattle.std.proofs.Common.{◌^◌, ◌≤◌, length, subst, arith, length-set}
use Rattle.claim_queue.proofs.EditLemmas.{changed-ordered, replaced, few-settled}
use Rattle.claim_queue.proofs.heap_edits.replace.Goals as goal

pub settle-requires-clause-ordered : goal.settle-requires-clause-ordered
settle-requires-clause-ordered g c = changed-ordered c.args.heap.now c.args.turn c.args.places.now c.requires.held c.requires.kept

pub returns-clause-put : goal.returns-clause-put
returns-clause-put g c = replaced c.args.heap.now c.args.turn c.args.places.now c.requires.held c.requires.kept c.settle.new.heap c.settle.new.places c.settle.ensures.moved

pub returns-clause-steps : goal.returns-clause-steps
returns-clause-steps g c =
    let steps = c.settle.ensures.steps in
    let heap = c.args.heap.now in
    let levels : 2 ^ steps.0 ≤ length heap = subst (λ n. 2 ^ steps.0 ≤ n) (length-set heap _ c.args.turn) steps.1 in
    few-settled steps.0 (length heap) c.args.steps.now c.settle.new.steps levels (steps.2.0, omega (arith, steps.2.1))

pub returns-clause-kept : goal.returns-clause-kept
returns-clause-kept g c = (c.settle.ensures.ordered, c.settle.ensures.moved.known)
