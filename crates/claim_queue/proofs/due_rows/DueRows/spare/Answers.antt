use Rattle.std.proofs.Common.{◌≡◌, ◌-◌, ap, ◌∙◌, length, rules, arith}
use Rattle.claim_queue.specs.Dues.{spare_of}
use Rattle.claim_queue.proofs.due_rows.DueRows.spare.Goals as goal

pub overflow_sub-result : goal.overflow_sub-result
overflow_sub-result c =
    let within = c.self.invariant.1.within in
    let long : c.len.result ≡ length c.self.inside.heap.items = search rules in
    omega arith

pub returns : goal.returns
returns c =
    let long : c.len.result ≡ length c.self.inside.heap.items = search rules in
    ap (λ n. c.self.inside.room - n) (long ∙ c.self.invariant.0.count) ∙ ap spare_of c.self.view_is
