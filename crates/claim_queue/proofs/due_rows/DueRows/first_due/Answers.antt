use Rattle.std.proofs.Common.{◌≡◌, Some, None, ap, sym, ◌∙◌, arith}
use Rattle.claim_queue.specs.Dues.{Dues}
use Rattle.claim_queue.specs.WaitHeaps.{top_row}
use Rattle.claim_queue.proofs.DueMoves.{top-within, top-shown, none-shown}
use Rattle.claim_queue.proofs.due_rows.DueRows.first_due.Goals as goal

pub index-requires : goal.index-requires
index-requires g c =
    let d = c.self.inside in
    let top : Some c.in-Some.row ≡ top_row d.heap.items = sym c.in-Some.is ∙ (c.top_row.ensures ∙ ap top_row c.deref.ensures.value) in
    let within = top-within d.rows.items d.heap.items d.places.items c.self.invariant.0 c.in-Some.row top in
    omega arith

pub returns-in-Some-clause-row : goal.returns-in-Some-clause-row
returns-in-Some-clause-row g c =
    let d = c.self.inside in
    let top : Some c.in-Some.row ≡ top_row d.heap.items = sym c.in-Some.is ∙ (c.top_row.ensures ∙ ap top_row c.deref.ensures.value) in
    c.due_by.ensures ∙ top-shown d.rows.items d.heap.items d.places.items c.self.invariant.0 c.args.moment c.in-Some.row c.index.result.now c.args.self.now (ap (λ (e : Dues). e.rows) c.self.view_is) top c.index.ensures

pub returns-in-None-clause-row : goal.returns-in-None-clause-row
returns-in-None-clause-row g c =
    let d = c.self.inside in
    let top : None ≡ top_row d.heap.items = sym c.in-None.is ∙ (c.top_row.ensures ∙ ap top_row c.deref.ensures.value) in
    none-shown d.rows.items d.heap.items d.places.items c.self.invariant.0 c.args.moment c.args.self.now (ap (λ (e : Dues). e.rows) c.self.view_is) top
