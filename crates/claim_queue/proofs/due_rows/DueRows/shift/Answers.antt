use Rattle.std.proofs.Common.{◌≡◌, ℕ, List, Some, None, IsSome, sym, ap, ◌∙◌, subst, length, take, drop, ◌++◌, slice_set, slice_index_or, arith, length-set}
use Rattle.claim_queue.specs.declared.turns.Turn.{Turn}
use Rattle.claim_queue.specs.Held.{held}
use Rattle.claim_queue.specs.Dues.{Dues}
use Rattle.claim_queue.specs.Counts.{AreFew}
use Rattle.claim_queue.specs.Heaps.{HasTurn, IsKept, IsPut}
use Rattle.claim_queue.specs.DueHeaps.{AreDue}
use Rattle.claim_queue.proofs.TableLemmas.{held-some, held-within}
use Rattle.claim_queue.proofs.DueMoves.{given-kept, turn-held, due-shifted}
use Rattle.claim_queue.proofs.EditLemmas.{written}
use Rattle.claim_queue.proofs.due_rows.DueRows.shift.Goals as goal

pub replace-requires-clause-held : goal.replace-requires-clause-held
replace-requires-clause-held g c =
    let rows = c.self.inside.rows.items in
    let was = held-some rows c.args.row (subst (λ (d : Dues). IsSome (slice_index_or d.rows c.args.row None)) (sym c.self.view_is) c.requires) in
    subst (λ (l : List Turn). HasTurn c.due_turn.result.row l c.deref_mut-2.result.now) (sym c.deref_mut.ensures.value)
    (turn-held rows c.self.inside.heap.items c.self.inside.places.items c.deref_mut-2.result.now c.self.invariant.0 c.deref_mut-2.ensures.value c.due_turn.result c.args.row c.args.at c.due_turn.ensures was.0 was.1)

pub replace-requires-clause-kept : goal.replace-requires-clause-kept
replace-requires-clause-kept g c =
    subst (λ (l : List Turn). IsKept l c.deref_mut-2.result.now) (sym c.deref_mut.ensures.value)
    (given-kept c.self.inside.rows.items c.self.inside.heap.items c.self.inside.places.items c.deref_mut-2.result.now c.self.invariant.0 c.deref_mut-2.ensures.value)

pub invariant_of-self : goal.invariant_of-self
invariant_of-self g c =
    let rows = c.self.inside.rows.items in
    let heap = c.self.inside.heap.items in
    let places = c.self.inside.places.items in
    let later = c.replace.new.heap in
    let moved = c.replace.new.places in
    let was = held-some rows c.args.row (subst (λ (d : Dues). IsSome (slice_index_or d.rows c.args.row None)) (sym c.self.view_is) c.requires) in
    let put_ : IsPut c.due_turn.result heap later c.deref_mut-2.result.now moved =
    subst (λ (l : List Turn). IsPut c.due_turn.result l later c.deref_mut-2.result.now moved) c.deref_mut.ensures.value c.replace.ensures.put in
    let long_given : length later ≡ length c.deref_mut.result.now = omega (arith, c.replace.auto.heap) in
    let long_heap : length later ≡ length heap = long_given ∙ ap length c.deref_mut.ensures.value in
    let long : length moved ≡ length c.deref_mut-2.result.now = omega (arith, c.replace.auto.places) in
    let due = due-shifted rows heap places c.deref_mut-2.result.now c.self.invariant.0 c.deref_mut-2.ensures.value c.due_turn.result c.args.row c.args.at c.due_turn.ensures later moved was.0 was.1
    put_ c.replace.ensures.kept long_heap long in
    let is_heap = written later heap c.self.inside.heap.len (long_given ∙ c.deref_mut.ensures.len) in
    let is_places = written moved places c.self.inside.places.len (long ∙ c.deref_mut-2.ensures.len) in
    let have = c.self.invariant.1 in
    let small = have.small in
    let within = have.within in
    let same_length = ap length is_heap in (
      subst (λ (h : List Turn). AreDue (slice_set rows c.args.row (Some c.args.at)) h (take c.self.inside.places.len (moved ++ drop (length moved) places))) (sym is_heap) (subst (λ (l : List ℕ). AreDue (slice_set rows c.args.row (Some c.args.at)) later l) (sym is_places) due),
      record { small = omega (arith, length-set rows c.args.row (Some c.args.at)); within = omega arith; taken = have.taken },
    )

pub returns-clause-steps : goal.returns-clause-steps
returns-clause-steps g c =
    let few = subst (λ (l : List Turn). AreFew (length l) c.args.steps.now c.replace.new.steps) c.deref_mut.ensures.value c.replace.ensures.steps in
    subst (λ n. AreFew n c.args.steps.now c.replace.new.steps) (c.self.invariant.0.count ∙ ap (λ (d : Dues). held d.rows) c.self.view_is) few

pub index_mut-requires : goal.index_mut-requires
index_mut-requires g c =
    let rows = c.self.inside.rows.items in
    let was = held-some rows c.args.row (subst (λ (d : Dues). IsSome (slice_index_or d.rows c.args.row None)) (sym c.self.view_is) c.requires) in
    omega (arith, held-within rows c.args.row was.0 was.1)

pub returns-clause-rows : goal.returns-clause-rows
returns-clause-rows g c = ap (λ (d : Dues). let e : Dues = record { room = d.room; rows = slice_set d.rows c.args.row (Some c.args.at) } in e) c.self.view_is
