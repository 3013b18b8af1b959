use Rattle.std.proofs.Common.{◌≡◌, ℕ, List, Some, None, sym, ap, ◌∙◌, subst, length, slice_get, slice_set, arith, length-set}
use Rattle.claim_queue.specs.Held.{held}
use Rattle.claim_queue.specs.Dues.{Dues}
use Rattle.claim_queue.specs.Counts.{AreFew}
use Rattle.claim_queue.specs.DueHeaps.{AreDue}
use Rattle.claim_queue.proofs.DueMoves.{given-kept, turn-absent, due-added}
use Rattle.claim_queue.proofs.EditLemmas.{written}
use Rattle.claim_queue.proofs.HeldLemmas.{within-held}
use Rattle.claim_queue.proofs.due_rows.DueRows.add.Goals as goal

pub insert-requires-clause-room : goal.insert-requires-clause-room
insert-requires-clause-room g c =
    let count = c.self.invariant.0.count in
    let taken = c.self.invariant.1.taken in
    let room : c.args.self.now.room ≡ c.self.inside.room = ap (λ (d : Dues). d.room) (sym c.self.view_is) in
    let held_ : held c.args.self.now.rows ≡ held c.self.inside.rows.items = ap (λ (d : Dues). held d.rows) (sym c.self.view_is) in
    let spare = c.requires.room in
    omega arith

pub insert-requires-clause-absent : goal.insert-requires-clause-absent
insert-requires-clause-absent g c =
    let none : slice_get c.self.inside.rows.items c.args.row ≡ Some None = ap (λ (d : Dues). slice_get d.rows c.args.row) c.self.view_is ∙ c.requires.absent in
    turn-absent c.self.inside.rows.items c.self.inside.heap.items c.self.inside.places.items c.deref_mut.result.now c.self.invariant.0 c.deref_mut.ensures.value c.due_turn.result c.args.row c.args.at c.due_turn.ensures none

pub insert-requires-clause-kept : goal.insert-requires-clause-kept
insert-requires-clause-kept g c =
    given-kept c.self.inside.rows.items c.self.inside.heap.items c.self.inside.places.items c.deref_mut.result.now c.self.invariant.0 c.deref_mut.ensures.value

pub invariant_of-self : goal.invariant_of-self
invariant_of-self g c =
    let rows = c.self.inside.rows.items in
    let heap = c.self.inside.heap.items in
    let places = c.self.inside.places.items in
    let none : slice_get rows c.args.row ≡ Some None = ap (λ (d : Dues). slice_get d.rows c.args.row) c.self.view_is ∙ c.requires.absent in
    let long : length c.insert.new.places ≡ length c.deref_mut.result.now = omega (arith, c.insert.auto.places) in
    let due = due-added rows heap places c.deref_mut.result.now c.self.invariant.0 c.deref_mut.ensures.value c.due_turn.result c.args.row c.args.at c.due_turn.ensures c.insert.new.heap.items c.insert.new.places none
    c.insert.ensures.put c.insert.ensures.kept c.insert.ensures.more long in
    let have = c.self.invariant.1 in
    let small = have.small in
    let taken = have.taken in
    let count = c.self.invariant.0.count in
    let room : c.args.self.now.room ≡ c.self.inside.room = ap (λ (d : Dues). d.room) (sym c.self.view_is) in
    let held_ : held c.args.self.now.rows ≡ held rows = ap (λ (d : Dues). held d.rows) (sym c.self.view_is) in
    let spare = c.requires.room in
    let more = c.insert.ensures.more in
    let memory = c.insert.ensures.room in (
      subst (λ (l : List ℕ). AreDue (slice_set rows c.args.row (Some c.args.at)) c.insert.new.heap.items l) (sym (written c.insert.new.places places c.self.inside.places.len (long ∙ c.deref_mut.ensures.len))) due,
      record { small = omega (arith, length-set rows c.args.row (Some c.args.at)); within = omega arith; taken = omega arith },
    )

pub returns-clause-steps : goal.returns-clause-steps
returns-clause-steps g c =
    subst (λ n. AreFew n c.args.steps.now c.insert.new.steps) (c.self.invariant.0.count ∙ ap (λ (d : Dues). held d.rows) c.self.view_is) c.insert.ensures.steps

pub index_mut-requires : goal.index_mut-requires
index_mut-requires g c =
    let none : slice_get c.self.inside.rows.items c.args.row ≡ Some None = ap (λ (d : Dues). slice_get d.rows c.args.row) c.self.view_is ∙ c.requires.absent in
    omega (arith, within-held c.self.inside.rows.items c.args.row None none)

pub returns-clause-rows : goal.returns-clause-rows
returns-clause-rows g c = ap (λ (d : Dues). let e : Dues = record { room = d.room; rows = slice_set d.rows c.args.row (Some c.args.at) } in e) c.self.view_is
