use Rattle.std.proofs.Common.{◌≡◌, ℕ, List, None, IsSome, sym, ap, ◌∙◌, subst, length, slice_set, slice_index_or, arith, length-set}
use Rattle.claim_queue.specs.Held.{held}
use Rattle.claim_queue.specs.Dues.{Dues}
use Rattle.claim_queue.specs.Counts.{AreFew}
use Rattle.claim_queue.specs.DueHeaps.{AreDue}
use Rattle.claim_queue.proofs.TableLemmas.{held-some, held-within}
use Rattle.claim_queue.proofs.DueMoves.{given-kept, row-held, due-removed}
use Rattle.claim_queue.proofs.EditLemmas.{written}
use Rattle.claim_queue.proofs.due_rows.DueRows.remove.Goals as goal

pub remove-requires-clause-held : goal.remove-requires-clause-held
remove-requires-clause-held g c =
    let rows = c.self.inside.rows.items in
    let was = held-some rows c.args.row (subst (λ (d : Dues). IsSome (slice_index_or d.rows c.args.row None)) (sym c.self.view_is) c.requires) in
    row-held rows c.self.inside.heap.items c.self.inside.places.items c.deref_mut.result.now c.self.invariant.0 c.deref_mut.ensures.value c.args.row was.0 was.1

pub remove-requires-clause-kept : goal.remove-requires-clause-kept
remove-requires-clause-kept g c =
    given-kept c.self.inside.rows.items c.self.inside.heap.items c.self.inside.places.items c.deref_mut.result.now c.self.invariant.0 c.deref_mut.ensures.value

pub invariant_of-self : goal.invariant_of-self
invariant_of-self g c =
    let rows = c.self.inside.rows.items in
    let heap = c.self.inside.heap.items in
    let places = c.self.inside.places.items in
    let was = held-some rows c.args.row (subst (λ (d : Dues). IsSome (slice_index_or d.rows c.args.row None)) (sym c.self.view_is) c.requires) in
    let long : length c.remove.new.places ≡ length c.deref_mut.result.now = omega (arith, c.remove.auto.places) in
    let due = due-removed rows heap places c.deref_mut.result.now c.self.invariant.0 c.deref_mut.ensures.value c.remove.new.heap.items c.remove.new.places c.args.row was.0 was.1
    c.remove.ensures.taken c.remove.ensures.kept c.remove.ensures.less long in
    let have = c.self.invariant.1 in
    let small = have.small in
    let within = have.within in
    let taken = have.taken in
    let less = c.remove.ensures.less in
    let memory = c.remove.ensures.room in (
      subst (λ (l : List ℕ). AreDue (slice_set rows c.args.row None) c.remove.new.heap.items l) (sym (written c.remove.new.places places c.self.inside.places.len (long ∙ c.deref_mut.ensures.len))) due,
      record { small = omega (arith, length-set rows c.args.row None); within = omega arith; taken = omega arith },
    )

pub returns-clause-steps : goal.returns-clause-steps
returns-clause-steps g c =
    subst (λ n. AreFew n c.args.steps.now c.remove.new.steps) (c.self.invariant.0.count ∙ ap (λ (d : Dues). held d.rows) c.self.view_is) c.remove.ensures.steps

pub index_mut-requires : goal.index_mut-requires
index_mut-requires g c =
    let rows = c.self.inside.rows.items in
    let was = held-some rows c.args.row (subst (λ (d : Dues). IsSome (slice_index_or d.rows c.args.row None)) (sym c.self.view_is) c.requires) in
    omega (arith, held-within rows c.args.row was.0 was.1)

pub returns-clause-rows : goal.returns-clause-rows
returns-clause-rows g c = ap (λ (d : Dues). let e : Dues = record { room = d.room; rows = slice_set d.rows c.args.row None } in e) c.self.view_is
