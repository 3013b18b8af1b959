use Rattle.std.proofs.Common.{◌≡◌, ◌+◌, ◌≤◌, ℕ, List, Option, is_some, ap, sym, ◌∙◌, subst, length, vec_capacity, max, rules, arith}
use Rattle.std.proofs.lemmas.List.Sums.{count_by-le-length}
use Rattle.std.proofs.lemmas.Result.{err_from_is_err_and}
use Rattle.claim_queue.specs.Held.{up_to}
use Rattle.claim_queue.specs.Dues.{Dues}
use Rattle.claim_queue.specs.DueHeaps.{HaveRoom}
use Rattle.claim_queue.proofs.DueRoom.{due-stays, have-stays, due-made, have-made, made-shown}
use Rattle.claim_queue.proofs.due_rows.DueRows.reserve.Goals as goal

pub overflow_add-room : goal.overflow_add-room
overflow_add-room c =
    let short = count_by-le-length is_some c.self.inside.rows.items in
    let count = c.self.invariant.0.count in
    let small = c.self.invariant.1.small in
    let long : c.len-held.result ≡ length c.self.inside.heap.items = search rules in
    omega arith

pub make_room-requires : goal.make_room-requires
make_room-requires c = c.self.invariant.1.small

pub invariant_of-self : goal.invariant_of-self
invariant_of-self c =
    let d = c.self.inside in
    let new = c.make_room.new in
    let told = c.make_room.ensures in
    let rows : new.rows.items ≡ d.rows.items = search rules in (
      due-stays d.rows.items new.rows.items d.heap.items new.heap.items d.places.items new.places.items c.self.invariant.0 rows told.turns told.places,
      have-stays d.rows.items new.rows.items d.heap.items new.heap.items d.room (vec_capacity d.heap) (vec_capacity new.heap) c.self.invariant.1 told.small told.turns told.memory,
    )

pub returns-in_err-make_room : goal.returns-in_err-make_room
returns-in_err-make_room c =
    let d = c.self.inside in
    let rows : c.make_room.new.rows.items ≡ d.rows.items = search rules in
    let p = err_from_is_err_and c.from_residual.result c.from_residual.ensures.1 in
    rw p.1 (ap (λ (r : List (Option ℕ)). let e : Dues = record { room = d.room; rows = r } in e) rows ∙ c.self.view_is)

pub invariant_of-self-2 : goal.invariant_of-self-2
invariant_of-self-2 c =
    let d = c.self.inside in
    let new = c.make_room.new in
    let told = c.make_room.ensures in
    let made = c.len-held.result + c.args.more in
    let grown : new.rows.items ≡ up_to c.args.below d.rows.items = search rules in
    let long : c.len-held.result ≡ length d.heap.items = search rules in
    let enough : made ≤ vec_capacity new.heap = c.in_ok-make_room.ensures.room in
    let wide : c.args.below ≤ length new.places.items = c.in_ok-make_room.ensures.below in
    let room : c.max-self-inside.result ≡ max d.room made = search rules in
    let fits : length d.heap.items ≤ made = omega arith in (
      due-made d.rows.items new.rows.items d.heap.items new.heap.items d.places.items new.places.items c.args.below c.self.invariant.0 told.turns told.places wide grown,
      subst (λ n. HaveRoom new.rows.items new.heap.items n (vec_capacity new.heap)) (sym room)
          (have-made d.rows.items new.rows.items d.heap.items new.heap.items d.room made (vec_capacity d.heap) (vec_capacity new.heap) c.self.invariant.1 told.turns told.memory told.small fits enough),
    )

pub returns : goal.returns
returns c =
    let d = c.self.inside in
    let made = c.len-held.result + c.args.more in
    let grown : c.make_room.new.rows.items ≡ up_to c.args.below d.rows.items = search rules in
    let long : c.len-held.result ≡ length d.heap.items = search rules in
    let room : c.max-self-inside.result ≡ max d.room made = search rules in
    ap (λ n. let seen : Dues = record { room = n; rows = c.make_room.new.rows.items } in seen) room
    ∙ made-shown d.rows.items c.make_room.new.rows.items d.room c.len-held.result c.args.more c.args.below c.args.self.now (ap (λ (e : Dues). e.room) c.self.view_is) (ap (λ (e : Dues). e.rows) c.self.view_is)
    (long ∙ c.self.invariant.0.count) grown
