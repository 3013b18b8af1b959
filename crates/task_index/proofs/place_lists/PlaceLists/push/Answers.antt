use Rattle.std.proofs.Common.{◌≡◌, ℕ, ◌≤◌, ◌+◌, length, ap, sym, subst, ◌∙◌, rules, arith, vec_len, vec_capacity}
use Rattle.std.proofs.lemmas.List.{length_push}
use Rattle.task_index.specs.Plans.{room_for, HasRoom}
use Rattle.task_index.proofs.RoomLemmas.{more-fits}
use Rattle.task_index.proofs.place_lists.PlaceLists.push.Goals as goal

pub add-requires-clause-room : goal.add-requires-clause-room
add-requires-clause-room c =
    let tasks = c.self.inside.tasks in
    let brought = vec_capacity c.args.grown in
    let same : length tasks.items ≡ length c.args.self.now = ap length c.self.view_is in
    let room : HasRoom (length tasks.items) brought = subst (λ n. HasRoom n brought) (sym same) c.requires.room in
    let len : vec_len tasks ≡ length tasks.items = search rules in
    let few = c.requires.few in
    let fits = more-fits (length tasks.items) (vec_capacity tasks) brought (omega arith) c.self.invariant room in
    omega arith

pub invariant_of-self : goal.invariant_of-self
invariant_of-self c =
    let tasks = c.self.inside.tasks in
    let brought = vec_capacity c.args.grown in
    let same : length tasks.items ≡ length c.args.self.now = ap length c.self.view_is in
    let room : HasRoom (length tasks.items) brought = subst (λ n. HasRoom n brought) (sym same) c.requires.room in
    let P : ℕ → Type 0 = λ n. room_for n ≤ vec_capacity c.add.new.list in
    let long : length c.add.new.list.items ≡ length tasks.items + 1 = ap length c.add.ensures.items ∙ length_push tasks.items c.new-none.result in
    subst P (sym long) (let made = c.add.ensures.capacity in let kept = c.self.invariant in omega arith)
