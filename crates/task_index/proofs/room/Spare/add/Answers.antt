use Rattle.std.proofs.Common.{◌≡◌, ℕ, ◌≤◌, ◌+◌, length, ap, sym, subst, ◌∙◌, rules, arith, vec_len, vec_capacity}
use Rattle.std.proofs.lemmas.List.{length_push}
use Rattle.task_index.specs.Plans.{room_for, HasRoom}
use Rattle.task_index.proofs.RoomLemmas.{more-fits}
use Rattle.task_index.proofs.room.Spare.add.Goals as goal

pub add-requires-clause-room : goal.add-requires-clause-room
add-requires-clause-room c =
    let list = c.args.list.now in
    let brought = vec_capacity c.self.inside.places in
    let room : HasRoom (length list.items) brought = subst (λ n. HasRoom (length list.items) n) (sym c.self.view_is) c.requires.room in
    let len : vec_len list ≡ length list.items = search rules in
    let fits = more-fits (length list.items) (vec_capacity list) brought c.requires.few c.requires.kept room in
    omega arith

pub returns-clause-kept : goal.returns-clause-kept
returns-clause-kept c =
    let list = c.args.list.now in
    let brought = vec_capacity c.self.inside.places in
    let room : HasRoom (length list.items) brought = subst (λ n. HasRoom (length list.items) n) (sym c.self.view_is) c.requires.room in
    let P : ℕ → Type 0 = λ n. room_for n ≤ vec_capacity c.add.new.list in
    let long : length c.add.new.list.items ≡ length list.items + 1 = ap length c.add.ensures.items ∙ length_push list.items c.args.place in
    subst P (sym long) (let made = c.add.ensures.capacity in let kept = c.requires.kept in omega arith)
