use Rattle.std.proofs.Common.{◌≡◌, ℕ, ◌<◌, List, Option, Some, None, length, position, bytes_eq, sym, ◌∙◌, ap, subst, arith, rules, vec_len, vec_capacity}
use Rattle.task_groups.specs.declared.group.Group.{Group}
use Rattle.task_groups.specs.Kept.{HasRoomAt}
use Rattle.task_groups.proofs.GroupLemmas.{joined-at, joined-none}
use Rattle.task_groups.proofs.group.add_row.Goals as goal

pub returns-in-Some : goal.returns-in-Some
returns-in-Some c =
    let F : List Group → Option ℕ = λ gs. position (λ (group : Group). bytes_eq group.id c.args.joining.id) gs in
    let at : F c.args.groups.now.items ≡ Some c.in-Some.place = ap F (sym c.deref.ensures.value) ∙ (sym c.place_of.ensures ∙ c.in-Some.is) in
    joined-at c.args.groups.now.items c.args.joining.id c.args.joining.scheduler c.in-Some.place c.args.row _ at c.push_row.ensures

pub returns-in-None : goal.returns-in-None
returns-in-None c =
    let F : List Group → Option ℕ = λ gs. position (λ (group : Group). bytes_eq group.id c.args.joining.id) gs in
    let at : F c.args.groups.now.items ≡ None = ap F (sym c.deref.ensures.value) ∙ (sym c.place_of.ensures ∙ c.in-None.is) in
    joined-none c.args.groups.now.items c.args.joining.id c.args.joining.scheduler c.args.row _ at c.push_group.ensures

pub push_group-requires : goal.push_group-requires
push_group-requires c =
    let items = c.args.groups.now.items in
    let F : List Group → Option ℕ = λ gs. position (λ (group : Group). bytes_eq group.id c.args.joining.id) gs in
    let at : F items ≡ None = ap F (sym c.deref.ensures.value) ∙ (sym c.place_of.ensures ∙ c.in-None.is) in
    let P : Option ℕ → Type 0 = λ o. HasRoomAt items (vec_capacity c.args.groups.now) c.args.places.now c.args.joining o in
    let room : P None = subst P at c.requires.room in
    let len : vec_len c.args.groups.now ≡ length items = search rules in
    let fewer : length items < vec_capacity c.args.groups.now = room.0 in
    record { group = omega arith; empty = room.1; row = room.2 }
