use Rattle.std.proofs.Common.{◌≡◌, ℕ, List, length, map, ap, ◌∙◌, subst, arith, vec_capacity}
use Rattle.std.specs.List.{AllZip}
use Rattle.task_index.specs.declared.lists.TaskList.TheVariants.{Group, Dependants}
use Rattle.task_index.specs.Lists.{listed}
use Rattle.task_index.specs.Plans.{HasRoom, HasRoomOn}
use Rattle.task_index.proofs.PlaceListLemmas.{count-listed, few-places}
use Rattle.task_index.proofs.RoomLemmas.{least-room}
use Rattle.task_index.proofs.place_lists.room.Room.new.Goals as goal

pub new-requires : goal.new-requires
new-requires c =
    let most = few-places (Group c.args.creation.now.definition.task_group_id) c.args.rows.now in
    let places = ap length c.members_of-members.ensures in
    let few = c.requires.few in
    omega arith

pub returns : goal.returns
returns c =
    let rows = c.args.rows.now in
    let group = c.args.creation.now.definition.task_group_id in
    let count : length c.members_of-members.result.now ≡ length (listed (Group group) rows) = ap length c.members_of-members.ensures ∙ count-listed (Group group) rows in
    let member : HasRoomOn rows (Group group) c.in_ok-member.member = subst (λ n. HasRoom n c.in_ok-member.member) count c.in_ok-member.ensures in
    (least-room (length rows) (vec_capacity c.in_ok-grown_rows.grown_rows) (vec_capacity c.in_ok-grown_lists.grown_lists) c.in_ok-grown_rows.ensures.1 c.in_ok-grown_lists.ensures.1, (member, subst (λ (ids : List (List ℕ)). AllZip (HasRoomOn rows) (map Dependants ids) c.in_ok-each.field-0.items) c.list.ensures c.in_ok-each.ensures))
