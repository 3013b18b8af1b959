use Rattle.std.proofs.Common.{◌≤◌, ◌<◌, List, ◌∷◌, [], ◌++◌, length, sym, subst}
use Rattle.task_types.specs.declared.task_def.TaskDef.{TaskDef}
use Rattle.task_index.specs.Plans.{HasRoom}
use Rattle.task_index.specs.PlaceLists.{KeptPlaces, no_places, members_at, kept_at, AreNowAt, IsFirst}
use Rattle.task_index.proofs.ComingLemmas.{begun}
use Rattle.task_index.proofs.GroupedLemmas.{CanJoin, can-join, joined-grouped}
use Rattle.task_index.proofs.place_lists.coming.begin.Goals as goal

pub join-requires-clause-within : goal.join-requires-clause-within
join-requires-clause-within c =
    let lists = c.args.lists.now in
    let rows = c.args.rows.now in
    let group = c.args.row.now.definition.task_group_id in
    let first = c.first_or_end-first.result in
    let is : IsFirst group rows first = subst (λ (d : TaskDef). IsFirst d.task_group_id rows first) c.definition.ensures c.first_or_end-first.ensures in
    let can : CanJoin lists first c.args.member = can-join lists rows group first c.args.member c.requires.listed.grouped c.requires.listed.waited.long c.requires.few is c.requires.member in
    subst (λ (p : List KeptPlaces). first < length p) (sym c.push.ensures) can.within

pub join-requires-clause-few : goal.join-requires-clause-few
join-requires-clause-few c =
    let lists = c.args.lists.now in
    let rows = c.args.rows.now in
    let group = c.args.row.now.definition.task_group_id in
    let first = c.first_or_end-first.result in
    let is : IsFirst group rows first = subst (λ (d : TaskDef). IsFirst d.task_group_id rows first) c.definition.ensures c.first_or_end-first.ensures in
    let can : CanJoin lists first c.args.member = can-join lists rows group first c.args.member c.requires.listed.grouped c.requires.listed.waited.long c.requires.few is c.requires.member in
    subst (λ (p : List KeptPlaces). length (members_at first p) ≤ 1_000_000) (sym c.push.ensures) can.few

pub join-requires-clause-room : goal.join-requires-clause-room
join-requires-clause-room c =
    let lists = c.args.lists.now in
    let rows = c.args.rows.now in
    let group = c.args.row.now.definition.task_group_id in
    let first = c.first_or_end-first.result in
    let is : IsFirst group rows first = subst (λ (d : TaskDef). IsFirst d.task_group_id rows first) c.definition.ensures c.first_or_end-first.ensures in
    let can : CanJoin lists first c.args.member = can-join lists rows group first c.args.member c.requires.listed.grouped c.requires.listed.waited.long c.requires.few is c.requires.member in
    subst (λ (p : List KeptPlaces). HasRoom (length (members_at first p)) c.args.member) (sym c.push.ensures) can.room

pub returns-clause-waited : goal.returns-clause-waited
returns-clause-waited c =
    let lists = c.args.lists.now in
    let rows = c.args.rows.now in
    let first = c.first_or_end-first.result in
    let more : List KeptPlaces = lists ++ no_places ∷ [] in
    begun lists c.join.new.self rows c.args.row.now first (members_at first more ++ length rows ∷ []) c.requires.listed.waited c.requires.unknown
    (subst (λ (p : List KeptPlaces). AreNowAt first (record (kept_at first p) { members = members_at first p ++ length rows ∷ [] }) p c.join.new.self) c.push.ensures c.join.ensures)

pub returns-clause-grouped : goal.returns-clause-grouped
returns-clause-grouped c =
    let lists = c.args.lists.now in
    let rows = c.args.rows.now in
    let group = c.args.row.now.definition.task_group_id in
    let first = c.first_or_end-first.result in
    let is : IsFirst group rows first = subst (λ (d : TaskDef). IsFirst d.task_group_id rows first) c.definition.ensures c.first_or_end-first.ensures in
    joined-grouped lists c.join.new.self rows c.args.row.now first c.requires.listed.grouped c.requires.listed.waited.long is
    (subst (λ (p : List KeptPlaces). AreNowAt first (record (kept_at first p) { members = members_at first p ++ length rows ∷ [] }) p c.join.new.self) c.push.ensures c.join.ensures)
