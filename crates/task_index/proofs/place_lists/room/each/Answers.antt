use Rattle.std.proofs.Common.{◌≡◌, ℕ, ◌+◌, List, length, map, take, ap, sym, ◌∙◌, subst, arith}
use Rattle.std.specs.List.{AllZip}
use Rattle.task_index.specs.declared.lists.TaskList.TheVariants.{Dependants}
use Rattle.task_index.specs.Lists.{listed}
use Rattle.task_index.specs.Plans.{HasRoom, HasRoomOn}
use Rattle.task_index.proofs.PlaceListLemmas.{count-listed, few-places}
use Rattle.task_index.proofs.SpareLemmas.{brought}
use Rattle.task_index.proofs.place_lists.room.each.Goals as goal

pub new-requires : goal.new-requires
new-requires c =
    let rows = c.args.rows.now in
    let most = few-places (Dependants c.id-item.result) rows in
    let places = ap length c.dependants_of-stand.ensures in
    let few = c.requires.few in
    omega arith

pub loop-id-preserved : goal.loop-id-preserved
loop-id-preserved c =
    let rows = c.args.rows.now in
    let id = c.id-item.result in
    let count : length c.dependants_of-stand.result.now ≡ length (listed (Dependants id) rows) = ap length c.dependants_of-stand.ensures ∙ count-listed (Dependants id) rows in
    let here : HasRoomOn rows (Dependants id) c.in_ok-new.field-0 = subst (λ n. HasRoom n c.in_ok-new.field-0) count c.in_ok-new.ensures in
    subst (λ (ys : List ℕ). AllZip (HasRoomOn rows) (map Dependants (take (c.loop-id.id-index + 1) c.args.ids.now)) ys) (sym c.in_ok-push.ensures.items)
    (brought rows c.args.ids.now c.loop-id.id-index c.in_ok-new.field-0 c.loop-id.spares.items id c.loop-id-test.true c.id-item.is c.loop-id.invariant here)
