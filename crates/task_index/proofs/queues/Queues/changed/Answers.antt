use Rattle.std.proofs.Common.{List, Some, refl, ap, sym, ◌∙◌, get_or}
use Rattle.std.proofs.lemmas.Option.{slice_get-get_or}
use Rattle.task_index.specs.declared.queues.Queues.{Queues}
use Rattle.task_index.proofs.QueueRoomLemmas.{changed-room, changed-all, name-at}
use Rattle.task_index.proofs.queues.Queues.changed.Goals as goal

pub hold-requires-clause-room : goal.hold-requires-clause-room
hold-requires-clause-room c =
    let rows = c.args.rows.now in
    let place = c.args.place in
    let row = c.index-rows-place.result in
    let here = slice_get-get_or rows place row c.requires.within ∙ ap Some (sym c.index-rows-place.is) in
    let named = c.index.ensures ∙ (ap (λ (names : List _). get_or names place c.index.result.now) c.requires.others.kept.named ∙ name-at rows place row c.index.result.now here) in
    changed-room place c.args.self.now rows c.requires.others row c.index.result.now here named

pub returns-clause-all : goal.returns-clause-all
returns-clause-all c =
    let rows = c.args.rows.now in
    let place = c.args.place in
    let row = c.index-rows-place.result in
    let here = slice_get-get_or rows place row c.requires.within ∙ ap Some (sym c.index-rows-place.is) in
    let new : Queues = record { pending = c.hold.new.pending; names = c.args.self.now.names; next = c.args.self.now.next } in
    changed-all place c.args.self.now rows c.requires.others new row here c.hold.ensures refl refl
