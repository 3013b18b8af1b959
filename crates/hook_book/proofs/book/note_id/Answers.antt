use Rattle.std.proofs.Common.{Some, string_bytes}
use Rattle.std.proofs.lemmas.Map.Text.{btree_map_updates_text}
use Rattle.hook_book.proofs.book.note_id.Goals as goal

pub returns-clause-kept : goal.returns-clause-kept
returns-clause-kept c = λ i.
    rw c.in_ok-name.ensures.ok at
    (btree_map_updates_text (string_bytes c.in_ok-name.name) c.args.ids.now c.insert.new.self (Some c.args.place) c.in-Ok.ensures.updates i)
