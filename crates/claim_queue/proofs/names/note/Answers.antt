use Rattle.std.proofs.Common.{Some, string_bytes}
use Rattle.std.proofs.lemmas.Map.Text.{btree_map_updates_text}
use Rattle.claim_queue.proofs.names.note.Goals as goal

pub returns-clause-kept : goal.returns-clause-kept
returns-clause-kept c = λ other.
    rw c.into_string.ensures at
    (btree_map_updates_text (string_bytes c.into_string.result) c.args.names.now c.insert.new.self (Some c.args.place) c.in-Ok.ensures.updates other)
