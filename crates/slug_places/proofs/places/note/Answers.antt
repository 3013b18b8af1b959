-- a place that is noted is that of its id alone
use Rattle.std.proofs.Common.{Some}
use Rattle.slug_places.proofs.NoteLemmas.{updates_bytes}
use Rattle.slug_places.proofs.places.note.Goals as goal

pub returns-clause-noted : goal.returns-clause-noted
returns-clause-noted c = updates_bytes c.args.id c.args.places.now c.insert.new.self (Some c.args.place) c.in-Ok.ensures.updates
