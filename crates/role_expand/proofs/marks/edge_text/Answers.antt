use Rattle.std.proofs.lemmas.Bool.{both_ways}
use Rattle.role_expand.specs.Roles.{assume}
use Rattle.role_expand.proofs.EdgeLemmas.{begins, alike_short}
use Rattle.role_expand.proofs.marks.edge_text.Goals as goal

pub returns-else-starts_with : goal.returns-else-starts_with
returns-else-starts_with c = λ front h.
    let k = begins c.starts_with.result c.args.before.now assume c.starts_with.ensures.cases in
    both_ways _ c.if-starts_with.false (k.1 (alike_short c.args.before.now front c.in-None.ensures h))
