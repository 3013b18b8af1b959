use Rattle.std.proofs.Common.{refl}
use Rattle.std.proofs.lemmas.Bool.{false≢true}
use Rattle.farm_text.specs.Doc.{document}
use Rattle.task_defs.proofs.TimeLemmas.{deadline_holds, deadline_breaks}
use Rattle.task_defs.proofs.times.check_deadline.Goals as goal

pub returns-then-is_within : goal.returns-then-is_within
returns-then-is_within c =
    let within = c.if-is_within.ensures.0 refl in
    deadline_holds (document c.args.doc.now) c.args.created c.args.deadline c.requires.created c.requires.deadline (rw (c.millis.ensures.value, c.millis-2.ensures.value) at within)

pub returns-else-is_within : goal.returns-else-is_within
returns-else-is_within c =
    deadline_breaks (document c.args.doc.now) c.args.created c.args.deadline _ c.requires.created c.requires.deadline
    (λ h. false≢true (c.if-is_within.ensures.1 (rw (c.millis.ensures.value, c.millis-2.ensures.value) h))) c.at.ensures
