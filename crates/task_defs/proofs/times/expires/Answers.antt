use Rattle.std.proofs.Common.{◌<◌, ℕ, sym, ◌∙◌, subst, arith}
use Rattle.farm_text.specs.Doc.{document}
use Rattle.task_defs.specs.Rules.{IsExpires}
use Rattle.task_defs.specs.Parts.{expires_by}
use Rattle.task_defs.proofs.TimeLemmas.{expires_holds, expires_break, expires_is, expires_same}
use Rattle.task_defs.proofs.times.expires.Goals as goal

pub returns-then-millis : goal.returns-then-millis
returns-then-millis c =
    let d = document c.args.doc.now in
    let e = c.said_or_default-expires.ensures in
    let after : c.args.deadline < expires_by c.args.deadline c.args.said = rw (← e, ← c.millis.ensures.value, ← c.millis-2.ensures.value) c.if-millis.true in (
      expires_holds d c.args.deadline c.args.said c.requires.deadline c.requires.said after,
      subst (λ (x : ℕ). IsExpires d c.args.deadline x) (sym e) (expires_is d c.args.deadline c.args.said c.requires.said),
      λ n at. e ∙ expires_same d c.args.deadline n c.args.said c.requires.said at,
    )

pub returns-else-millis : goal.returns-else-millis
returns-else-millis c =
    let e = c.said_or_default-expires.ensures in
    expires_break (document c.args.doc.now) c.args.deadline c.args.said _ c.requires.deadline c.requires.said
    (λ h. let lt : c.args.deadline < c.said_or_default-expires.result = rw e h in
    let a = c.millis.ensures.value in let b = c.millis-2.ensures.value in let f = c.if-millis.false in absurd (omega arith)) c.at.ensures
