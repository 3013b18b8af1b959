use Rattle.std.proofs.Common.{◌≡◌, ℕ, List, Result, sym, ap, subst}
use Rattle.farm_text.specs.Doc.{document}
use Rattle.jsone_values.specs.declared.faults.Fault.{Fault}
use Rattle.jsone_values.specs.Meets.{Meets}
use Rattle.jsone_eval.specs.Values.{member_named}
use Rattle.jsone_eval.proofs.pieces.member_at.Goals as goal

pub returns-in-Ok : goal.returns-in-Ok
returns-in-Ok c = subst (λ (f : Result (List ℕ) Fault). Meets (λ r. r ≡ member_named (document c.args.value.now) f) c.copied_member.result) (sym c.in-Ok.ensures) c.copied_member.ensures

pub returns-in-Err : goal.returns-in-Err
returns-in-Err c = sym (ap (member_named (document c.args.value.now)) c.in-Err.ensures)
