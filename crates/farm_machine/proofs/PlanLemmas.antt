-- A call that is judged in the state of its tables is planned.
use Rattle.std.proofs.Common.{◌≡◌, ℕ, false, List, refl, subst}
use Rattle.task_index.specs.Contents.{Contents}
use Rattle.task_index.specs.Due.{is_due}
use Rattle.farm_asks.specs.declared.config.Config.{Config}
use Rattle.farm_machine.specs.declared.judged.Judged.{Judged}
use Rattle.farm_asks.specs.declared.question.Call.{Call}
use Rattle.farm_asks.specs.declared.question.Caller.{Caller}
use Rattle.farm_machine.specs.Changes.{moment_of}
use Rattle.farm_asks.specs.Questions.{Asking}
use Rattle.farm_machine.specs.Order.{IsFirst, in_order}
use Rattle.farm_machine.specs.Planned.{judgement_of, IsPlanOf}
use Rattle.farm_machine.specs.Refused.{setting_at, IsJudged}
use Rattle.farm_machine.specs.Verdict.{form_of, IsVerdict}

-- the call, the caller and the drawn id are those of the question, and the moment is the call's
pub IsPlanOf-judged : (config : Config) (contents : Contents) (asking : Asking) (moment : ℕ) (drawn : List ℕ) (call : Call) (caller : Caller) (judged : Judged) → moment ≡ moment_of contents asking → drawn ≡ asking.drawn → call ≡ asking.call → caller ≡ asking.caller
    → is_due contents (moment_of contents asking) ≡ false → IsJudged (setting_at config contents moment drawn) caller (form_of call) judged
    → IsPlanOf config contents asking (record { moment = moment; judgement = judgement_of judged; tasks = judged.change })
unfolding IsVerdict
IsPlanOf-judged config contents asking moment drawn call caller judged at draws called calls nothing is =
    let P : ℕ → List ℕ → Call → Caller → Type 0 = λ m d c w. IsFirst (in_order (setting_at config contents m d) w (form_of c)) (judgement_of judged) in
    let now = moment_of contents asking in
    let first : P now asking.drawn asking.call asking.caller =
    subst (λ (w : Caller). P now asking.drawn asking.call w) calls
    (subst (λ (c : Call). P now asking.drawn c caller) called
    (subst (λ (d : List ℕ). P now d call caller) draws (subst (λ (m : ℕ). P m drawn call caller) at is.first))) in
    record { at = at; nothing_due = rw at nothing; judged = first; change = refl; kept = is.kept }
