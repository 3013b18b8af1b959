-- What is written of a planned change can be read: a task that it makes was said.
use Rattle.std.proofs.Common.{◌≡◌, ℕ, List, Option, Some, None, option_map, refl, ap, ◌∙◌, subst}
use Rattle.task_types.specs.declared.change.Change.{Change}
use Rattle.task_types.specs.declared.change.Kind.{Kind}
use Rattle.task_types.specs.declared.change.Kind.TheVariants.{Tick, Create, Schedule, Rerun, Cancel, Claim as TakesRuns, Reclaim, Resolve}
use Rattle.farm_record.specs.Records.{IsSaid}
use Rattle.task_index.specs.Plans.{Planned}
use Rattle.farm_machine.specs.declared.judged.Judged.{Judged}
use Rattle.farm_asks.specs.declared.question.Call.{Call}
use Rattle.farm_asks.specs.Questions.{Asking}
use Rattle.farm_machine.specs.Judgement.{Judgement}
use Rattle.farm_machine.specs.Laws.{creation_of, creation_of_kind}
use Rattle.farm_machine.specs.Planned.{judgement_of}
use Rattle.farm_machine.specs.State.{State}
use Rattle.farm_machine.specs.Verdict.{IsVerdict}
use Rattle.farm_asks.specs.Questions.{IsSaidCall}
use Rattle.farm_machine.specs.Written.{AreWritten, AreRecorded}
use Rattle.farm_machine.proofs.ChangeLemmas.{verdict-creates}

-- the change of a verdict makes no task that was not said
said-kind : (state : State) (asking : Asking) (judgement : Judgement) (change : Change) → IsVerdict state asking judgement → judgement.change ≡ Some change → IsSaidCall asking.call → (kind : Kind) → change.kind ≡ kind → IsSaid kind
said-kind state asking judgement change verdict is said Tick same = tt
said-kind state asking judgement change verdict is said (Create creation) same =
    let makes : creation_of judgement.change ≡ Some creation = ap creation_of is ∙ ap creation_of_kind same in
    let creates = verdict-creates state asking judgement creation verdict makes in
    creates.said said
said-kind state asking judgement change verdict is said (Schedule id) same = tt
said-kind state asking judgement change verdict is said (Rerun id) same = tt
said-kind state asking judgement change verdict is said (Cancel id) same = tt
said-kind state asking judgement change verdict is said (TakesRuns claim) same = tt
said-kind state asking judgement change verdict is said (Reclaim r) same = tt
said-kind state asking judgement change verdict is said (Resolve r) same = tt

recorded-by : (plan : Option Planned) (text : Option (List ℕ)) → ((p : Planned) → plan ≡ Some p → IsSaid p.change.kind) → AreWritten plan text → AreRecorded plan text
recorded-by None None said written = tt
recorded-by None (Some text) said written = absurd written
recorded-by (Some plan) None said written = absurd written
recorded-by (Some plan) (Some text) said written = written.recorded (said plan refl)

pub planned-recorded : (state : State) (asking : Asking) (judged : Judged) (text : Option (List ℕ)) (call : Call) → IsVerdict state asking (judgement_of judged) → call ≡ asking.call → IsSaidCall call → AreWritten judged.change text → AreRecorded judged.change text
planned-recorded state asking judged text call verdict same said written =
    recorded-by judged.change text
    (λ p is. said-kind state asking (judgement_of judged) p.change verdict (ap (option_map (λ (q : Planned). q.change)) is) (subst IsSaidCall same said) p.change.kind refl) written
