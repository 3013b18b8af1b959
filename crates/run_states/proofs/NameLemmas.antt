-- A reason is found again by its name.
use Rattle.std.proofs.Common.{◌≡◌, ℕ, List, [], ◌∷◌, codes, Option, Some, refl, sym, ap, ◌∙◌}
use Rattle.std.specs.Map.{lookup}
use Rattle.std.specs.Str.{bytes_eq}
use Rattle.run_states.specs.declared.reasons.ReasonResolved.{ReasonResolved}
use Rattle.run_states.specs.declared.reasons.ReasonResolved.TheVariants as reasons
use Rattle.run_states.specs.Reasons.{resolved_name}

abbrev all_names : List (List ℕ × ReasonResolved)
all_names =
    (codes "completed", reasons.Completed) ∷ (codes "failed", reasons.Failed) ∷ (codes "deadline-exceeded", reasons.DeadlineExceeded) ∷ (codes "canceled", reasons.Canceled)
    ∷ (codes "superseded", reasons.Superseded) ∷ (codes "claim-expired", reasons.ClaimExpired) ∷ (codes "worker-shutdown", reasons.WorkerShutdown)
    ∷ (codes "malformed-payload", reasons.MalformedPayload) ∷ (codes "resource-unavailable", reasons.ResourceUnavailable) ∷ (codes "internal-error", reasons.InternalError)
    ∷ (codes "intermittent-task", reasons.IntermittentTask) ∷ []

abbrev found : List ℕ → Option ReasonResolved
found name = lookup (bytes_eq name) all_names

found-back : (reason : ReasonResolved) → found (resolved_name reason) ≡ Some reason
found-back reasons.Completed = refl
found-back reasons.Failed = refl
found-back reasons.DeadlineExceeded = refl
found-back reasons.Canceled = refl
found-back reasons.Superseded = refl
found-back reasons.ClaimExpired = refl
found-back reasons.WorkerShutdown = refl
found-back reasons.MalformedPayload = refl
found-back reasons.ResourceUnavailable = refl
found-back reasons.InternalError = refl
found-back reasons.IntermittentTask = refl

pub names-apart : (a b : ReasonResolved) → resolved_name a ≡ resolved_name b → a ≡ b
names-apart a b same =
    let both : Some a ≡ Some b = sym (found-back a) ∙ (ap found same ∙ found-back b) in
    cc
