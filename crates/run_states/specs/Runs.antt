-- The runs of a task: how one is made, how it is claimed, and how it ends (the queue service of the Taskcluster reference).
use Rattle.std.specs.Prelude.{ℕ, zero, suc, Bool, false, ◌&&◌, List, [], ◌∷◌, Option, Some, None, is_some, is_none, option_map, if◌then◌else◌}
use Rattle.std.specs.Option.{option_map_or}
use Rattle.std.specs.Str.{bytes_eq}
use Rattle.run_states.specs.declared.reasons.ReasonCreated.{ReasonCreated}
use Rattle.run_states.specs.declared.reasons.ReasonCreated.TheVariants as made
use Rattle.run_states.specs.declared.reasons.ReasonResolved.{ReasonResolved}
use Rattle.run_states.specs.declared.reasons.RunState.{RunState}
use Rattle.run_states.specs.declared.reasons.RunState.TheVariants as states
use Rattle.run_states.specs.declared.run.Claim.{Claim}
use Rattle.run_states.specs.declared.run.Outcome.{Outcome}
use Rattle.run_states.specs.declared.run.Run.{Run}
use Rattle.run_states.specs.Reasons.{resolved_name, state_for}

-- the state of a run that has not ended: it waits for a worker, or has one
abbrev pub open_state : Option Claim → RunState
open_state None = states.Pending
open_state (Some claim) = states.Running

-- the state of a run with this claim, or none, and this outcome, or none
abbrev pub state_after : Option Claim → Option Outcome → RunState
state_after claim None = open_state claim
state_after claim (Some outcome) = state_for outcome.reason

-- the state of a run
abbrev pub run_state : Run → RunState
run_state run = state_after run.claim run.outcome

-- no worker took the run, and it has not ended
abbrev pub is_pending_run : Run → Bool
is_pending_run run = is_none run.claim && is_none run.outcome

-- a worker took the run, and it has not ended
abbrev pub is_running_run : Run → Bool
is_running_run run = is_some run.claim && is_none run.outcome

-- the moment at which a running run falls due
abbrev pub run_due : Run → Option ℕ
run_due run = if is_running_run run then option_map (λ claim. claim.taken_until) run.claim else None

-- the run ended, and for this reason (the names of the reasons are different)
abbrev pub ended_for : ReasonResolved → Run → Bool
ended_for reason run = option_map_or (λ outcome. bytes_eq (resolved_name outcome.reason) (resolved_name reason)) run.outcome false

-- a pending run, made for this reason, with this number
abbrev pub pending_run : ReasonCreated → ℕ → ℕ → Run
pending_run created number at = record { created = created; number = Some number; scheduled = at; claim = None; outcome = None }

-- a run that is made as an exception: it ends at the moment at which it is made, and draws no number
abbrev pub exception_run : ReasonResolved → ℕ → Run
exception_run reason at =
    record { created = made.Exception; number = None; scheduled = at; claim = None; outcome = Some (record { reason = reason; at = at }) }

-- a run that a worker takes
abbrev pub taken : Claim → Run → Run
taken claim run = record run { claim = Some claim }

-- a claim that ends at another moment
abbrev pub until : ℕ → Claim → Claim
until moment claim = record claim { taken_until = moment }

-- a run whose worker keeps it until this moment
abbrev pub kept : ℕ → Run → Run
kept moment run = record run { claim = option_map (until moment) run.claim }

-- a run that ends
abbrev pub ended : ReasonResolved → ℕ → Run → Run
ended reason at run = record run { outcome = Some (record { reason = reason; at = at }) }

-- the last of a list is changed
abbrev pub change_last : {A : Type 0} → (A → A) → List A → List A
change_last f [] = []
change_last f (x ∷ []) = f x ∷ []
change_last f (x ∷ y ∷ xs) = x ∷ change_last f (y ∷ xs)

-- the one at a place of a list, counted from 0, is changed
abbrev pub change_at : {A : Type 0} → ℕ → (A → A) → List A → List A
change_at place f [] = []
change_at zero f (x ∷ xs) = f x ∷ xs
change_at (suc place) f (x ∷ xs) = x ∷ change_at place f xs
