-- The members of a run part by part, and runs one after the other.
use Rattle.std.proofs.Common.{◌≡◌, ◌≤◌, ◌<◌, ℕ, suc, List, [], ◌∷◌, ◌++◌, Option, Some, None, refl, sym, ap, ◌∙◌, length, drop, get_or}
use Rattle.std.proofs.Math.Seq.{drop-cons}
use Rattle.std.proofs.lemmas.List.{drop_all}
use Rattle.json.specs.Token.{Token, end_array}
use Rattle.task_statuses.specs.Calendar.{moment_text}
use Rattle.farm_text.specs.Document.{object, members_of}
use Rattle.farm_text.specs.Moment.{IsMomentText}
use Rattle.task_statuses.proofs.CalendarLemmas.{IsMomentText-moment_text}
use Rattle.farm_text.proofs.MomentLemmas.{IsMomentText-one}
use Rattle.run_states.specs.declared.run.Claim.{Claim}
use Rattle.run_states.specs.declared.run.Outcome.{Outcome}
use Rattle.run_states.specs.declared.run.Run.{Run}
use Rattle.task_statuses.proofs.WritingLemmas.{item_then}
use Rattle.task_statuses.specs.Parts.{reasons, made, course, taken}
use Rattle.task_statuses.specs.Statuses as statuses
use Rattle.task_statuses.specs.Tokens.{tokens_of, tokens_of_items}

-- the text that is written of a moment is the one that is counted out
pub text_counted : (millis : ℕ) (written : List ℕ) → millis ≤ 253_402_300_799_999 → IsMomentText millis written → written ≡ moment_text millis
text_counted millis written within is = IsMomentText-one millis written (moment_text millis) is (IsMomentText-moment_text millis within)

-- a run's members, part by part, are those of its document
pub run_whole : (number : ℕ) (run : Run) → object (members_of (reasons run ++ (made number run ++ (course run ++ taken run.claim)))) ≡ statuses.run_doc number run
run_whole number run = by run.claim run.outcome refl refl where
  by : (k : Option Claim) (o : Option Outcome) → run.claim ≡ k → run.outcome ≡ o → object (members_of (reasons run ++ (made number run ++ (course run ++ taken run.claim)))) ≡ statuses.run_doc number run
  by None None claim outcome = rw (claim, outcome) refl
  by None (Some o) claim outcome = rw (claim, outcome) refl
  by (Some k) None claim outcome = rw (claim, outcome) refl
  by (Some k) (Some o) claim outcome = rw (claim, outcome) refl

-- the runs that are left, from this number on
abbrev pub left : ℕ → List Run → List Token
left number runs = tokens_of_items (statuses.runs_from number (drop number runs))

-- one more run is written, and one run less is left
pub one_more_run : (t u whole : List Token) (number later : ℕ) (runs : List Run) (run other : Run) → t ++ left number runs ≡ whole → number < length runs → run ≡ get_or runs number other
    → u ≡ t ++ tokens_of (statuses.run_doc number run) → later ≡ suc number → u ++ left later runs ≡ whole
one_more_run t u whole number later runs run other so_far within here written next =
    ap (λ (n : ℕ). u ++ left n runs) next
    ∙ item_then t u whole (statuses.run_doc number run) (statuses.runs_from (suc number) (drop (suc number) runs)) written
    (ap (λ (r : Run). t ++ tokens_of_items (statuses.runs_from number (r ∷ drop (suc number) runs))) here
    ∙ ap (λ (rs : List Run). t ++ tokens_of_items (statuses.runs_from number rs)) (sym (drop-cons runs number other within)) ∙ so_far)

-- when no run is left, only the closing bracket is
pub no_more_runs : (t whole : List Token) (number : ℕ) (runs : List Run) → t ++ left number runs ≡ whole → length runs ≤ number → t ++ end_array ∷ [] ≡ whole
no_more_runs t whole number runs so_far all = ap (λ (rs : List Run). t ++ tokens_of_items (statuses.runs_from number rs)) (sym (drop_all number runs all)) ∙ so_far
