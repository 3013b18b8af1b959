-- A generated load, and how its tasks stand when no run of it is left to claim. It is this project's own; the farm and its worker go by the rules of the
-- queue service of the Taskcluster reference.
use Rattle.std.specs.Prelude.{◌≡◌, ℕ, ◌+◌, ◌/◌, ◌%◌, zero, suc, List, [], ◌∷◌, ◌++◌, replicate, codes, decimal, Some, None}
use Rattle.farm_rows.specs.Summary.{summary_of}
use Rattle.farm_rows.specs.declared.summary.Summary.{Summary}
use Rattle.farm_machine.specs.State.{State, empty_state}
use Rattle.farm_bulk.specs.Connections.{Converses}
use Rattle.farm_bulk.specs.Farm.{open_farm}
use Rattle.load_requests.specs.Generator.{begun, next, drawn}
use Rattle.farm_bulk.specs.Replies.{IsTold}
use Rattle.load_requests.specs.Requests.{creation_text, claim_text, report_text}
use Rattle.load_requests.specs.declared.requests.ClaimedRun.{ClaimedRun}

-- the creations of so many tasks, from this one on and after this number of the generator, as they are sent
abbrev pub creations : ℕ → ℕ → ℕ → List ℕ
creations zero first x = []
creations (suc count) first x = creation_text first (drawn (next x)) ++ creations count (first + 1) (next x)

-- the number of the generator after so many draws
abbrev pub after_draws : ℕ → ℕ → ℕ
after_draws zero x = x
after_draws (suc count) x = after_draws count (next x)

-- how many of so many tasks are made over each connection: a thousand, and over the last one those that are left
abbrev pub parts_of : ℕ → List ℕ
parts_of tasks = replicate (tasks / 1000) 1000 ++ (tasks % 1000) ∷ []

-- the tasks are made, so many over each connection, from this one on and after this number of the generator
abbrev pub AreCreated : List ℕ → ℕ → ℕ → State → State → Type 0
AreCreated [] first x before after = after ≡ before
AreCreated (count ∷ counts) first x before after =
    (between : State) × (written : List ℕ) × Converses before between (creations count first x) written
    × AreCreated counts (first + count) (after_draws count x) between after

-- A worker has this to send, after this number of the generator. Over each connection it sends that and claims a run, and what it has to send next is the
-- report of the run that it got; it ends where it got none.
pub data Works : State → ℕ → List ℕ → State → Type 0 where
  ends : {before after : State} {x : ℕ} {report : List ℕ} (written : List ℕ)
      → Converses before after (report ++ claim_text) written → IsTold written None
      → Works before x report after
  goes_on : {before after : State} {x : ℕ} {report : List ℕ} (written : List ℕ) (run : ClaimedRun) (between : State)
      → Converses before between (report ++ claim_text) written → IsTold written (Some run)
      → Works between (next x) (report_text run (drawn (next x))) after
      → Works before x report after

-- the load of a seed, of so many tasks, leaves the tasks of a farm that began without any standing so: they are made, and then a worker runs them
pub record IsBulk (seed tasks : ℕ) (summary : Summary) : Type 0 where
  pub made : State
  pub done : State
  pub created : AreCreated (parts_of tasks) 0 (begun seed) (empty_state open_farm) made
  pub worked : Works made (after_draws tasks (begun seed)) [] done
  pub summary_is : summary ≡ summary_of done.contents.rows

-- how many tasks there are, and how many of them completed and failed
abbrev pub outcomes_text : Summary → List ℕ
outcomes_text summary =
    codes "tasks=" ++ (decimal summary.tasks ++ (codes " completed=" ++ (decimal summary.completed ++ (codes " failed=" ++ decimal summary.failed))))

-- a summary as a line
abbrev pub summary_text : Summary → List ℕ
summary_text summary =
    outcomes_text summary ++ (codes " exception=" ++ (decimal summary.exception ++ (codes " unscheduled=" ++ (decimal summary.unscheduled
    ++ (codes " runs=" ++ (decimal summary.runs ++ codes "\n"))))))
