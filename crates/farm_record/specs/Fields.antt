-- The fields of a record (this project's own format): each number has its greatest byte first.
use Rattle.std.specs.Prelude.{ℕ, ◌<◌, ◌≤◌, List, [], ◌∷◌, ◌++◌, length}
use Rattle.std.specs.List.{flat_map, AllByRecursion}
use Rattle.std.specs.Int.{w32, w64, to_be_bytes}
use Rattle.farm_text.specs.Slug.{IsUuid4}
use Rattle.task_types.specs.Forms.{IsIdentifier}
use Rattle.task_types.specs.declared.change.Claim.{Claim}
use Rattle.task_types.specs.declared.change.Reclaim.{Reclaim}
use Rattle.task_types.specs.declared.change.Report.{Report}
use Rattle.task_types.specs.declared.change.Report.TheVariants as reports
use Rattle.task_types.specs.declared.change.Resolution.{Resolution}
use Rattle.task_types.specs.declared.change.RunName.{RunName}

-- a moment that there is: up to the last millisecond of the year 9999
abbrev pub IsMoment : ℕ → Type 0
IsMoment m = m ≤ 253_402_300_799_999

-- a moment: its milliseconds in eight bytes
abbrev pub moment_text : ℕ → List ℕ
moment_text m = to_be_bytes w64 m

-- a text: its length in four bytes, and its bytes
abbrev pub sized : List ℕ → List ℕ
sized text = to_be_bytes w32 (length text) ++ text

-- a run's name: its task's id is a version 4 UUID, and its number is one byte
abbrev pub IsRun : RunName → Type 0
IsRun name = IsUuid4 name.id × (name.run < 256)

-- the sixteen bytes of its task's id, and its number
abbrev pub run_text : RunName → List ℕ
run_text name = name.id ++ name.run ∷ []

-- 1 to 32 runs
abbrev pub AreRuns : List RunName → Type 0
AreRuns names = (1 ≤ length names) × (length names ≤ 32) × AllByRecursion IsRun names

-- their number in four bytes, and then each of them
abbrev pub runs_text : List RunName → List ℕ
runs_text names = to_be_bytes w32 (length names) ++ flat_map run_text names

-- a claim by a worker whose group and id are identifiers
abbrev pub IsClaim : Claim → Type 0
IsClaim c = IsMoment c.taken_until × IsIdentifier c.worker_group × IsIdentifier c.worker_id × AreRuns c.runs

abbrev pub claim_text : Claim → List ℕ
claim_text c = moment_text c.taken_until ++ (sized c.worker_group ++ (sized c.worker_id ++ runs_text c.runs))

abbrev pub IsReclaim : Reclaim → Type 0
IsReclaim r = IsUuid4 r.id × (r.run < 256) × IsMoment r.taken_until

abbrev pub reclaim_text : Reclaim → List ℕ
reclaim_text r = r.id ++ r.run ∷ moment_text r.taken_until

-- the number of a report
abbrev pub report_number : Report → ℕ
report_number reports.Completed = 1
report_number reports.Failed = 2
report_number reports.Superseded = 3
report_number reports.WorkerShutdown = 4
report_number reports.MalformedPayload = 5
report_number reports.ResourceUnavailable = 6
report_number reports.InternalError = 7
report_number reports.IntermittentTask = 8

abbrev pub IsResolution : Resolution → Type 0
IsResolution r = IsUuid4 r.id × (r.run < 256)

abbrev pub resolution_text : Resolution → List ℕ
resolution_text r = r.id ++ r.run ∷ report_number r.reason ∷ []
