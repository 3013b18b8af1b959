-- Which changes the bodies of a journal tell, and what a farm's disk has of them.
use Rattle.std.specs.Prelude.{◌≡◌, ℕ, Bool, false, List, [], ◌∷◌, ◌++◌}
use Rattle.disk_base.specs.Contents.{Contents, LeftNow}
use Rattle.disk_journal.specs.Images.{IsWithin}
use Rattle.disk_journal.specs.Keeping.{IsReady, Keeps}
use Rattle.task_types.specs.declared.change.Change.{Change}
use Rattle.farm_record.specs.Records.{IsRecord}
use Rattle.history.specs.Histories.{end_state}
use Rattle.farm_asks.specs.Questions.{Asking}
use Rattle.farm_machine.specs.Entry.{Entry, call, disk_failed}
use Rattle.farm_machine.specs.State.{State}
use Rattle.farm_machine.specs.Step.{IsToKeep, farm_rules}

-- what a contract sees of the records of a farm: their disk, the place behind them, how many there are, and whether a call of the disk failed
pub record Recorded (D : Type 0) : Type 0 where
  pub disk : D
  pub end : ℕ
  pub count : ℕ
  pub halted : Bool

-- the bodies are the records of these changes, one for one and in order
abbrev pub AreRecords : List Change → List (List ℕ) → Type 0
AreRecords [] bodies = bodies ≡ []
AreRecords (change ∷ changes) [] = ⊥
AreRecords (change ∷ changes) (body ∷ bodies) = IsRecord change body × AreRecords changes bodies

-- What was done to a disk, whatever records its journal had: those of the kept changes are on it, and behind them that of the failed one,
-- at most one, may be.
pub record KeepsRecords (old : Contents) (old_end : ℕ) (new : Contents) (new_end : ℕ) (kept failed : List Change) : Type 0 where
  pub bodies : List (List ℕ)
  pub others : List (List ℕ)
  pub recorded : AreRecords kept bodies
  pub pending : AreRecords failed others
  pub keeps : Keeps [] old old_end new new_end bodies others

-- What a farm's disk has: each image has the records of these changes, and behind them that of the failed one may be; and where the farm is
-- at work there is no failed one, and nothing is pending.
pub record HasRecords (disk : Contents) (end : ℕ) (state : State) (changes failed : List Change) : Type 0 where
  pub bodies : List (List ℕ)
  pub others : List (List ℕ)
  pub recorded : AreRecords changes bodies
  pub pending : AreRecords failed others
  pub at_work : state.halted ≡ false → (others ≡ []) × IsReady [] disk end bodies
  pub images : (image : List ℕ) → LeftNow disk image → IsWithin [] bodies others image

-- the change of a history whose record failed: what the call in which the disk failed was about to keep
pub record IsFailed (opening : State) (seen : List Entry) (change : Change) : Type 0 where
  pub before : List Entry
  pub after : List Entry
  pub asking : Asking
  pub is : seen ≡ before ++ call asking disk_failed ∷ after
  pub kept : IsToKeep (end_state farm_rules opening before) asking change
