-- What the parts of an ask of a farm over a disk do, for private clauses.
use Rattle.std.specs.Prelude.{◌≡◌, ℕ, ◌+◌, true, false, Bool, List, [], ◌∷◌, length, Option, Result, Ok, Err}
use Rattle.std.specs.Option.{option_to_list}
use Rattle.disk_base.specs.Contents.{Contents as Disk}
use Rattle.task_types.specs.declared.change.Change.{Change}
use Rattle.farm_record.specs.Records.{tick_at}
use Rattle.task_index.specs.Contents.{Contents}
use Rattle.task_index.specs.Due.{is_due}
use Rattle.farm_asks.specs.declared.config.Config.{Config}
use Rattle.farm_asks.specs.declared.reply.Reply.{Reply}
use Rattle.farm_asks.specs.Questions.{Asking}
use Rattle.farm_machine.specs.Entry.{Outcome, disk_failed, call}
use Rattle.farm_machine.specs.Replay.{records_by}
use Rattle.farm_machine.specs.State.{working}
use Rattle.farm_machine.specs.Step.{IsToKeep, MayBecome, after_call, reply_to}
use Rattle.farm_core.specs.declared.asking.Kept.{Kept}
use Rattle.farm_core.specs.declared.asking.Kept.TheVariants as kept
use Rattle.farm_core.specs.Bare.{IsResolved}
use Rattle.farm_core.specs.Farm.{state_of}
use Rattle.farm_core.specs.Records.{KeepsRecords}

-- what was due at a moment was resolved, and it is said whether anything was; or the disk failed, and nothing was
abbrev pub IsResolvedBy : {E : Type 0} → Contents → ℕ → Result Bool E → Contents → Type 0
IsResolvedBy old moment (Ok ticked) new = IsResolved old moment ticked new
IsResolvedBy old moment (Err e) new = (is_due old moment ≡ true) × (new ≡ old)

-- the tick is kept where one came
abbrev pub ticks_kept : {E : Type 0} → ℕ → Result Bool E → List Change
ticks_kept moment (Ok true) = tick_at moment ∷ []
ticks_kept moment (Ok false) = []
ticks_kept moment (Err e) = []

-- or it is the one that failed
abbrev pub ticks_failed : {E : Type 0} → ℕ → Result Bool E → List Change
ticks_failed moment (Ok ticked) = []
ticks_failed moment (Err e) = tick_at moment ∷ []

-- the change of a call is kept where that is done
abbrev pub changes_kept : Kept → Option Change → List Change
changes_kept kept.Done change = option_to_list change
changes_kept kept.NoMemory change = []
changes_kept kept.Failed change = []

-- or it is the one that failed
abbrev pub changes_failed : Kept → Option Change → List Change
changes_failed kept.Done change = []
changes_failed kept.NoMemory change = []
changes_failed kept.Failed change = option_to_list change

abbrev pub is_failed : Kept → Bool
is_failed kept.Done = false
is_failed kept.NoMemory = false
is_failed kept.Failed = true

-- A call was performed at whose moment nothing is due: it became what it may, its change is kept, or is the one that failed; and it is said
-- whether the farm has halted. The count of records grows by those that were kept.
pub record Performs (tells : Type 0) (config : Config) (old : Contents) (asking : Asking) (reply : Reply) (new : Contents) (disk : Disk) (end count : ℕ) (disk_now : Disk) (end_now count_now : ℕ) (halted : Bool) : Type 0 where
  pub outcome : Outcome
  pub became : MayBecome (working config old) asking outcome
  pub leads : state_of config new halted ≡ after_call (working config old) asking outcome
  pub told : reply ≡ reply_to outcome
  pub failed : List Change
  pub whole : halted ≡ false → failed ≡ []
  pub lost : halted ≡ true → (change : Change) × (outcome ≡ disk_failed) × IsToKeep (working config old) asking change × (failed ≡ change ∷ [])
  pub keeps : tells → KeepsRecords disk end disk_now end_now (records_by (call asking outcome)) failed
  pub counted : count_now ≡ count + length (records_by (call asking outcome))
