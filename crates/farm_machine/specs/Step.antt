-- One step of a farm: which entries may come, the state after one, and its reply.
use Rattle.std.specs.Prelude.{◌≡◌, ◌⊎◌, ℕ, ◌≤◌, List, [], ◌∷◌, true, false, Option, Some, None, IfSome, if◌then◌else◌}
use Rattle.history.specs.Rules.{Rules}
use Rattle.task_types.specs.declared.change.Change.{Change}
use Rattle.farm_record.specs.Records.{tick_at}
use Rattle.farm_text.specs.declared.moment.TheConstants.{LAST_TOLD_MOMENT}
use Rattle.farm_asks.specs.declared.reply.Asked.{Asked}
use Rattle.farm_asks.specs.declared.reply.Reply.{Reply}
use Rattle.farm_asks.specs.declared.reply.Reply.TheVariants.{Answered, OutOfMemory, DiskFault, Halted}
use Rattle.task_index.specs.Changes.{may_apply}
use Rattle.task_index.specs.Due.{is_due, advance}
use Rattle.farm_machine.specs.Changes.{moment_of, reached, changed}
use Rattle.farm_asks.specs.Questions.{Asking}
use Rattle.farm_machine.specs.Entry.{Outcome, finished, out_of_memory, disk_failed, was_halted, Entry, tick, call}
use Rattle.farm_machine.specs.Judgement.{Judgement}
use Rattle.farm_machine.specs.State.{State}
use Rattle.farm_machine.specs.Verdict.{IsVerdict}

-- a tick comes where something is due
pub record MayTick (state : State) (moment : ℕ) : Type 0 where
  pub at_work : state.halted ≡ false
  pub not_before : state.contents.last ≤ moment
  pub told : moment ≤ LAST_TOLD_MOMENT
  pub due : is_due state.contents moment ≡ true

-- a call at work comes where nothing is due at its moment, and becomes what it may
pub record MayCall (state : State) (asking : Asking) (Became : Type 0) : Type 0 where
  pub at_work : state.halted ≡ false
  pub told : asking.moment ≤ LAST_TOLD_MOMENT
  pub nothing_due : is_due state.contents (moment_of state.contents asking) ≡ false
  pub became : Became

-- a finished call has its verdict, whose change may be made
pub record MayFinish (state : State) (asking : Asking) (judgement : Judgement) : Type 0 where
  pub verdict : IsVerdict state asking judgement
  pub applies : IfSome judgement.change (λ change. may_apply state.contents change ≡ true)

-- what a call is about to keep on the disk: the tick before it, or the change that it would finish with
abbrev pub IsToKeep : State → Asking → Change → Type 0
IsToKeep state asking change =
    (MayTick state (moment_of state.contents asking) × (change ≡ tick_at (moment_of state.contents asking)))
    ⊎ ((judgement : Judgement) × MayCall state asking (MayFinish state asking judgement) × (judgement.change ≡ Some change))

-- Which calls may come, by what they became: memory may run out in any; the disk fails only where something is to be kept; and
-- after that each call finds the farm halted, and no other does.
abbrev pub MayBecome : State → Asking → Outcome → Type 0
MayBecome state asking (finished judgement) = MayCall state asking (MayFinish state asking judgement)
MayBecome state asking out_of_memory = MayCall state asking (Unit {0})
MayBecome state asking disk_failed = (change : Change) × IsToKeep state asking change
MayBecome state asking was_halted = state.halted ≡ true

-- the entry may come in this state
abbrev pub lawful : State → Entry → Type 0
lawful state (tick moment) = MayTick state moment
lawful state (call asking outcome) = MayBecome state asking outcome

-- the state after a call that became this
abbrev pub after_call : State → Asking → Outcome → State
after_call state asking (finished judgement) =
    record state { contents = changed state.contents (moment_of state.contents asking) judgement.change }
after_call state asking out_of_memory =
    record state { contents = reached state.contents (moment_of state.contents asking) }
after_call state asking disk_failed = record state { halted = true }
after_call state asking was_halted = state

-- the state after an entry
abbrev pub after : State → Entry → State
after state (tick moment) = record state { contents = advance state.contents moment }
after state (call asking outcome) = after_call state asking outcome

-- the reply to a call that became this
abbrev pub reply_to : Outcome → Reply
reply_to (finished judgement) = Answered judgement.answer
reply_to out_of_memory = OutOfMemory
reply_to disk_failed = DiskFault
reply_to was_halted = Halted

-- the reply to an entry, where it is a call
abbrev pub reply : State → Entry → Option Reply
reply state (tick moment) = None
reply state (call asking outcome) = Some (reply_to outcome)

-- what an entry asked
abbrev pub asked : Entry → Option Asking
asked (tick moment) = None
asked (call asking outcome) = Some asking

-- the tick before a call, where its answer tells of one
abbrev pub ticks_before : State → Asking → Asked → List Entry
ticks_before state asking answer = if answer.ticked then tick (moment_of state.contents asking) ∷ [] else []

-- the law of a farm
unfoldable pub farm_rules : Rules Asking Asked State Entry Reply
farm_rules =
    record {
      lawful = lawful;
      after = after;
      reply = reply;
      asked = asked;
      ticks = ticks_before;
      told = λ answer. answer.reply;
    }
