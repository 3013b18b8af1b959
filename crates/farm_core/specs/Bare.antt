-- The two parts of an ask of a farm without a disk: what is due goes, and the call is performed.
use Rattle.std.specs.Prelude.{◌≡◌, ℕ, Bool, if◌then◌else◌}
use Rattle.farm_asks.specs.declared.config.Config.{Config}
use Rattle.farm_asks.specs.declared.reply.Reply.{Reply}
use Rattle.task_index.specs.Due.{is_due, advance}
use Rattle.farm_asks.specs.Questions.{Asking}
use Rattle.farm_machine.specs.Entry.{Outcome}
use Rattle.task_index.specs.Contents.{Contents}
use Rattle.farm_machine.specs.State.{working}
use Rattle.farm_machine.specs.Step.{MayBecome, after_call, reply_to}
use Rattle.farm_core.specs.Diskless.{NeedsNoDisk}

-- what was due at the moment was resolved, and `ticked` says whether anything was
pub record IsResolved (old : Contents) (moment : ℕ) (ticked : Bool) (new : Contents) : Type 0 where
  pub tells : ticked ≡ is_due old moment
  pub leads : new ≡ (if ticked then advance old moment else old)

-- the call was performed without a disk, and became what it may; its reply tells what it became
pub record IsPerformed (config : Config) (old : Contents) (asking : Asking) (reply : Reply) (new : Contents) : Type 0 where
  pub outcome : Outcome
  pub became : MayBecome (working config old) asking outcome
  pub leads : working config new ≡ after_call (working config old) asking outcome
  pub told : reply ≡ reply_to outcome
  pub no_disk : NeedsNoDisk outcome
