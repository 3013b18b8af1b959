-- All that is said of a run.
use Rattle.std.specs.Prelude.{ℕ, Option}
use Rattle.command_line.specs.declared.command.Command.{Command}
use Rattle.console_commands.specs.declared.status.Status.{Status}
use Rattle.farm_cli.specs.Complete.{Completes, CompletesLoad, CompletesRendering, CompletesSigning, RefusesFile, RefusesDisk, MissesFile, MissesDisk, TellsUsage}
use Rattle.houses.specs.House.{Lendings}
use Rattle.farm_cli.specs.Reasons.{HasReason}
use Rattle.farm_cli.specs.Run.{Ran}
use Rattle.farm_cli.specs.Views.{Views}

-- What a run did with the objects that were lent, the reason of its status, and what its status has to be where the words have no reading,
-- where the farm file or the disk is missing, where one is refused, and where all is there and nothing fails, over a farm, for `sign`, `bulk` and
-- `render`.
pub record Runs {F S C N T I D : Type 0} (views : Views F S C N T I D) (old new : Lendings F S C N T I D) (before now : ℕ) (said : Option Command) (status : Status) : Type 0 where
  pub ran : Ran views old new before now said status
  pub reason : HasReason views old new before now said status
  pub usage : TellsUsage said status
  pub missing : MissesFile old said status
  pub refused : RefusesFile views old new before now said status
  pub disk_missing : MissesDisk views old new said status
  pub disk_refused : RefusesDisk views old new before now said status
  pub complete : Completes views old new before now said status
  pub signs : CompletesSigning views old new said status
  pub loads : CompletesLoad views old new said status
  pub renders : CompletesRendering views old new said status
