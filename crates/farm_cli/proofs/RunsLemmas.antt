-- All that is said of a run follows from what it did.
use Rattle.std.proofs.Common.{ℕ, Option}
use Rattle.command_line.specs.declared.command.Command.{Command}
use Rattle.farm_core.proofs.OpenLemmas.{OneChange}
use Rattle.console_commands.specs.declared.status.Status.{Status}
use Rattle.houses.specs.House.{Lendings}
use Rattle.farm_cli.specs.Run.{Ran}
use Rattle.farm_cli.specs.Runs.{Runs}
use Rattle.farm_cli.specs.Views.{Views}
use Rattle.farm_cli.proofs.CompleteLemmas.{Completes-from_run, CompletesLoad-from_run, CompletesRendering-from_run, CompletesSigning-from_run, RefusesFile-from_run, RefusesDisk-from_run, MissesFile-from_run, MissesDisk-from_run, TellsUsage-from_run}
use Rattle.farm_cli.proofs.ReasonLemmas.{HasReason-from_run}

pub Runs-from_run : {F S C N T I D : Type 0} (views : Views F S C N T I D) (old new : Lendings F S C N T I D) (before now : ℕ) (said : Option Command) (status : Status) → OneChange
    → Ran views old new before now said status → Runs views old new before now said status
Runs-from_run views old new before now said status one ran = record {
  ran = ran;
  reason = HasReason-from_run views old new before now said status ran;
  usage = TellsUsage-from_run views old new before now said status ran;
  missing = MissesFile-from_run views old new before now said status ran;
  refused = RefusesFile-from_run views old new before now said status ran;
  disk_missing = MissesDisk-from_run views old new before now said status ran;
  disk_refused = RefusesDisk-from_run views old new before now said status one ran;
  complete = Completes-from_run views old new before now said status ran;
  signs = CompletesSigning-from_run views old new before now said status ran;
  loads = CompletesLoad-from_run views old new before now said status ran;
  renders = CompletesRendering-from_run views old new before now said status ran;
}
