-- What `check` does: it counts what a farm file has.
use Rattle.std.specs.Prelude.{◌≡◌, ℕ, List, [], ◌++◌, length, codes, decimal}
use Rattle.farm_asks.specs.declared.config.Config.{Config}
use Rattle.farm_asks.specs.declared.config.ConfigCounts.{ConfigCounts}
use Rattle.farm_asks.specs.Config.{counts_of}
use Rattle.console_commands.specs.declared.status.Status.{Status}
use Rattle.http_wire.specs.Calls.{LinkState}
use Rattle.farm_machine.specs.Law.{Opening}
use Rattle.farm_cli.specs.Disks.{BeginsFrom, DiskHolds}
use Rattle.houses.specs.House.{WasLent, WasOpened, Lendings}
use Rattle.console_commands.specs.Inputs.{Tells}
use Rattle.farm_cli.specs.Views.{Views, talk_of}

-- the line of a farm file that breaks no rule and has these rows
abbrev pub counts_text : ConfigCounts → List ℕ
counts_text counts =
    codes "ok roles=" ++ (decimal counts.roles ++ (codes " clients=" ++ (decimal counts.clients ++ (codes " hooks=" ++ (decimal counts.hooks ++ codes "\n")))))

-- the line of a configuration
abbrev pub check_text : Config → List ℕ
check_text config = counts_text (counts_of config)

-- the line of such a farm file and a disk that keeps so many records, of so many tasks
abbrev pub counts_disk_text : ConfigCounts → ℕ → ℕ → List ℕ
counts_disk_text counts records tasks =
    codes "ok roles=" ++ (decimal counts.roles ++ (codes " clients=" ++ (decimal counts.clients ++ (codes " hooks=" ++ (decimal counts.hooks
    ++ (codes " records=" ++ (decimal records ++ (codes " tasks=" ++ (decimal tasks ++ codes "\n")))))))))

-- the line of a configuration and a disk
abbrev pub disk_text : Config → ℕ → ℕ → List ℕ
disk_text config records tasks = counts_disk_text (counts_of config) records tasks

-- what `check` did with a console, which it does not read, by the status that it ended with
abbrev pub Checks : Config → LinkState → LinkState → Status → Type 0
Checks config before after status = Tells (check_text config) before after status

-- The disk of this name was opened, and the line of the configuration and of the farm that it keeps was written to the console. No call of the
-- disk failed, and at the end it holds what it held.
pub record CheckedOver {F S C N T I D : Type 0} (views : Views F S C N T I D) (old new : Lendings F S C N T I D) (before now : ℕ) (config : Config) (name : List ℕ) (status : Status) : Type 0 where
  pub openings : now ≡ before
  pub disk_given : S
  pub disk_back : S
  pub disk : WasOpened old.disk new.disk name disk_given disk_back
  pub given : C
  pub back : C
  pub console : WasLent old.console new.console given back
  pub clock : new.clock ≡ old.clock
  pub draws : new.draws ≡ old.draws
  pub doors : new.doors ≡ old.doors
  pub opening : Opening
  pub begins : BeginsFrom views disk_given config opening
  pub kept : views.disk_faults disk_back ≡ views.disk_faults disk_given
  pub holds : DiskHolds views disk_back opening.state opening []
  pub did : Tells (disk_text config (length opening.records) (length opening.state.contents.rows)) (talk_of views given) (talk_of views back) status
