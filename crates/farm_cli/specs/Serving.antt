-- What `answer` does: it serves one connection on the console.
use Rattle.std.specs.Prelude.{◌≡◌, ℕ, Bool, List, map, Some}
use Rattle.history.specs.Asks.{AreEntries}
use Rattle.history.specs.Histories.{IsLegal, end_state, reply_at, asked_at, calls_of}
use Rattle.farm_asks.specs.declared.config.Config.{Config}
use Rattle.farm_asks.specs.declared.reply.Asked.{Asked}
use Rattle.farm_asks.specs.Questions.{Asking}
use Rattle.farm_machine.specs.Entry.{Entry}
use Rattle.farm_machine.specs.State.{State, empty_state}
use Rattle.farm_machine.specs.Step.{farm_rules}
use Rattle.farm_machine.specs.Law.{Opening}
use Rattle.farm_asks.specs.declared.reply.Reply.{Reply}
use Rattle.farm_core.specs.Diskless.{HaveNoDisk}
use Rattle.farm_server.specs.Served.{Ask, questions_of, Spoke}
use Rattle.farm_server.specs.declared.served.Served.{Served}
use Rattle.console_commands.specs.declared.status.Status.{Status}
use Rattle.farm_cli.specs.Disks.{LedOver, over_disk}
use Rattle.farm_cli.specs.Ends.{status_of}
use Rattle.houses.specs.House.{WasLent, Lendings}
use Rattle.farm_cli.specs.Views.{Views, outside_of}

-- One history from this state: it is legal, it has the entries of asks in turn and no others, its calls are these asks in order, and these are their replies.
pub record IsHistoryOf (start : State) (asks : List Ask) (replies : List Reply) : Type 0 where
  pub history : List Entry
  pub legal : IsLegal farm_rules start history
  pub made : (turns : List (Asking × Asked)) × AreEntries farm_rules start turns history
  pub asked : map (asked_at farm_rules history) (calls_of farm_rules 0 history) ≡ map Some (questions_of asks)
  pub replied : map (reply_at farm_rules start history) (calls_of farm_rules 0 history) ≡ map Some replies

-- The console was served over a farm that was set up so, and began without tasks, and in no call of which a disk had a part.
pub record Conversed {F S C N T I D : Type 0} (views : Views F S C N T I D) (old new : Lendings F S C N T I D) (config : Config) (status : Status) : Type 0 where
  pub disk : new.disk ≡ old.disk
  pub console_given : C
  pub console_back : C
  pub console : WasLent old.console new.console console_given console_back
  pub clock_given : T
  pub clock_back : T
  pub clock : WasLent old.clock new.clock clock_given clock_back
  pub draws_given : I
  pub draws_back : I
  pub draws : WasLent old.draws new.draws draws_given draws_back
  pub doors : new.doors ≡ old.doors
  pub asks : List Ask
  pub replies : List Reply
  pub served : Served
  pub spoke : Spoke (outside_of views console_given clock_given draws_given) (outside_of views console_back clock_back draws_back) asks replies served
  pub history : IsHistoryOf (empty_state config) asks replies
  pub no_disk : HaveNoDisk history.history
  pub status_is : status ≡ status_of served

-- the status that a connection over a disk ends a run with
abbrev pub status_over : Bool → Served → Status
status_over halted end = over_disk halted (status_of end)

-- The disk of this name was opened, and the console was served over the farm that it keeps; at the end it holds the history that was led through.
pub record ConversedOver {F S C N T I D : Type 0} (views : Views F S C N T I D) (old new : Lendings F S C N T I D) (before now : ℕ) (config : Config) (name : List ℕ) (status : Status) : Type 0 where
  pub openings : now ≡ before
  pub console_given : C
  pub console_back : C
  pub console : WasLent old.console new.console console_given console_back
  pub clock_given : T
  pub clock_back : T
  pub clock : WasLent old.clock new.clock clock_given clock_back
  pub draws_given : I
  pub draws_back : I
  pub draws : WasLent old.draws new.draws draws_given draws_back
  pub doors : new.doors ≡ old.doors
  pub opening : Opening
  pub asks : List Ask
  pub replies : List Reply
  pub served : Served
  pub spoke : Spoke (outside_of views console_given clock_given draws_given) (outside_of views console_back clock_back draws_back) asks replies served
  pub history : IsHistoryOf opening.state asks replies
  pub led : LedOver views old new config name opening history.history
  pub status_is : status ≡ status_over (end_state farm_rules opening.state history.history).halted served
