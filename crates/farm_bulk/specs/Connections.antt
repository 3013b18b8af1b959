-- One connection over which a load is sent, and what it does to a farm.
use Rattle.std.specs.Prelude.{◌≡◌, ◌≢◌, ◌⊎◌, ℕ, Bool, List, [], ◌∷◌}
use Rattle.history.specs.Asks.{IsAsk}
use Rattle.farm_text.specs.Told.{first_uuid}
use Rattle.farm_asks.specs.Questions.{Asking}
use Rattle.farm_machine.specs.Entry.{Entry}
use Rattle.farm_machine.specs.State.{State}
use Rattle.farm_machine.specs.Step.{farm_rules}
use Rattle.farm_asks.specs.declared.reply.Reply.{Reply}
use Rattle.farm_asks.specs.declared.reply.Reply.TheVariants.{OutOfMemory}
use Rattle.farm_core.specs.Diskless.{HasNoDisk}
use Rattle.farm_server.specs.Served.{Ask, messages_of, questions_of, AreRouted, reply_texts, EndsAs}
use Rattle.farm_server.specs.declared.served.Served.TheVariants.{Closed, Full}
use Rattle.farm_server.specs.declared.served.TheConstants.{REQUESTS}
use Rattle.load_requests.specs.Still.{midnight}

-- each ask was made at that moment, and one id was drawn for all
abbrev pub AreAtMidnight : List Ask → Type 0
AreAtMidnight [] = Unit {0}
AreAtMidnight (ask ∷ asks) = (ask.moment ≡ midnight) × (ask.id ≡ first_uuid) × AreAtMidnight asks

-- The questions were asked in turn, each in the state that those before it leave, and answered so, none for want of memory or of a disk. This leads from the
-- first state to the last.
abbrev pub AreAnswered : State → List Asking → List Reply → State → Type 0
AreAnswered before [] [] after = after ≡ before
AreAnswered before [] (reply ∷ replies) after = ⊥
AreAnswered before (question ∷ questions) [] after = ⊥
AreAnswered before (question ∷ questions) (reply ∷ replies) after =
    (ticked : Bool) × (call : Entry) × (between : State)
    × IsAsk farm_rules before question (record { reply = reply; ticked = ticked }) call between
    × HasNoDisk call × (reply ≢ OutOfMemory) × AreAnswered between questions replies after

-- These bytes were sent over a connection to a farm in the first state: all messages that they make, at most a thousand, were asked, this was written, and
-- the farm is in the last state.
pub record Converses (before after : State) (sent written : List ℕ) : Type 0 where
  pub asks : List Ask
  pub replies : List Reply
  pub whole : EndsAs REQUESTS sent (messages_of asks) Closed ⊎ EndsAs REQUESTS sent (messages_of asks) Full
  pub routed : AreRouted asks
  pub timed : AreAtMidnight asks
  pub answered : AreAnswered before (questions_of asks) replies after
  pub written_is : written ≡ reply_texts REQUESTS asks replies
