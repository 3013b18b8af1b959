-- What one step of a connection does.
use Rattle.std.specs.Prelude.{◌≡◌, ◌≢◌, ℕ, ◌+◌, ◌-◌, ◌≤◌, ◌⊎◌, List, [], ◌∷◌, true, false, ◌||◌, ◌==◌, Option, Some, None}
use Rattle.std.specs.Io.KnownBytes.{Appends}
use Rattle.causes.specs.Causes.{Rose}
use Rattle.farm_text.specs.Logs.{LogGrows}
use Rattle.history.specs.Asks.{AsksInTurn}
use Rattle.http_wire.specs.declared.message.Message.{Message}
use Rattle.http_wire.specs.declared.message.Wire.{Wire}
use Rattle.http_wire.specs.declared.message.Wire.TheVariants as wire
use Rattle.http_wire.specs.Stream.{TakesOne}
use Rattle.http_wire.specs.Whole.{AppendsFront}
use Rattle.farm_asks.specs.declared.question.Call.{Call}
use Rattle.farm_asks.specs.declared.question.Caller.{Caller}
use Rattle.farm_asks.specs.declared.reply.Reply.{Reply}
use Rattle.farm_machine.specs.Law.{opened}
use Rattle.farm_machine.specs.Step.{farm_rules}
use Rattle.api_routes.specs.ReplyText.{reply_text, wire_text}
use Rattle.api_routes.specs.Routes.{IsCallOf, caller_from}
use Rattle.farm_server.specs.Served.{Outside, is_refused, Standing, ServesWithin}
use Rattle.farm_server.specs.declared.gate.When.{When}
use Rattle.farm_server.specs.declared.gate.When.TheVariants.{Asked, Answered}
use Rattle.farm_server.specs.declared.served.Served.{Served}
use Rattle.farm_server.specs.declared.served.Served.TheVariants.{Closed, EndedInside, WireFault, ReadFault, WriteFault, Full, NoMemory}
use Rattle.farm_server.specs.declared.served.TheConstants.{REQUESTS}

-- what the outside tells of answers: what was written, which moments and ids were told, what the gate was told, and how many writes failed
pub record Telling : Type 0 where
  pub written : Option (List ℕ)
  pub moments : Option (List ℕ)
  pub ids : Option (List (List ℕ))
  pub gate : Option (List When)
  pub write_faults : ℕ

-- what the outside tells of answers, of all that it tells
abbrev pub telling_of : Outside → Telling
telling_of all = record { written = all.written; moments = all.moments; ids = all.ids; gate = all.gate; write_faults = all.write_faults }

-- One call was asked: one moment and one id were told for it, and the desk was asked once.
pub record AsksOnce (old new : Standing) (moments_before moments_after : Option (List ℕ)) (ids_before ids_after : Option (List (List ℕ))) (caller : Caller) (call : Call) (reply : Reply) : Type 0 where
  pub moment : ℕ
  pub id : List ℕ
  pub moments : LogGrows moments_before moments_after (moment ∷ [])
  pub ids : LogGrows ids_before ids_after (id ∷ [])
  pub asked : AsksInTurn farm_rules opened old.stands new.stands (record { moment = moment; drawn = id; caller = caller; call = call } ∷ []) (reply ∷ [])
  pub spent : old.spare ≡ new.spare + 1

-- One message was asked, and its reply was written; the gate was told both.
pub record Answers (room : ℕ) (old new : Standing) (before after : Telling) (message : Message) : Type 0 where
  pub reply : Reply
  pub call : Call
  pub routed : IsCallOf message call
  pub once : AsksOnce old new before.moments after.moments before.ids after.ids (caller_from message) call reply
  pub written : Appends before.written after.written (reply_text reply (message.closes || (room == 1)))
  pub gate : LogGrows before.gate after.gate (Asked (REQUESTS - room) ∷ Answered (REQUESTS - room) ∷ [])
  pub kept : after.write_faults ≡ before.write_faults

-- One message was asked, which the gate was told, and a write of its reply failed.
pub record Breaks (room : ℕ) (old new : Standing) (before after : Telling) (message : Message) : Type 0 where
  pub reply : Reply
  pub call : Call
  pub routed : IsCallOf message call
  pub once : AsksOnce old new before.moments after.moments before.ids after.ids (caller_from message) call reply
  pub written : AppendsFront before.written after.written (reply_text reply (message.closes || (room == 1)))
  pub gate : LogGrows before.gate after.gate (Asked (REQUESTS - room) ∷ [])
  pub rose : Rose before.write_faults after.write_faults
  pub later : before.write_faults ≤ after.write_faults

-- what became of one message, with room for so many: it was answered and others may follow, or the connection ends so
abbrev pub Ends : ℕ → Standing → Standing → Telling → Telling → Message → Option Served → Type 0
Ends room old new before after message None =
    Answers room old new before after message × ((message.closes ≡ false) ⊎ (room ≡ 1))
Ends room old new before after message (Some Closed) =
    Answers room old new before after message × (message.closes ≡ true) × (room ≢ 1)
Ends room old new before after message (Some WriteFault) = Breaks room old new before after message
Ends room old new before after message (Some NoMemory) = (after ≡ before) × AsksInTurn farm_rules opened old.stands new.stands [] [] × (old.spare ≡ new.spare)
Ends room old new before after message (Some served) = ⊥

-- how a connection ends on which no message came for this reason
abbrev pub Refuses : Option (List ℕ) → Option (List ℕ) → ℕ → ℕ → Wire → Served → Type 0
Refuses before after faults_before faults_after reason Closed = (reason ≡ wire.End) × Appends before after [] × (faults_after ≡ faults_before)
Refuses before after faults_before faults_after reason EndedInside = (reason ≡ wire.EndedInside) × Appends before after [] × (faults_after ≡ faults_before)
Refuses before after faults_before faults_after reason ReadFault = (reason ≡ wire.ReadFault) × Appends before after [] × (faults_after ≡ faults_before)
Refuses before after faults_before faults_after reason NoMemory = (reason ≡ wire.NoMemory) × Appends before after [] × (faults_after ≡ faults_before)
Refuses before after faults_before faults_after reason (WireFault told) =
    (told ≡ reason) × (is_refused reason ≡ true) × Appends before after (wire_text reason) × (faults_after ≡ faults_before)
Refuses before after faults_before faults_after reason WriteFault =
    (is_refused reason ≡ true) × AppendsFront before after (wire_text reason) × Rose faults_before faults_after
Refuses before after faults_before faults_after reason Full = ⊥

-- One message was taken and answered, and others may follow in the rest.
pub record Goes (room : ℕ) (old new : Standing) (before after : Outside) (rest : Option (List ℕ)) : Type 0 where
  pub message : Message
  pub reply : Reply
  pub taken : TakesOne before.left message rest
  pub call : Call
  pub routed : IsCallOf message call
  pub once : AsksOnce old new before.moments after.moments before.ids after.ids (caller_from message) call reply
  pub written : Appends before.written after.written (reply_text reply (message.closes || (room == 1)))
  pub gate : LogGrows before.gate after.gate (Asked (REQUESTS - room) ∷ Answered (REQUESTS - room) ∷ [])
  pub goes_on : (message.closes ≡ false) ⊎ (room ≡ 1)
  pub reads_kept : after.read_faults ≡ before.read_faults
  pub writes_kept : after.write_faults ≡ before.write_faults

-- what one turn does, with room for so many messages: one is answered and the rest is left, or the connection ends so
abbrev pub Turns : ℕ → Standing → Standing → Outside → Outside → Option (List ℕ) → Option Served → Type 0
Turns room old new before after rest None = Goes room old new before after rest
Turns room old new before after rest (Some served) = ServesWithin room old new before after served
