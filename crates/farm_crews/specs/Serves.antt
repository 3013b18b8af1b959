-- What `serve` does with a farm: `ready` is written, workers serve it, and at the end the number of their messages is written.
use Rattle.std.specs.Prelude.{◌≡◌, ℕ, ◌<◌, ◌⊎◌, List, [], ◌∷◌, ◌++◌, codes, decimal}
use Rattle.std.specs.List.Sorted.{IsPermutation}
use Rattle.history.specs.Asks.{LeadsAlone}
use Rattle.http_wire.specs.Calls.{LinkState}
use Rattle.shared_desk.specs.Standing.{Standing, fresh_token}
use Rattle.farm_machine.specs.Entry.{Entry}
use Rattle.farm_machine.specs.Law.{Opening, opened}
use Rattle.farm_machine.specs.State.{State}
use Rattle.farm_machine.specs.Step.{farm_rules}
use Rattle.farm_serving.specs.Connections.{Station}
use Rattle.farm_serving.specs.Serving.{Serves}
use Rattle.farm_serving.specs.declared.ended.Ended.{Ended}
use Rattle.console_commands.specs.declared.status.Status.{Status}
use Rattle.console_commands.specs.declared.status.Status.TheVariants.{Done, Door, Read, Write, NoMemory, Wire}
use Rattle.farm_crews.specs.Crew.{IsWholeCrew, IsKeptCrew, IsDoorFailed}
use Rattle.console_commands.specs.Inputs.{Tells}
use Rattle.console_commands.specs.Writing.{SameReads, SameWrites, WritesText}

-- the line that is written before workers serve
abbrev pub ready_text : List ℕ
ready_text = codes "ready\n"

-- the line that is written when so many messages were asked
abbrev pub served_text : ℕ → List ℕ
served_text served = codes "served " ++ (decimal served ++ codes "\n")

-- what serving counted, or how the writing of its last line ended, calls for this status
abbrev pub CallsFor : Ended → Status → Status → Type 0
CallsFor ended last Done = Unit {0}
CallsFor ended last Door = 0 < ended.accept_faults
CallsFor ended last Read = 0 < ended.read_faults
CallsFor ended last Write = (0 < ended.write_faults) ⊎ (last ≡ Write)
CallsFor ended last NoMemory = (0 < ended.no_memory) ⊎ (last ≡ NoMemory)
CallsFor ended last Wire = 0 < ended.wire_faults
CallsFor ended last status = ⊥

-- it is the first of these statuses that is called for
abbrev pub IsFirstOf : List Status → (Status → Type 0) → Status → Type 0
IsFirstOf [] Calls status = ⊥
IsFirstOf (one ∷ others) Calls status = (Calls one × (status ≡ one)) ⊎ ((¬ Calls one) × IsFirstOf others Calls status)

-- of several statuses that serving calls for the one with the least number stands
abbrev pub IsStatusOf : Ended → Status → Status → Type 0
IsStatusOf ended last status = IsFirstOf (Door ∷ Read ∷ Write ∷ NoMemory ∷ Wire ∷ Done ∷ []) (CallsFor ended last) status

-- Workers that told this before and that after were told to be ready, and served at one desk; then the number of their messages was written.
pub record ServesReady (connections : ℕ) (before after : LinkState) (old new : Standing State Entry) (befores afters : List Station) (status : Status) : Type 0 where
  pub between : LinkState
  pub unread : SameReads before between
  pub ready : WritesText before between ready_text Done
  pub ended : Ended
  pub serves : Serves connections old new befores afters ended
  pub last : Status
  pub told : Tells (served_text ended.served) between after last
  pub status_is : IsStatusOf ended last status

-- `ready` could not be written, and nobody served
pub record IsUnready (before after : LinkState) (old new : Standing State Entry) (befores afters : List Station) (status : Status) : Type 0 where
  pub unread : SameReads before after
  pub broken : WritesText before after ready_text Write
  pub unasked : new ≡ old
  pub unused : afters ≡ befores
  pub status_is : status ≡ Write

-- why workers that were lent this, and stand so now, served nothing: a twin of the door failed, or none did and `ready` could not be written, or
-- memory ran out
abbrev pub NeverServed : LinkState → LinkState → Station → List Station → Status → Type 0
NeverServed before after lent crew Door = SameReads before after × SameWrites before after × IsDoorFailed lent crew
NeverServed before after lent crew Write = SameReads before after × WritesText before after ready_text Write × IsKeptCrew lent crew
NeverServed before after lent crew NoMemory = SameReads before after × SameWrites before after × IsKeptCrew lent crew
NeverServed before after lent crew status = ⊥

-- So many workers, which stood ready with what was lent, served at the desk of a farm that began in this state. The history that they led through is
-- all that there was, and its calls, at these places, are theirs.
pub record ServesFarm (count connections : ℕ) (before after : LinkState) (lent : Station) (afters : List Station) (start : State) (history : List Entry) (calls : List ℕ) (status : Status) : Type 0 where
  pub crew : List Station
  pub whole : IsWholeCrew count lent crew
  pub first : Standing State Entry
  pub fresh : first ≡ fresh_token first.desk start
  pub token : Standing State Entry
  pub seen : token.seen ≡ history
  pub all : IsPermutation token.mine calls
  pub served : ServesReady connections before after first token crew afters status

-- a history that was led through from one state to another: it is legal, has the entries of asks in turn and no others, and these are its calls;
-- and what was held of an opening that begins so goes on by it
pub record IsLed (old new : State) (Held Holds : Opening → List Entry → Type 0) (history : List Entry) (calls : List ℕ) : Type 0 where
  pub leads : LeadsAlone farm_rules old history calls new
  pub holds : (opening : Opening) → opened opening ≡ old → Held opening [] → Holds opening history

-- Workers were gathered for a farm, and served it, or never did.
pub record ServesAll (count connections : ℕ) (before after : LinkState) (lent : Station) (afters : List Station) (old new : State) (Held Holds : Opening → List Entry → Type 0) (status : Status) : Type 0 where
  pub history : List Entry
  pub calls : List ℕ
  pub led : IsLed old new Held Holds history calls
  pub did : ServesFarm count connections before after lent afters old history calls status ⊎ ((history ≡ []) × NeverServed before after lent afters status)
