-- What a run does where no count of faults rose.
use Rattle.std.proofs.Common.{◌≡◌, ◌≢◌, ℕ, ◌⊎◌, Bool, List, [], ◌++◌, length, true, false, Option, Some, None, refl, sym, ◌∙◌, ap, subst, inl, inr, append-nil}
use Rattle.std.specs.Prelude.{IfSome}
use Rattle.std.specs.Io.KnownBytes.{Appends}
use Rattle.causes.specs.Causes.{Rose}
use Rattle.command_line.specs.declared.command.Command.{Command}
use Rattle.command_line.specs.declared.command.Command.TheVariants.{OverFarm, Sign, Bulk, Render}
use Rattle.command_line.specs.declared.command.Work.{Work}
use Rattle.command_line.specs.declared.command.Work.TheVariants.{Answer, Expand, Check, Serve}
use Rattle.command_line.specs.declared.load.Load.{Load}
use Rattle.command_line.specs.declared.service.Service.{Service}
use Rattle.command_line.specs.declared.signing.Signing.{Signing}
use Rattle.command_line.specs.Words.{disk_of}
use Rattle.disk_journal.specs.Records.{Opens}
use Rattle.disk_journal.specs.declared.fault.OpenFault.{OpenFault}
use Rattle.disk_journal.specs.declared.fault.OpenFault.TheVariants as faults
use Rattle.task_types.specs.declared.change.Change.{Change}
use Rattle.task_index.specs.Contents.{Contents, no_contents}
use Rattle.farm_core.specs.Opened.{IsFarmDamaged, Replays}
use Rattle.farm_core.specs.Records.{AreRecords}
use Rattle.farm_core.specs.Diskless.{HaveNoDisk}
use Rattle.farm_core.proofs.DisklessLemmas.{HaveNoDisk-at_work}
use Rattle.farm_core.proofs.OpenLemmas.{OneChange, image-sound}
use Rattle.history.specs.Histories.{end_state}
use Rattle.farm_machine.specs.Law.{Opening as History}
use Rattle.farm_machine.specs.Replay.{replayed}
use Rattle.farm_machine.specs.State.{State, empty_state}
use Rattle.farm_machine.specs.Step.{farm_rules}
use Rattle.http_wire.specs.declared.message.Message.{Message}
use Rattle.http_wire.specs.declared.message.Wire.{Wire as Reason}
use Rattle.http_wire.specs.declared.message.Wire.TheVariants as wire
use Rattle.http_wire.specs.Stream.{Ending, stopped, closed, full, Messages}
use Rattle.http_wire.proofs.StreamLaws.{messages_unique}
use Rattle.farm_asks.specs.declared.config.Config.{Config}
use Rattle.farm_asks.specs.declared.reply.Reply.{Reply}
use Rattle.api_routes.specs.ReplyText.{wire_text}
use Rattle.farm_server.specs.Served.{Outside, Ask, Spoke, messages_of, reply_texts, is_refused, EndsAs, Writes, IsCaused}
use Rattle.farm_server.specs.declared.served.Served.{Served}
use Rattle.farm_server.specs.declared.served.Served.TheVariants as served
use Rattle.farm_server.specs.declared.served.TheConstants.{REQUESTS}
use Rattle.houses.specs.declared.lending.Lending.TheVariants.{Ready, Back}
use Rattle.console_commands.specs.declared.status.Status.{Status}
use Rattle.console_commands.specs.declared.status.Status.TheVariants.{Done, Usage, FarmFile, Input, Opening, Disk, Door, Read, Write, NoMemory, Wire, Damaged}
use Rattle.farm_cli.specs.Checking.{CheckedOver, Checks, check_text, disk_text}
use Rattle.farm_cli.specs.Disks.{BeginsFrom, IsRefusedFor, over_disk, status_of_fault}
use Rattle.farm_cli.specs.Heard.{IsUnheard, IsHeard, ServedOver}
use Rattle.farm_crews.specs.Serves.{IsStatusOf, NeverServed}
use Rattle.http_wire.specs.Calls.{LinkState}
use Rattle.farm_machine.specs.Entry.{Entry}
use Rattle.farm_serving.specs.Connections.{Station}
use Rattle.farm_serving.specs.declared.ended.Ended.{Ended}
use Rattle.farm_cli.proofs.FaultLemmas.{called}
use Rattle.farm_cli.specs.Complete.{stop_status, status_for, own_text, HasFile, NoFileFault, HasDisk, NoDiskFault, HasSoundDisk, NoConsoleFault, AnswersAll, Answers, ServesSoundly, WritesAll, Finishes, FinishesSigning, Completes, CompletesLoad, CompletesRendering, CompletesSigning, RefusesFile, RefusesDisk, MissesFile, MissesDisk, TellsUsage}
use Rattle.console_commands.specs.Expanding.{IsExpansion, IsBadInput, Expands}
use Rattle.farm_cli.specs.FarmFile.{SetsUp, HasFault, FileRefused}
use Rattle.houses.specs.House.{Files, Held, holds, refuses, unopened, back, WasLent, WasOpened, Lendings}
use Rattle.console_commands.specs.Inputs.{Tells, Turns}
use Rattle.farm_cli.specs.Run.{DidOver, Obeyed, RanOverFile, RanOver, RanCommand, Ran}
use Rattle.farm_cli.specs.Ends.{status_of}
use Rattle.farm_cli.specs.Serving.{status_over, IsHistoryOf, ConversedOver}
use Rattle.farm_cli.specs.Loading.{IsLoadLine, Loads}
use Rattle.console_commands.specs.Rendering.{IsRendering, IsUnrendered, Renders}
use Rattle.console_commands.specs.Signing.{IsSigned, IsTooLong, Signs, SignsAs, signed_line}
use Rattle.farm_cli.specs.Views.{Views, outside_of, talk_of}

-- a reason for which the wire itself replies
refused_status : (reason : Reason) → is_refused reason ≡ true → stop_status reason ≡ Wire
refused_status wire.End e = cc
refused_status wire.HeadFault e = refl
refused_status wire.HeadTooLarge e = refl
refused_status wire.NoLength e = refl
refused_status wire.BodyTooLarge e = refl
refused_status wire.EndedInside e = refl
refused_status wire.ReadFault e = refl
refused_status wire.NoMemory e = refl

-- nothing more was written
appends_none : (before after : Option (List ℕ)) (text more : List ℕ) → [] ≡ more → Appends before after text → Appends before after (text ++ more)
appends_none before after text more none h = rw (← none, append-nil) h

-- a connection over this list ended as it has to, or memory ran out
record Finished (before after : Option (List ℕ)) (asked messages : List Message) (ending : Ending) (text : List ℕ) (status : Status) : Type 0 where
  status_is : status ≡ status_for ending
  all : asked ≡ messages
  written : Appends before after (text ++ own_text ending)

-- it ended by the end of the list, after which nothing more was written
finished_by : (bytes : List ℕ) (asked messages : List Message) (end ending : Ending) (before after : Option (List ℕ)) (text : List ℕ) (status : Status)
    → Messages REQUESTS bytes asked end → Messages REQUESTS bytes messages ending → status ≡ status_for end → [] ≡ own_text end → Appends before after text
    → Finished before after asked messages ending text status
finished_by bytes asked messages end ending before after text status list list' status_is none appends =
    let one = messages_unique REQUESTS bytes asked messages end ending list list' in
    record {
      status_is = status_is ∙ ap status_for one.1;
      all = one.0;
      written = appends_none before after text (own_text ending) (none ∙ ap own_text one.1) appends;
    }

-- it ended by a refusal, which the wire replied to
finished_by_refusal : (bytes : List ℕ) (asked messages : List Message) (reason : Reason) (ending : Ending) (before after : Option (List ℕ)) (text : List ℕ)
    → Messages REQUESTS bytes asked (stopped reason) → Messages REQUESTS bytes messages ending → is_refused reason ≡ true → Appends before after (text ++ wire_text reason)
    → Finished before after asked messages ending text Wire
finished_by_refusal bytes asked messages reason ending before after text list list' refused appends =
    let one = messages_unique REQUESTS bytes asked messages (stopped reason) ending list list' in
    record {
      status_is = sym (refused_status reason refused) ∙ ap status_for one.1;
      all = one.0;
      written = subst (λ (e : Ending). Appends before after (text ++ own_text e)) one.1 appends;
    }

finished : (bytes : List ℕ) (asks : List Ask) (replies : List Reply) (messages : List Message) (ending : Ending) (before after : Outside) (served : Served)
    → EndsAs REQUESTS bytes (messages_of asks) served → Messages REQUESTS bytes messages ending → Writes REQUESTS before after asks replies served → IsCaused before after served
    → ¬ (Rose before.read_faults after.read_faults) → ¬ (Rose before.write_faults after.write_faults)
    → (status_of served ≡ NoMemory) ⊎ Finished before.written after.written (messages_of asks) messages ending (reply_texts REQUESTS asks replies) (status_of served)
finished bytes asks replies messages ending before after served.Closed (inl list) list' writes cause reads_well writes_well =
    inr (finished_by bytes (messages_of asks) messages closed ending before.written after.written (reply_texts REQUESTS asks replies) Done list list' refl refl writes.written)
finished bytes asks replies messages ending before after served.Closed (inr list) list' writes cause reads_well writes_well =
    inr (finished_by bytes (messages_of asks) messages (stopped wire.End) ending before.written after.written (reply_texts REQUESTS asks replies) Done list list' refl refl writes.written)
finished bytes asks replies messages ending before after served.Full list list' writes cause reads_well writes_well =
    inr (finished_by bytes (messages_of asks) messages full ending before.written after.written (reply_texts REQUESTS asks replies) Done list list' refl refl writes.written)
finished bytes asks replies messages ending before after served.EndedInside list list' writes cause reads_well writes_well =
    inr (finished_by bytes (messages_of asks) messages (stopped wire.EndedInside) ending before.written after.written (reply_texts REQUESTS asks replies) Wire list list' refl refl writes.written)
finished bytes asks replies messages ending before after (served.WireFault reason) list list' writes cause reads_well writes_well =
    inr (finished_by_refusal bytes (messages_of asks) messages reason ending before.written after.written (reply_texts REQUESTS asks replies) list.1 list' writes.0 writes.1.written)
finished bytes asks replies messages ending before after served.ReadFault list list' writes cause reads_well writes_well = absurd (reads_well cause.0)
finished bytes asks replies messages ending before after served.WriteFault list list' writes cause reads_well writes_well = absurd (writes_well cause.0)
finished bytes asks replies messages ending before after served.NoMemory list list' writes cause reads_well writes_well = inl refl

-- ---- a command over a console that is there, and does not fail

answers_all : {F S C N T I D : Type 0} (views : Views F S C N T I D) (old new : Lendings F S C N T I D) (start : State) (status : Status) (console given console' : C) (clock clock' : T) (draws draws' : I) (asks : List Ask) (replies : List Reply) (served : Served)
    (bytes : List ℕ) (messages : List Message) (ending : Ending)
    → WasLent old.console new.console given console' → Spoke (outside_of views given clock draws) (outside_of views console' clock' draws') asks replies served → (history : IsHistoryOf start asks replies) → HaveNoDisk history.history → status ≡ status_of served
    → old.console ≡ Ready console → views.console_left console ≡ Some bytes → Messages REQUESTS bytes messages ending → NoConsoleFault views new console
    → (status ≡ NoMemory) ⊎ AnswersAll views new console start messages ending status
answers_all {C} views old new start status console given console' clock clock' draws draws' asks replies served bytes messages ending lent spoke history no_disk status_is ready known list well =
    let same = rw ready at lent.could in
    let came_back = rw ready at lent.returned in
    let taken = rw (same, known) at spoke.taken in
    let reads_well = subst (λ (x : C). ¬ (Rose (views.console_read_faults x) (views.console_read_faults console'))) (sym same) (well.reads console' came_back) in
    let writes_well = subst (λ (x : C). ¬ (Rose (views.console_write_faults x) (views.console_write_faults console'))) (sym same) (well.writes console' came_back) in
    elim (finished bytes asks replies messages ending (outside_of views given clock draws) (outside_of views console' clock' draws') served taken list spoke.written spoke.cause reads_well writes_well) [
      | inl none ↦ inl (status_is ∙ none)
      | inr done ↦ inr (record {
        status_is = status_is ∙ done.status_is;
        console' = console';
        came_back = came_back;
        asks = asks;
        replies = replies;
        all = done.all;
        history = history;
        no_disk = no_disk;
        written = subst (λ (x : C). Appends (views.console_written x) (views.console_written console') (reply_texts REQUESTS asks replies ++ own_text ending)) same done.written;
      })
    ]

-- what a known input gives was written, or it was refused
turns_all : {F S C N T I D : Type 0} (views : Views F S C N T I D) (new : Lendings F S C N T I D) (Gives : List ℕ → List ℕ → Type 0) (IsBad : List ℕ → Type 0) (status : Status) (console console' : C) (input : List ℕ)
    → status ≢ NoMemory → new.console ≡ Back console' → views.console_left console ≡ Some input
    → ¬ (Rose (views.console_read_faults console) (views.console_read_faults console')) → ¬ (Rose (views.console_write_faults console) (views.console_write_faults console'))
    → Turns Gives IsBad (talk_of views console) (talk_of views console') status
    → ((text : List ℕ) × Gives input text × WritesAll views new console text status) ⊎ (IsBad input × (status ≡ Input))
turns_all views new Gives IsBad Done console console' input some came_back known reads_well writes_well did =
    inl (did.0, rw known at did.1, record { done = refl; console' = console'; came_back = came_back; written = did.4.0 })
turns_all views new Gives IsBad Usage console console' input some came_back known reads_well writes_well did = absurd did.4
turns_all views new Gives IsBad FarmFile console console' input some came_back known reads_well writes_well did = absurd did.4
turns_all views new Gives IsBad Input console console' input some came_back known reads_well writes_well did = inr (rw known at did.0, refl)
turns_all views new Gives IsBad Opening console console' input some came_back known reads_well writes_well did = absurd did.4
turns_all views new Gives IsBad Disk console console' input some came_back known reads_well writes_well did = absurd did.4
turns_all views new Gives IsBad Door console console' input some came_back known reads_well writes_well did = absurd did.4
turns_all views new Gives IsBad Damaged console console' input some came_back known reads_well writes_well did = absurd did.4
turns_all views new Gives IsBad Read console console' input some came_back known reads_well writes_well did = absurd (reads_well did.0)
turns_all views new Gives IsBad Write console console' input some came_back known reads_well writes_well did = absurd (writes_well did.4.1)
turns_all views new Gives IsBad NoMemory console console' input some came_back known reads_well writes_well did = absurd (some refl)
turns_all views new Gives IsBad Wire console console' input some came_back known reads_well writes_well did = absurd did.4

-- a text was written
tells_all : {F S C N T I D : Type 0} (views : Views F S C N T I D) (new : Lendings F S C N T I D) (text : List ℕ) (status : Status) (console console' : C)
    → status ≢ NoMemory → new.console ≡ Back console' → ¬ (Rose (views.console_write_faults console) (views.console_write_faults console'))
    → Tells text (talk_of views console) (talk_of views console') status → WritesAll views new console text status
tells_all views new text Done console console' some came_back writes_well did = record { done = refl; console' = console'; came_back = came_back; written = did.1.0 }
tells_all views new text Usage console console' some came_back writes_well did = absurd did.1
tells_all views new text FarmFile console console' some came_back writes_well did = absurd did.1
tells_all views new text Input console console' some came_back writes_well did = absurd did.1
tells_all views new text Opening console console' some came_back writes_well did = absurd did.1
tells_all views new text Disk console console' some came_back writes_well did = absurd did.1
tells_all views new text Door console console' some came_back writes_well did = absurd did.1
tells_all views new text Damaged console console' some came_back writes_well did = absurd did.1
tells_all views new text Read console console' some came_back writes_well did = absurd did.1
tells_all views new text Write console console' some came_back writes_well did = absurd (writes_well did.1.1)
tells_all views new text NoMemory console console' some came_back writes_well did = absurd (some refl)
tells_all views new text Wire console console' some came_back writes_well did = absurd did.1

-- ---- over a disk that is there, is not damaged, and does not fail

-- what was given is the disk of the house, and it came back
given_is : {S : Type 0} (old new : Files S) (name : List ℕ) (at : List ℕ → Held S) (disk given back' : S) → old ≡ unopened at → at name ≡ holds disk → WasOpened old new name given back' → (given ≡ disk) × (new ≡ back back')
given_is old new name at disk given back' files there opened = (rw (files, there) at opened.could, rw files at opened.returned)

-- it has a farm, or memory ran out
opens_soundly : {F S C N T I D : Type 0} (views : Views F S C N T I D) (old new : Lendings F S C N T I D) (before now : ℕ) (name : List ℕ) (disk : S) (status : Status) (Did : Type 0)
    → HasSoundDisk views old new name disk → DidOver views old new before now name status Did → (status ≡ NoMemory) ⊎ Did
opens_soundly views old new before now name disk status Did sound (inl did) = inr did
opens_soundly {S} views old new before now name disk status Did sound (inr (inl ran)) = inl (by ran.fault ran.why ran.status_is)
  where
    met : (ran.given ≡ disk) × (new.disk ≡ back ran.back)
    met = given_is old.disk new.disk name sound.has.at disk ran.given ran.back sound.has.disks sound.has.there ran.disk

    by : (fault : OpenFault) → IsRefusedFor views ran.given ran.back fault → status ≡ status_of_fault fault → status ≡ NoMemory
    by faults.Disk why is = absurd (sound.well ran.back met.1 (subst (λ (d : S). Rose (views.disk_faults d) (views.disk_faults ran.back)) met.0 why))
    by (faults.Damaged place) why is = absurd (sound.sound place (subst (λ (d : S). IsFarmDamaged (views.disk_contents d).bytes place) met.0 (why.1 sound.tells)))
    by faults.NoMemory why is = is
opens_soundly views old new before now name disk status Did sound (inr (inr ran)) = absurd (rw (sound.has.disks, sound.has.there) at ran.could)

not_true : (b : Bool) → (b ≡ true → ⊥) → b ≡ false
not_true true no_ = absurd (no_ refl)
not_true false no_ = refl

finishes_answer : {F S C N T I D : Type 0} (views : Views F S C N T I D) (old new : Lendings F S C N T I D) (before now : ℕ) (config : Config) (name : List ℕ) (status : Status) (console : C) (disk : S)
    → status ≢ NoMemory → HasSoundDisk views old new name disk → ConversedOver views old new before now config name status → old.console ≡ Ready console → NoConsoleFault views new console
    → (opening : History) × BeginsFrom views disk config opening × Answers views new console opening.state status
finishes_answer {F} {S} views old new before now config name status console disk some sound ran ready well = (
  ran.opening,
  subst (λ (d : S). BeginsFrom views d config ran.opening) met.0 ran.led.begins,
  λ bytes messages ending known list. elim (answers_all views old new ran.opening.state status console ran.console_given ran.console_back ran.clock_given ran.clock_back ran.draws_given ran.draws_back ran.asks ran.replies ran.served bytes messages ending
      ran.console ran.spoke ran.history (HaveNoDisk-at_work ran.opening.state ran.history.history ran.history.legal at_work) (ran.status_is ∙ ap (λ (b : Bool). status_over b ran.served) at_work) ready known list well) [
        | inl none ↦ absurd (some none)
        | inr all ↦ all
      ],
)
  where
    met : (ran.led.disk_given ≡ disk) × (new.disk ≡ back ran.led.disk_back)
    met = given_is old.disk new.disk name sound.has.at disk ran.led.disk_given ran.led.disk_back sound.has.disks sound.has.there ran.led.disk

    rose_by : (end_state farm_rules ran.opening.state ran.history.history).halted ≡ true → Rose (views.disk_faults disk) (views.disk_faults ran.led.disk_back)
    rose_by fell = subst (λ (n : ℕ). Rose n (views.disk_faults ran.led.disk_back)) (ran.led.begins.faults ∙ ap views.disk_faults met.0) (ran.led.holds.holds.counts.rose fell)

    at_work : (end_state farm_rules ran.opening.state ran.history.history).halted ≡ false
    at_work = not_true (end_state farm_rules ran.opening.state ran.history.history).halted (λ fell. sound.well ran.led.disk_back met.1 (rose_by fell))

-- what serving calls for is no fault of the disk
not_of_disk : (ended : Ended) (last status : Status) → IsStatusOf ended last status → ¬ (status ≡ Disk) × ¬ (status ≡ Damaged)
not_of_disk ended last status is = (λ disk. called ended last Disk (rw disk at is), λ damaged. called ended last Damaged (rw damaged at is))

never_of_disk : (before after : LinkState) (lent : Station) (crew : List Station) (status : Status) → NeverServed before after lent crew status → ¬ (status ≡ Disk) × ¬ (status ≡ Damaged)
never_of_disk before after lent crew status never = (λ disk. rw disk at never, λ damaged. rw damaged at never)

heard_soundly : {F S C N T I D : Type 0} (views : Views F S C N T I D) (old new : Lendings F S C N T I D) (before now : ℕ) (service : Service) (start : State) (history : List Entry) (calls : List ℕ) (status : Status)
    → IsUnheard old new before now service.listen history status ⊎ IsHeard views old new before now service start history calls status → ¬ (status ≡ Disk) × ¬ (status ≡ Damaged)
heard_soundly views old new before now service start history calls status (inl unheard) = elim unheard.why [
  | inl none ↦ (λ disk. let e : NoMemory ≡ Disk = sym none.0 ∙ disk in cc, λ damaged. let e : NoMemory ≡ Damaged = sym none.0 ∙ damaged in cc)
  | inr refused ↦ (λ disk. let e : Door ≡ Disk = sym refused.0 ∙ disk in cc, λ damaged. let e : Door ≡ Damaged = sym refused.0 ∙ damaged in cc)
]
heard_soundly views old new before now service start history calls status (inr heard) = elim heard.lent.did [
  | inl served ↦ not_of_disk served.served.ended served.served.last status served.served.status_is
  | inr never ↦ never_of_disk _ _ _ _ status never.1
]

finishes_serving : {F S C N T I D : Type 0} (views : Views F S C N T I D) (old new : Lendings F S C N T I D) (before now : ℕ) (config : Config) (service : Service) (status : Status) (disk : S)
    → HasSoundDisk views old new service.disk disk → ServedOver views old new before now config service status → ServesSoundly views disk config status
finishes_serving {F} {S} views old new before now config service status disk sound ran = (
  ran.opening,
  subst (λ (d : S). BeginsFrom views d config ran.opening) met.0 ran.led.begins,
  λ is. soundly.0 (sym status_is ∙ is),
  λ is. soundly.1 (sym status_is ∙ is),
)
  where
    met : (ran.led.disk_given ≡ disk) × (new.disk ≡ back ran.led.disk_back)
    met = given_is old.disk new.disk service.disk sound.has.at disk ran.led.disk_given ran.led.disk_back sound.has.disks sound.has.there ran.led.disk

    rose_by : (end_state farm_rules ran.opening.state ran.history).halted ≡ true → Rose (views.disk_faults disk) (views.disk_faults ran.led.disk_back)
    rose_by fell = subst (λ (n : ℕ). Rose n (views.disk_faults ran.led.disk_back)) (ran.led.begins.faults ∙ ap views.disk_faults met.0) (ran.led.holds.holds.counts.rose fell)

    at_work : (end_state farm_rules ran.opening.state ran.history).halted ≡ false
    at_work = not_true (end_state farm_rules ran.opening.state ran.history).halted (λ fell. sound.well ran.led.disk_back met.1 (rose_by fell))

    status_is : status ≡ ran.calls_for
    status_is = ran.status_is ∙ ap (λ (b : Bool). over_disk b ran.calls_for) at_work

    soundly : ¬ (ran.calls_for ≡ Disk) × ¬ (ran.calls_for ≡ Damaged)
    soundly = heard_soundly views old new before now service ran.opening.state ran.history ran.calls ran.calls_for ran.did

finishes_check : {F S C N T I D : Type 0} (views : Views F S C N T I D) (old new : Lendings F S C N T I D) (before now : ℕ) (config : Config) (name : List ℕ) (status : Status) (console : C) (disk : S)
    → status ≢ NoMemory → HasSoundDisk views old new name disk → CheckedOver views old new before now config name status → old.console ≡ Ready console → NoConsoleFault views new console
    → (opening : History) × BeginsFrom views disk config opening × WritesAll views new console (disk_text config (length opening.records) (length opening.state.contents.rows)) status
finishes_check {F} {S} {C} views old new before now config name status console disk some sound ran ready well =
    let met = given_is old.disk new.disk name sound.has.at disk ran.disk_given ran.disk_back sound.has.disks sound.has.there ran.disk in
    let given = rw ready at ran.console.could in
    let came_back = rw ready at ran.console.returned in
    let text : List ℕ = disk_text config (length ran.opening.records) (length ran.opening.state.contents.rows) in (
      ran.opening,
      subst (λ (d : S). BeginsFrom views d config ran.opening) met.0 ran.begins,
      tells_all views new text status console ran.back some came_back (well.writes ran.back came_back) (subst (λ (x : C). Tells text (talk_of views x) (talk_of views ran.back) status) given ran.did),
    )

finishes : {F S C N T I D : Type 0} (views : Views F S C N T I D) (old new : Lendings F S C N T I D) (before now : ℕ) (config : Config) (work : Work) (status : Status) (console : C)
    → status ≢ NoMemory → Obeyed views old new before now config work status → old.console ≡ Ready console → NoConsoleFault views new console
    → Finishes views old new console config work status
finishes views old new before now config (Answer None) status console some ran ready well = λ bytes messages ending known list.
    let did = ran.1 in
    elim (answers_all views old new (empty_state config) status console did.console_given did.console_back did.clock_given did.clock_back did.draws_given did.draws_back did.asks did.replies did.served bytes messages ending
    did.console did.spoke did.history did.no_disk did.status_is ready known list well) [
      | inl none ↦ absurd (some none)
      | inr all ↦ all
    ]
finishes views old new before now config (Answer (Some name)) status console some ran ready well = λ disk sound.
    elim (opens_soundly views old new before now name disk status _ sound ran) [
      | inl none ↦ absurd (some none)
      | inr did ↦ finishes_answer views old new before now config name status console disk some sound did ready well
    ]
finishes views old new before now config (Serve service) status console some ran ready well = λ disk sound.
    elim (opens_soundly views old new before now service.disk disk status _ sound ran) [
      | inl none ↦ absurd (some none)
      | inr did ↦ finishes_serving views old new before now config service status disk sound did
    ]
finishes {C} views old new before now config Expand status console some ran ready well = λ input known.
    let used = ran.1 in
    let given = rw ready at used.console.could in
    let came_back = rw ready at used.console.returned in
    turns_all views new (IsExpansion config.roles) (IsBadInput config.roles) status console used.back input some came_back known (well.reads used.back came_back) (well.writes used.back came_back)
    (subst (λ (x : C). Expands config.roles (talk_of views x) (talk_of views used.back) status) given used.did)
finishes {C} views old new before now config (Check None) status console some ran ready well =
    let used = ran.1 in
    let given = rw ready at used.console.could in
    let came_back = rw ready at used.console.returned in
    tells_all views new (check_text config) status console used.back some came_back (well.writes used.back came_back)
    (subst (λ (x : C). Checks config (talk_of views x) (talk_of views used.back) status) given used.did)
finishes views old new before now config (Check (Some name)) status console some ran ready well = λ disk sound.
    elim (opens_soundly views old new before now name disk status _ sound ran) [
      | inl none ↦ absurd (some none)
      | inr did ↦ finishes_check views old new before now config name status console disk some sound did ready well
    ]

finishes_signing : {F S C N T I D : Type 0} (views : Views F S C N T I D) (new : Lendings F S C N T I D) (signing : Signing) (kind : Option (List ℕ)) (status : Status) (console console' : C)
    → status ≢ NoMemory → new.console ≡ Back console' → NoConsoleFault views new console → SignsAs signing kind (talk_of views console) (talk_of views console') status
    → FinishesSigning views new console signing kind status
finishes_signing views new signing None status console console' some came_back well did =
    tells_all views new (signed_line signing None) status console console' some came_back (well.writes console' came_back) did
finishes_signing views new signing (Some content_type) status console console' some came_back well did = λ body known.
    turns_all views new (IsSigned signing content_type) IsTooLong status console console' body some came_back known (well.reads console' came_back) (well.writes console' came_back) did

finishes_load : {F S C N T I D : Type 0} (views : Views F S C N T I D) (new : Lendings F S C N T I D) (load : Load) (status : Status) (console console' : C)
    → status ≢ NoMemory → new.console ≡ Back console' → NoConsoleFault views new console → Loads load (talk_of views console) (talk_of views console') status
    → (text : List ℕ) × IsLoadLine load text × WritesAll views new console text status
finishes_load views new load NoMemory console console' some came_back well did = absurd (some refl)
finishes_load views new load Done console console' some came_back well did =
    (did.0, did.1, tells_all views new did.0 Done console console' some came_back (well.writes console' came_back) did.2)
finishes_load views new load Usage console console' some came_back well did =
    (did.0, did.1, tells_all views new did.0 Usage console console' some came_back (well.writes console' came_back) did.2)
finishes_load views new load FarmFile console console' some came_back well did =
    (did.0, did.1, tells_all views new did.0 FarmFile console console' some came_back (well.writes console' came_back) did.2)
finishes_load views new load Input console console' some came_back well did =
    (did.0, did.1, tells_all views new did.0 Input console console' some came_back (well.writes console' came_back) did.2)
finishes_load views new load Opening console console' some came_back well did =
    (did.0, did.1, tells_all views new did.0 Opening console console' some came_back (well.writes console' came_back) did.2)
finishes_load views new load Disk console console' some came_back well did =
    (did.0, did.1, tells_all views new did.0 Disk console console' some came_back (well.writes console' came_back) did.2)
finishes_load views new load Door console console' some came_back well did =
    (did.0, did.1, tells_all views new did.0 Door console console' some came_back (well.writes console' came_back) did.2)
finishes_load views new load Damaged console console' some came_back well did =
    (did.0, did.1, tells_all views new did.0 Damaged console console' some came_back (well.writes console' came_back) did.2)
finishes_load views new load Read console console' some came_back well did =
    (did.0, did.1, tells_all views new did.0 Read console console' some came_back (well.writes console' came_back) did.2)
finishes_load views new load Write console console' some came_back well did =
    (did.0, did.1, tells_all views new did.0 Write console console' some came_back (well.writes console' came_back) did.2)
finishes_load views new load Wire console console' some came_back well did =
    (did.0, did.1, tells_all views new did.0 Wire console console' some came_back (well.writes console' came_back) did.2)

-- ---- a farm file that is there

is_memory : (status : Status) → (status ≡ NoMemory) ⊎ (status ≢ NoMemory)
is_memory Done = inr (λ e. cc)
is_memory Usage = inr (λ e. cc)
is_memory FarmFile = inr (λ e. cc)
is_memory Input = inr (λ e. cc)
is_memory Opening = inr (λ e. cc)
is_memory Disk = inr (λ e. cc)
is_memory Door = inr (λ e. cc)
is_memory Damaged = inr (λ e. cc)
is_memory Read = inr (λ e. cc)
is_memory Write = inr (λ e. cc)
is_memory NoMemory = inl refl
is_memory Wire = inr (λ e. cc)

same_command : (reading : Option Command) (a b : Command) → reading ≡ Some a → reading ≡ Some b → a ≡ b
same_command reading a b first second = cc

no_command : (reading : Option Command) (a : Command) → reading ≡ Some a → reading ≡ None → ⊥
no_command reading a first second = let e : Some a ≡ None = sym first ∙ second in cc

-- words that have a reading are refused for want of memory alone
words_taken : (said : Option Command) (command : Command) (status : Status) → said ≡ Some command
    → (status ≡ NoMemory) ⊎ ((status ≡ Usage) × (said ≡ None)) → status ≡ NoMemory
words_taken said command status asked (inl none) = none
words_taken said command status asked (inr usage) = absurd (no_command said command asked usage.1)

-- a command was run over the file that the house has
record Opened {F S C N T I D : Type 0} (views : Views F S C N T I D) (old new : Lendings F S C N T I D) (before now : ℕ) (work : Work) (file : F) (status : Status) : Type 0 where
  closed : F
  came_back : new.file ≡ back closed
  ran : RanOverFile views old new before now work file closed status

opened_over : {F S C N T I D : Type 0} (views : Views F S C N T I D) (old new : Lendings F S C N T I D) (before now : ℕ) (said : Option Command) (work : Work) (file : F) (status : Status) (has : HasFile old said work (holds file))
    → RanOver views old new before now has.farm work status → Opened views old new before now work file status
opened_over {F} views old new before now said work file status has over =
    let is = rw (has.files, has.there) at over.file.could in
    record {
      closed = over.closed;
      came_back = rw has.files at over.file.returned;
      ran = subst (λ (x : F). RanOverFile views old new before now work x over.closed status) is over.ran;
    }

-- the run of the command that the words ask for
run_of : {F S C N T I D : Type 0} (views : Views F S C N T I D) (old new : Lendings F S C N T I D) (before now : ℕ) (said : Option Command) (command : Command) (status : Status)
    → said ≡ Some command → Ran views old new before now said status → (status ≡ NoMemory) ⊎ RanCommand views old new before now command status
run_of views old new before now said command status asked (inl refused) = inl (words_taken said command status asked refused.why)
run_of views old new before now said command status asked (inr ran) =
    let same : ran.0 ≡ command = same_command said ran.0 command ran.1 asked in
    inr (subst (λ c. RanCommand views old new before now c status) same ran.2)

over_file : {F S C N T I D : Type 0} (views : Views F S C N T I D) (old new : Lendings F S C N T I D) (before now : ℕ) (said : Option Command) (work : Work) (file : F) (status : Status)
    → HasFile old said work (holds file) → ¬ (Rose before now) → Ran views old new before now said status
    → (status ≡ NoMemory) ⊎ Opened views old new before now work file status
over_file views old new before now said work file status has well ran =
    elim (run_of views old new before now said (OverFarm has.farm work) status has.asked ran) [
      | inl none ↦ inl none
      | inr (inl refused) ↦ absurd (well refused.rose)
      | inr (inr over) ↦ inr (opened_over views old new before now said work file status has over)
    ]

-- a file that is refused, of which no read failed, breaks a rule, or memory ran out
refused_by : (left : Option (List ℕ)) (before now : ℕ) (status : Status) → FileRefused left before now status → ¬ (Rose before now)
    → (status ≡ NoMemory) ⊎ (IfSome left HasFault × (status ≡ FarmFile))
refused_by left before now FarmFile why well = inr (why.0, refl)
refused_by left before now Read why well = absurd (well why)
refused_by left before now NoMemory why well = inl refl
refused_by left before now Done why well = absurd why
refused_by left before now Usage why well = absurd why
refused_by left before now Input why well = absurd why
refused_by left before now Opening why well = absurd why
refused_by left before now Disk why well = absurd why
refused_by left before now Door why well = absurd why
refused_by left before now Damaged why well = absurd why
refused_by left before now Write why well = absurd why
refused_by left before now Wire why well = absurd why

completes_over : {F S C N T I D : Type 0} (views : Views F S C N T I D) (old new : Lendings F S C N T I D) (before now : ℕ) (work : Work) (file : F) (bytes : List ℕ) (console : C) (status : Status)
    → Opened views old new before now work file status → views.file_left file ≡ Some bytes → ¬ HasFault bytes → NoFileFault views new before now file
    → old.console ≡ Ready console → NoConsoleFault views new console
    → (status ≡ NoMemory) ⊎ ((config : Config) × SetsUp bytes config × Finishes views old new console config work status)
completes_over views old new before now work file bytes console status opened left sound well ready console_well =
    elim opened.ran [
      | inl ran ↦ elim (is_memory status) [
        | inl none ↦ inl none
        | inr some ↦ inr (ran.0, rw left at ran.1, finishes views old new before now ran.0 work status console some ran.3 ready console_well)
      ]
      | inr refused ↦ elim (refused_by (views.file_left file) (views.file_faults file) (views.file_faults opened.closed) status refused.0 (well.reads opened.closed opened.came_back)) [
        | inl none ↦ inl none
        | inr fault ↦ absurd (sound (rw left at fault.0))
      ]
    ]

refuses_over : {F S C N T I D : Type 0} (views : Views F S C N T I D) (old new : Lendings F S C N T I D) (before now : ℕ) (work : Work) (file : F) (bytes : List ℕ) (status : Status)
    → Opened views old new before now work file status → views.file_left file ≡ Some bytes → HasFault bytes → NoFileFault views new before now file
    → (status ≡ NoMemory) ⊎ (status ≡ FarmFile)
refuses_over views old new before now work file bytes status opened left fault well =
    elim opened.ran [
      | inl ran ↦ absurd ((rw left at ran.1).sound fault.0 fault.1)
      | inr refused ↦ elim (refused_by (views.file_left file) (views.file_faults file) (views.file_faults opened.closed) status refused.0 (well.reads opened.closed opened.came_back)) [
        | inl none ↦ inl none
        | inr told ↦ inr told.1
      ]
    ]

-- a file that breaks no rule and could be read was taken, or memory ran out
taken_over : {F S C N T I D : Type 0} (views : Views F S C N T I D) (old new : Lendings F S C N T I D) (before now : ℕ) (work : Work) (file : F) (bytes : List ℕ) (status : Status)
    → Opened views old new before now work file status → views.file_left file ≡ Some bytes → ¬ HasFault bytes → ((file' : F) → new.file ≡ back file' → ¬ (Rose (views.file_faults file) (views.file_faults file')))
    → (status ≡ NoMemory) ⊎ ((config : Config) × Obeyed views old new before now config work status)
taken_over views old new before now work file bytes status opened left sound well =
    elim opened.ran [
      | inl ran ↦ inr (ran.0, ran.3)
      | inr refused ↦ elim (refused_by (views.file_left file) (views.file_faults file) (views.file_faults opened.closed) status refused.0 (well opened.closed opened.came_back)) [
        | inl none ↦ inl none
        | inr fault ↦ absurd (sound (rw left at fault.0))
      ]
    ]

-- what was opened, as it was opened, is no damaged one
begun_undamaged : OneChange → (file : List ℕ) (changes : List Change) (bodies : List (List ℕ)) (contents : Contents) (place : ℕ) → AreRecords changes bodies → replayed no_contents changes ≡ Some contents → Opens [] file bodies → IsFarmDamaged file place → ⊥
begun_undamaged one file changes bodies contents place recorded leaves opens damaged =
    let whole : Replays bodies contents = record { changes = changes; recorded = recorded; leaves = leaves } in
    image-sound one file bodies [] contents place (subst (λ (l : List (List ℕ)). Replays l contents) (sym (append-nil bodies)) whole) opens damaged

-- work over a damaged disk ends so
refuses_disk : {F S C N T I D : Type 0} (views : Views F S C N T I D) (old new : Lendings F S C N T I D) (before now : ℕ) (config : Config) (name : List ℕ) (disk : S) (place : ℕ) (status : Status) (Did : Type 0)
    → HasDisk old name (holds disk) → views.disk_tells → IsFarmDamaged (views.disk_contents disk).bytes place → NoDiskFault views new disk → ¬ (Rose before now)
    → (Did → (given : S) × (back' : S) × (opening : History) × WasOpened old.disk new.disk name given back' × BeginsFrom views given config opening) → OneChange
    → DidOver views old new before now name status Did → (status ≡ NoMemory) ⊎ (status ≡ Damaged)
refuses_disk {F} {S} views old new before now config name disk place status Did has tells damaged well openings begins one (inl did) =
    let (given, back', opening, opened, begun) = begins did in
    let met = given_is old.disk new.disk name has.at disk given back' has.disks has.there opened in
    let bad = subst (λ (d : S). IsFarmDamaged (views.disk_contents d).bytes place) (sym met.0) damaged in
    absurd (begun_undamaged one (views.disk_contents given).bytes opening.records begun.bodies opening.state.contents place begun.recorded begun.leaves (begun.opens tells) bad)
refuses_disk {F} {S} views old new before now config name disk place status Did has tells damaged well openings begins one (inr (inl ran)) = by ran.fault ran.why ran.status_is
  where
    met : (ran.given ≡ disk) × (new.disk ≡ back ran.back)
    met = given_is old.disk new.disk name has.at disk ran.given ran.back has.disks has.there ran.disk

    by : (fault : OpenFault) → IsRefusedFor views ran.given ran.back fault → status ≡ status_of_fault fault → (status ≡ NoMemory) ⊎ (status ≡ Damaged)
    by faults.Disk why is = absurd (well ran.back met.1 (subst (λ (d : S). Rose (views.disk_faults d) (views.disk_faults ran.back)) met.0 why))
    by (faults.Damaged place) why is = inr is
    by faults.NoMemory why is = inl is
refuses_disk views old new before now config name disk place status Did has tells damaged well openings begins one (inr (inr ran)) = absurd (openings ran.rose)

pub RefusesDisk-from_run : {F S C N T I D : Type 0} (views : Views F S C N T I D) (old new : Lendings F S C N T I D) (before now : ℕ) (said : Option Command) (status : Status) → OneChange
    → Ran views old new before now said status → RefusesDisk views old new before now said status
RefusesDisk-from_run {F} {S} views old new before now said status one ran = λ work file bytes name disk place has left sound well asked has_disk tells damaged disk_well.
    elim (over_file views old new before now said work file status has well.openings ran) [
      | inl none ↦ inl none
      | inr opened ↦ elim (taken_over views old new before now work file bytes status opened left sound well.reads) [
        | inl none ↦ inl none
        | inr obeyed ↦ refuses_by work obeyed.0 name disk place asked has_disk tells damaged disk_well well.openings obeyed.1
      ]
    ]
  where
    refuses_by : (work : Work) (config : Config) (name : List ℕ) (disk : S) (place : ℕ) → disk_of work ≡ Some name → HasDisk old name (holds disk) → views.disk_tells → IsFarmDamaged (views.disk_contents disk).bytes place
        → NoDiskFault views new disk → ¬ (Rose before now) → Obeyed views old new before now config work status → (status ≡ NoMemory) ⊎ (status ≡ Damaged)
    refuses_by (Answer None) config name disk place asked has_disk tells damaged well openings did = cc
    refuses_by (Answer (Some other)) config name disk place asked has_disk tells damaged well openings did =
        let same : other ≡ name = cc in
        refuses_disk views old new before now config other disk place status _ (subst (λ n. HasDisk old n (holds disk)) (sym same) has_disk) tells damaged well openings
        (λ d. (d.led.disk_given, d.led.disk_back, d.opening, d.led.disk, d.led.begins)) one did
    refuses_by (Serve service) config name disk place asked has_disk tells damaged well openings did =
        let same : service.disk ≡ name = cc in
        refuses_disk views old new before now config service.disk disk place status _ (subst (λ n. HasDisk old n (holds disk)) (sym same) has_disk) tells damaged well openings
        (λ d. (d.led.disk_given, d.led.disk_back, d.opening, d.led.disk, d.led.begins)) one did
    refuses_by Expand config name disk place asked has_disk tells damaged well openings did = cc
    refuses_by (Check None) config name disk place asked has_disk tells damaged well openings did = cc
    refuses_by (Check (Some other)) config name disk place asked has_disk tells damaged well openings did =
        let same : other ≡ name = cc in
        refuses_disk views old new before now config other disk place status _ (subst (λ n. HasDisk old n (holds disk)) (sym same) has_disk) tells damaged well openings
        (λ d. (d.disk_given, d.disk_back, d.opening, d.disk, d.begins)) one did

-- a disk that is not there
misses_disk : {F S C N T I D : Type 0} (views : Views F S C N T I D) (old new : Lendings F S C N T I D) (before now : ℕ) (name : List ℕ) (status : Status) (Did : Type 0)
    → HasDisk old name refuses → (Did → (given : S) × (back' : S) × WasOpened old.disk new.disk name given back') → DidOver views old new before now name status Did → status ≡ Disk
misses_disk views old new before now name status Did has opened (inl did) = let (given, back', met) = opened did in absurd (rw (has.disks, has.there) at met.could)
misses_disk views old new before now name status Did has opened (inr (inl ran)) = absurd (rw (has.disks, has.there) at ran.disk.could)
misses_disk views old new before now name status Did has opened (inr (inr ran)) = ran.status_is

pub Completes-from_run : {F S C N T I D : Type 0} (views : Views F S C N T I D) (old new : Lendings F S C N T I D) (before now : ℕ) (said : Option Command) (status : Status)
    → Ran views old new before now said status → Completes views old new before now said status
Completes-from_run views old new before now said status ran = λ work file bytes console has left sound well ready console_well.
    elim (over_file views old new before now said work file status has well.openings ran) [
      | inl none ↦ inl none
      | inr opened ↦ completes_over views old new before now work file bytes console status opened left sound well ready console_well
    ]

pub RefusesFile-from_run : {F S C N T I D : Type 0} (views : Views F S C N T I D) (old new : Lendings F S C N T I D) (before now : ℕ) (said : Option Command) (status : Status)
    → Ran views old new before now said status → RefusesFile views old new before now said status
RefusesFile-from_run views old new before now said status ran = λ work file bytes has left fault well.
    elim (over_file views old new before now said work file status has well.openings ran) [
      | inl none ↦ inl none
      | inr opened ↦ refuses_over views old new before now work file bytes status opened left fault well
    ]

pub MissesFile-from_run : {F S C N T I D : Type 0} (views : Views F S C N T I D) (old new : Lendings F S C N T I D) (before now : ℕ) (said : Option Command) (status : Status)
    → Ran views old new before now said status → MissesFile old said status
MissesFile-from_run views old new before now said status ran = λ work has.
    elim (run_of views old new before now said (OverFarm has.farm work) status has.asked ran) [
      | inl none ↦ inl none
      | inr (inl refused) ↦ inr refused.status_is
      | inr (inr over) ↦ absurd (rw (has.files, has.there) at over.file.could)
    ]

pub CompletesSigning-from_run : {F S C N T I D : Type 0} (views : Views F S C N T I D) (old new : Lendings F S C N T I D) (before now : ℕ) (said : Option Command) (status : Status)
    → Ran views old new before now said status → CompletesSigning views old new said status
CompletesSigning-from_run {F} {C} views old new before now said status ran = λ signing console asked ready well.
    elim (run_of views old new before now said (Sign signing) status asked ran) [
      | inl none ↦ inl none
      | inr signed ↦ elim (is_memory status) [
        | inl none ↦ inl none
        | inr some ↦ inr (
            let used = signed.used in
            let given = rw ready at used.console.could in
            let came_back = rw ready at used.console.returned in
            finishes_signing views new signing signing.content_type status console used.back some came_back well
            (subst (λ (x : C). Signs signing (talk_of views x) (talk_of views used.back) status) given used.did)
            )
      ]
    ]

pub CompletesLoad-from_run : {F S C N T I D : Type 0} (views : Views F S C N T I D) (old new : Lendings F S C N T I D) (before now : ℕ) (said : Option Command) (status : Status)
    → Ran views old new before now said status → CompletesLoad views old new said status
CompletesLoad-from_run {F} {C} views old new before now said status ran = λ load console asked ready well.
    elim (run_of views old new before now said (Bulk load) status asked ran) [
      | inl none ↦ inl none
      | inr loaded ↦ elim (is_memory status) [
        | inl none ↦ inl none
        | inr some ↦ inr (
            let used = loaded.used in
            let given = rw ready at used.console.could in
            let came_back = rw ready at used.console.returned in
            finishes_load views new load status console used.back some came_back well
            (subst (λ (x : C). Loads load (talk_of views x) (talk_of views used.back) status) given used.did)
            )
      ]
    ]

pub CompletesRendering-from_run : {F S C N T I D : Type 0} (views : Views F S C N T I D) (old new : Lendings F S C N T I D) (before now : ℕ) (said : Option Command) (status : Status)
    → Ran views old new before now said status → CompletesRendering views old new said status
CompletesRendering-from_run {F} {C} views old new before now said status ran = λ input console asked ready known well.
    elim (run_of views old new before now said Render status asked ran) [
      | inl none ↦ inl none
      | inr rendered ↦ elim (is_memory status) [
        | inl none ↦ inl none
        | inr some ↦ inr (
            let used = rendered.used in
            let given = rw ready at used.console.could in
            let came_back = rw ready at used.console.returned in
            turns_all views new IsRendering IsUnrendered status console used.back input some came_back known (well.reads used.back came_back) (well.writes used.back came_back)
            (subst (λ (x : C). Renders (talk_of views x) (talk_of views used.back) status) given used.did)
            )
      ]
    ]

-- words without a reading
pub TellsUsage-from_run : {F S C N T I D : Type 0} (views : Views F S C N T I D) (old new : Lendings F S C N T I D) (before now : ℕ) (said : Option Command) (status : Status)
    → Ran views old new before now said status → TellsUsage said status
TellsUsage-from_run views old new before now said status (inl refused) = λ unread. elim refused.why [
  | inl none ↦ inl none
  | inr usage ↦ inr usage.0
]
TellsUsage-from_run views old new before now said status (inr ran) = λ unread. absurd (no_command said ran.0 ran.1 unread)

pub MissesDisk-from_run : {F S C N T I D : Type 0} (views : Views F S C N T I D) (old new : Lendings F S C N T I D) (before now : ℕ) (said : Option Command) (status : Status)
    → Ran views old new before now said status → MissesDisk views old new said status
MissesDisk-from_run {F} {S} views old new before now said status ran = λ work file bytes name has left sound well asked has_disk.
    elim (run_of views old new before now said (OverFarm has.farm work) status has.asked ran) [
      | inl none ↦ inl none
      | inr (inl refused) ↦ absurd (rw (has.files, has.there) at refused.could)
      | inr (inr over) ↦ elim (taken_over views old new before now work file bytes status (opened_over views old new before now said work file status has over) left sound well) [
        | inl none ↦ inl none
        | inr obeyed ↦ inr (misses_by work obeyed.0 name asked has_disk obeyed.1)
      ]
    ]
  where
    misses_by : (work : Work) (config : Config) (name : List ℕ) → disk_of work ≡ Some name → HasDisk old name refuses → Obeyed views old new before now config work status → status ≡ Disk
    misses_by (Answer None) config name asked has_disk did = cc
    misses_by (Answer (Some other)) config name asked has_disk did =
        let same : other ≡ name = cc in
        misses_disk views old new before now other status _ (subst (λ n. HasDisk old n refuses) (sym same) has_disk) (λ d. (d.led.disk_given, d.led.disk_back, d.led.disk)) did
    misses_by (Serve service) config name asked has_disk did =
        let same : service.disk ≡ name = cc in
        misses_disk views old new before now service.disk status _ (subst (λ n. HasDisk old n refuses) (sym same) has_disk) (λ d. (d.led.disk_given, d.led.disk_back, d.led.disk)) did
    misses_by Expand config name asked has_disk did = cc
    misses_by (Check None) config name asked has_disk did = cc
    misses_by (Check (Some other)) config name asked has_disk did =
        let same : other ≡ name = cc in
        misses_disk views old new before now other status _ (subst (λ n. HasDisk old n refuses) (sym same) has_disk) (λ d. (d.disk_given, d.disk_back, d.disk)) did
