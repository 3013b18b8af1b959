-- What a farm holds of a history goes on by the entries of its asks.
use Rattle.std.proofs.Common.{◌≡◌, ◌⊎◌, ℕ, true, false, Bool, List, [], ◌∷◌, ◌++◌, None, refl, sym, ap, ◌∙◌, subst, append_assoc, inl, inr}
use Rattle.std.proofs.lemmas.List.{append-nil}
use Rattle.std.proofs.lemmas.Grind.{flat_map-append}
use Rattle.history.specs.Asks.{IsAsk}
use Rattle.history.specs.Histories.{entries, end_state, Leads}
use Rattle.history.proofs.HistoriesLemmas.{end_state-append}
use Rattle.disk_base.specs.Contents.{Contents as Disk}
use Rattle.disk_journal.specs.Images.{IsImage}
use Rattle.disk_journal.proofs.AppendLemmas.{ready_image}
use Rattle.task_types.specs.declared.change.Change.{Change}
use Rattle.task_index.specs.Contents.{Contents}
use Rattle.farm_asks.specs.declared.config.Config.{Config}
use Rattle.farm_asks.specs.declared.reply.Asked.{Asked}
use Rattle.farm_asks.specs.declared.reply.Reply.TheVariants.{Halted}
use Rattle.farm_asks.specs.Questions.{Asking}
use Rattle.farm_machine.specs.Entry.{Entry, call, disk_failed, was_halted}
use Rattle.farm_machine.specs.Law.{Opening}
use Rattle.farm_machine.specs.Replay.{records_by, records_of}
use Rattle.farm_machine.specs.State.{State}
use Rattle.farm_machine.specs.Step.{IsToKeep, farm_rules, ticks_before}
use Rattle.farm_core.specs.Farm.{AsksDisk, TellsFaults, HoldsHistory, state_of}
use Rattle.farm_core.specs.Opened.{HasOpened}
use Rattle.farm_core.specs.Records.{AreRecords, KeepsRecords, HasRecords, IsFailed}
use Rattle.farm_core.proofs.FaultLemmas.{tells-kept, tells-then}
use Rattle.farm_core.proofs.RecordLemmas.{records-append}

-- ---- a farm that has halted

pub halted-ask : (state : State) (asking : Asking) → state.halted ≡ true → IsAsk farm_rules state asking (record { reply = Halted; ticked = false }) (call asking was_halted) state
unfolding farm_rules
halted-ask state asking halted = record {
  legal = (halted, tt);
  leads = refl;
  quiet = λ place. refl;
  asked = refl;
  reply = refl;
}

-- it adds no record
records-halted : (seen : List Entry) (asking : Asking) → records_of (seen ++ call asking was_halted ∷ []) ≡ records_of seen
records-halted seen asking = flat_map-append records_by seen (call asking was_halted ∷ []) ∙ append-nil (records_of seen)

failed-later : (opening : State) (seen more : List Entry) (change : Change) → IsFailed opening seen change → IsFailed opening (seen ++ more) change
failed-later opening seen more change f = record {
  before = f.before;
  after = f.after ++ more;
  asking = f.asking;
  is = ap (λ (l : List Entry). l ++ more) f.is ∙ append_assoc f.before (call f.asking disk_failed ∷ f.after) more;
  kept = f.kept;
}

pub holds-halted : (tells : Type 0) (disk : Disk) (end faults : ℕ) (state : State) (asking : Asking) (opening : Opening) (seen : List Entry)
    → HoldsHistory tells disk end faults state opening seen → HoldsHistory tells disk end faults state opening (seen ++ call asking was_halted ∷ [])
holds-halted tells disk end faults state asking opening seen h = record {
  counts = h.counts;
  failed = h.failed;
  failed_in = elim h.failed_in [ inl none ↦ inl none | inr some_ ↦ inr (some_.0, failed-later opening.state seen (call asking was_halted ∷ []) some_.0 some_.1, some_.2) ];
  records = λ told. subst (λ (l : List Change). HasRecords disk end state (opening.records ++ l) h.failed) (sym (records-halted seen asking)) (h.records told);
}

-- ---- a farm at work

-- what failed in the call of an ask is what failed in the history
pub failed-asked : (old : State) (asking : Asking) (answer : Asked) (entry : Entry) (opening : State) (seen : List Entry) (change : Change) → Leads farm_rules opening seen old → entry ≡ call asking disk_failed
    → IsToKeep (end_state farm_rules old (ticks_before old asking answer)) asking change → IsFailed opening (seen ++ entries farm_rules old asking answer entry) change
unfolding farm_rules
failed-asked old asking answer entry opening seen change leads is kept =
    let ticks : List Entry = ticks_before old asking answer in
    record {
      before = seen ++ ticks;
      after = [];
      asking = asking;
      is = ap (λ (e : Entry). seen ++ (ticks ++ e ∷ [])) is ∙ sym (append_assoc seen ticks (call asking disk_failed ∷ []));
      kept = subst (λ (s : State). IsToKeep s asking change) (ap (λ (s : State). end_state farm_rules s ticks) leads.1 ∙ sym (end_state-append farm_rules opening seen ticks)) kept;
    }

-- a disk that had some records has more
abbrev pub has-more : (old_disk : Disk) (old_end : ℕ) (old : State) (new_disk : Disk) (new_end : ℕ) (new : State) (changes more all failed lost : List Change) → old.halted ≡ false → changes ++ more ≡ all → (new.halted ≡ false → failed ≡ [])
    → HasRecords old_disk old_end old changes lost → KeepsRecords old_disk old_end new_disk new_end more failed → HasRecords new_disk new_end new all failed
has-more old_disk old_end old new_disk new_end new changes more all failed lost working is whole has k =
    let ready = (has.at_work working).1 in
    record {
      bodies = has.bodies ++ k.bodies;
      others = k.others;
      recorded = subst (λ (l : List Change). AreRecords l (has.bodies ++ k.bodies)) is (records-append changes more has.bodies k.bodies has.recorded k.recorded);
      pending = k.pending;
      at_work = λ still.
          let none : k.others ≡ [] = subst (λ (l : List Change). AreRecords l k.others) (whole still) k.pending in
          (none, k.keeps.ready none has.bodies ready);
      images = λ image left. k.keeps.images has.bodies ready image left;
    }

-- no call failed before, and perhaps one does now
counts-on : (opening between now : ℕ) (was halted : Bool) → was ≡ false → TellsFaults opening between was → TellsFaults between now halted → TellsFaults opening now halted
counts-on opening between now was halted working before here = tells-then opening between now halted (before.stays working) here

pub holds-asked : (tells : Type 0) (old : State) (old_disk : Disk) (old_end old_count old_faults : ℕ) (asking : Asking) (answer : Asked) (new : State) (new_disk : Disk) (new_end new_count new_faults : ℕ)
    → (asked : AsksDisk tells old old_disk old_end old_count asking answer new new_disk new_end new_count) → old.halted ≡ false → TellsFaults old_faults new_faults new.halted
    → (opening : Opening) (seen : List Entry) → Leads farm_rules opening.state seen old → HoldsHistory tells old_disk old_end old_faults old opening seen
    → HoldsHistory tells new_disk new_end new_faults new opening (seen ++ entries farm_rules old asking answer asked.call)
holds-asked tells old old_disk old_end old_count old_faults asking answer new new_disk new_end new_count new_faults asked working tellings opening seen leads h =
    let more : List Entry = entries farm_rules old asking answer asked.call in
    let all : (opening.records ++ records_of seen) ++ records_of more ≡ opening.records ++ records_of (seen ++ more) =
    append_assoc opening.records (records_of seen) (records_of more) ∙ ap (λ (l : List Change). opening.records ++ l) (sym (flat_map-append records_by seen more)) in
    record {
      counts = counts-on opening.faults old_faults new_faults old.halted new.halted working h.counts tellings;
      failed = asked.failed;
      failed_in = elim asked.failed_by [ inl none ↦ inl none | inr some_ ↦ inr (some_.0, failed-asked old asking answer asked.call opening.state seen some_.0 leads some_.1 some_.2, some_.3) ];
      records = λ told.
          has-more old_disk old_end old new_disk new_end new (opening.records ++ records_of seen) (records_of more) (opening.records ++ records_of (seen ++ more)) asked.failed h.failed working all asked.whole (h.records told) (asked.keeps told);
    }

-- ---- either way

pub decided : (b : Bool) → (b ≡ true) ⊎ (b ≡ false)
decided true = inl refl
decided false = inr refl

-- a halted farm stays, and answers so
pub halted-asked : (state now : State) (asking : Asking) (answer : Asked) → state.halted ≡ true → now ≡ state → answer ≡ record { reply = Halted; ticked = false } → IsAsk farm_rules state asking answer (call asking was_halted) now
halted-asked state now asking answer halted same is =
    let P : State → Type 0 = λ s. IsAsk farm_rules state asking answer (call asking was_halted) s in
    let Q : Asked → Type 0 = λ a. IsAsk farm_rules state asking a (call asking was_halted) state in
    subst P (sym same) (subst Q (sym is) (halted-ask state asking halted))

pub entries-halted : (state : State) (asking : Asking) (answer : Asked) (entry : Entry) → answer ≡ record { reply = Halted; ticked = false } → entries farm_rules state asking answer entry ≡ entry ∷ []
unfolding farm_rules
entries-halted state asking answer entry is = ap (λ (a : Asked). entries farm_rules state asking a entry) is

-- ---- a farm that was opened holds what it was opened from

pub holds-opened : (tells : Type 0) (file : List ℕ) (disk : Disk) (end count faults : ℕ) (config : Config) (contents : Contents) (o : HasOpened tells file disk end count contents)
    → HoldsHistory tells disk end faults (state_of config contents false) (record { state = state_of config contents false; records = o.replays.changes; faults = faults }) []
holds-opened tells file disk end count faults config contents o = record {
  counts = tells-kept faults faults false refl refl;
  failed = [];
  failed_in = inl refl;
  records = λ told.
      let ready = o.ready told in
      record {
        bodies = o.bodies;
        others = [];
        recorded = subst (λ (l : List Change). AreRecords l o.bodies) (sym (append-nil o.replays.changes)) o.replays.recorded;
        pending = refl;
        at_work = λ still. (refl, ready);
        images = λ image left. subst (IsImage [] o.bodies None) (sym (ready.settled image left)) (ready_image [] disk end o.bodies ready);
      };
}
