-- Whatever legal history a farm holds, its disk's images open.
use Rattle.std.proofs.Common.{◌≡◌, ◌⊎◌, ℕ, true, List, [], ◌∷◌, ◌++◌, refl, sym, ap, ◌∙◌, subst, inl, inr}
use Rattle.std.proofs.lemmas.List.{append-nil}
use Rattle.std.proofs.lemmas.Grind.{flat_map-append}
use Rattle.history.specs.Histories.{IsLegal, end_state, Leads}
use Rattle.history.proofs.HistoriesLemmas.{IsLegal-front, IsLegal-back}
use Rattle.disk_base.specs.Contents.{Contents as Disk, LeftNow}
use Rattle.task_types.specs.declared.change.Change.{Change}
use Rattle.task_index.specs.Contents.{Contents}
use Rattle.farm_asks.specs.Questions.{Asking}
use Rattle.farm_machine.specs.Entry.{Entry, tick, call, finished, out_of_memory, disk_failed, was_halted}
use Rattle.farm_machine.specs.Law.{Opening}
use Rattle.farm_machine.specs.Replay.{records_by, records_of, Restores}
use Rattle.farm_machine.specs.State.{State}
use Rattle.farm_machine.specs.Step.{farm_rules}
use Rattle.farm_machine.proofs.ReplayLemmas.{records-restore, kept-follows}
use Rattle.farm_core.specs.Farm.{HoldsHistory}
use Rattle.farm_core.specs.Opened.{Replays, IsFarmDamaged}
use Rattle.farm_core.specs.Records.{AreRecords, HasRecords, IsFailed}
use Rattle.farm_core.proofs.OpenLemmas.{OneChange, within-sound}
use Rattle.farm_core.proofs.RecordLemmas.{records-append}

-- a farm that has halted keeps no more
halted-keeps : (state : State) (history : List Entry) → IsLegal farm_rules state history → state.halted ≡ true → records_of history ≡ []
unfolding farm_rules
halted-keeps state [] legal halted = refl
halted-keeps state (tick moment ∷ history) legal halted = let working = legal.0.at_work in cc
halted-keeps state (call asking (finished judgement) ∷ history) legal halted = let working = legal.0.at_work in cc
halted-keeps state (call asking out_of_memory ∷ history) legal halted = let working = legal.0.at_work in cc
halted-keeps state (call asking disk_failed ∷ history) legal halted = halted-keeps (record state { halted = true }) history legal.1 refl
halted-keeps state (call asking was_halted ∷ history) legal halted = halted-keeps state history legal.1 halted

failed-keeps : (state : State) (asking : Asking) (history : List Entry) → IsLegal farm_rules state (call asking disk_failed ∷ history) → records_of history ≡ []
unfolding farm_rules
failed-keeps state asking history legal = halted-keeps (record state { halted = true }) history legal.1 refl

-- all that a farm's disk may have is replayed
pub history-replays : (disk : Disk) (end : ℕ) (state : State) (opening : Opening) (seen : List Entry) (failed : List Change) (has : HasRecords disk end state (opening.records ++ records_of seen) failed)
    → Restores opening.records opening.state.contents → IsLegal farm_rules opening.state seen → (failed ≡ []) ⊎ ((change : Change) × IsFailed opening.state seen change × (failed ≡ change ∷ []))
    → (reached : Contents) × Replays (has.bodies ++ has.others) reached
history-replays disk end state opening seen failed has restores legal (inl none) =
    let restored = records-restore opening.state opening.records seen restores legal in
    let empty : has.others ≡ [] = subst (λ (l : List Change). AreRecords l has.others) none has.pending in
    let all : has.bodies ++ has.others ≡ has.bodies = ap (λ (l : List (List ℕ)). has.bodies ++ l) empty ∙ append-nil has.bodies in (
      restored.reached,
      record {
        changes = opening.records ++ records_of seen;
        recorded = subst (λ (l : List (List ℕ)). AreRecords (opening.records ++ records_of seen) l) (sym all) has.recorded;
        leaves = restored.replays;
      },
    )
history-replays disk end state opening seen failed has restores legal (inr (change, f, is)) =
    let whole : IsLegal farm_rules opening.state (f.before ++ call f.asking disk_failed ∷ f.after) = subst (λ (l : List Entry). IsLegal farm_rules opening.state l) f.is legal in
    let front = IsLegal-front farm_rules opening.state f.before (call f.asking disk_failed ∷ f.after) whole in
    let back = IsLegal-back farm_rules opening.state f.before (call f.asking disk_failed ∷ f.after) whole in
    let none : records_of f.after ≡ [] = failed-keeps (end_state farm_rules opening.state f.before) f.asking f.after back in
    let kept : records_of seen ≡ records_of f.before =
    ap records_of f.is ∙ (flat_map-append records_by f.before (call f.asking disk_failed ∷ f.after) ∙ (ap (λ (l : List Change). records_of f.before ++ l) none ∙ append-nil (records_of f.before))) in
    let restored = records-restore opening.state opening.records f.before restores front in
    let more = kept-follows (end_state farm_rules opening.state f.before) (opening.records ++ records_of f.before) f.asking change restored f.kept in
    let pending : AreRecords (change ∷ []) has.others = subst (λ (l : List Change). AreRecords l has.others) is has.pending in
    let recorded = records-append (opening.records ++ records_of seen) (change ∷ []) has.bodies has.others has.recorded pending in (
      more.0,
      record {
        changes = (opening.records ++ records_of f.before) ++ change ∷ [];
        recorded = subst (λ (l : List Change). AreRecords ((opening.records ++ l) ++ change ∷ []) (has.bodies ++ has.others)) kept recorded;
        leaves = more.1;
      },
    )

pub images-sound : OneChange → (tells : Type 0) → tells → (disk : Disk) (end faults : ℕ) (state : State) (opening : Opening) (seen : List Entry)
    → Restores opening.records opening.state.contents → Leads farm_rules opening.state seen state → HoldsHistory tells disk end faults state opening seen
    → (image : List ℕ) (place : ℕ) → LeftNow disk image → IsFarmDamaged image place → ⊥
images-sound one tells told disk end faults state opening seen restores leads holds image place left damaged =
    let has = holds.records told in
    let all = history-replays disk end state opening seen holds.failed has restores leads.0 holds.failed_in in
    within-sound one image has.bodies has.others all.0 place all.1 (has.images image left) damaged
