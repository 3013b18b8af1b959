-- An ask of a farm over a disk is one lawful step, or a tick and one, and keeps the records of its entries.
use Rattle.std.proofs.Common.{◌≡◌, ℕ, ◌+◌, ◌≤◌, Bool, true, false, List, [], ◌∷◌, ◌++◌, length, Option, Some, Ok, refl, sym, ap, ◌∙◌, subst, arith, inl, inr}
use Rattle.std.proofs.lemmas.List.{append-nil}
use Rattle.std.specs.Option.{option_to_list}
use Rattle.history.specs.Histories.{end_state}
use Rattle.disk_base.specs.Contents.{Contents as Disk}
use Rattle.farm_text.specs.declared.moment.TheConstants.{LAST_TOLD_MOMENT}
use Rattle.task_types.specs.declared.change.Change.{Change}
use Rattle.farm_record.specs.Records.{tick_at}
use Rattle.farm_asks.specs.declared.config.Config.{Config}
use Rattle.farm_asks.specs.declared.reply.Asked.{Asked}
use Rattle.farm_asks.specs.declared.reply.Reply.{Reply}
use Rattle.farm_asks.specs.declared.reply.Reply.TheVariants.{Answered, OutOfMemory, DiskFault}
use Rattle.farm_machine.specs.Changes.{moment_of, reached, changed}
use Rattle.farm_asks.specs.Questions.{Asking}
use Rattle.farm_machine.specs.Entry.{finished, out_of_memory, disk_failed, call}
use Rattle.farm_machine.specs.Planned.{Planned, IsPlanOf}
use Rattle.farm_machine.specs.Replay.{records_by}
use Rattle.farm_machine.specs.State.{State, working}
use Rattle.farm_machine.specs.Step.{MayTick, MayBecome, IsToKeep, after_call, ticks_before, farm_rules}
use Rattle.task_index.specs.Contents.{Contents}
use Rattle.task_index.specs.Due.{is_due, advance}
use Rattle.farm_core.specs.Asking.{ticks_kept, Performs}
use Rattle.farm_core.specs.Bare.{IsResolved}
use Rattle.farm_core.specs.Farm.{state_of, AsksDisk, AreFailedBy}
use Rattle.farm_core.specs.Records.{KeepsRecords}
use Rattle.farm_core.proofs.BareLemmas.{ask-alone, ask-after_tick, may-tick}
use Rattle.farm_core.proofs.PlanLemmas.{planned-finishes}
use Rattle.farm_core.proofs.RecordLemmas.{KeepsRecords-then}

-- what failed in the call of an ask, behind its ticks
failed-by : (tells : Type 0) (config : Config) (old between new : Contents) (asking : Asking) (ticked : Bool) (reply : Reply) (disk : Disk) (end count : ℕ) (disk_now : Disk) (end_now count_now : ℕ) (halted : Bool)
    → (p : Performs tells config between asking reply new disk end count disk_now end_now count_now halted) → ((change : Change) → IsToKeep (working config between) asking change → IsToKeep (end_state farm_rules (working config old) (ticks_before (working config old) asking (record { reply = reply; ticked = ticked }))) asking change)
    → AreFailedBy (working config old) asking (record { reply = reply; ticked = ticked }) (call asking p.outcome) p.failed
failed-by tells config old between new asking ticked reply disk end count disk_now end_now count_now true p there = let lost = p.lost refl in inr (lost.0, ap (call asking) lost.1, there lost.0 lost.2, lost.3)
failed-by tells config old between new asking ticked reply disk end count disk_now end_now count_now false p there = inl (p.whole refl)

-- the records of a call alone
records-alone : (disk : Disk) (end : ℕ) (disk_now : Disk) (end_now : ℕ) (kept failed : List Change) → KeepsRecords disk end disk_now end_now kept failed → KeepsRecords disk end disk_now end_now (kept ++ []) failed
records-alone disk end disk_now end_now kept failed k = subst (λ (l : List Change). KeepsRecords disk end disk_now end_now l failed) (sym (append-nil kept)) k

-- the count of a call alone, and behind a tick
count-alone : (count now : ℕ) (kept : List Change) → now ≡ count + length kept → now ≡ count + length (kept ++ [])
count-alone count now kept is = is ∙ ap (λ (l : List Change). count + length l) (sym (append-nil kept))

count-ticked : (count between now : ℕ) (tick : Change) (kept : List Change) → between ≡ count + 1 → now ≡ between + length kept → now ≡ count + length (tick ∷ (kept ++ []))
count-ticked count between now tick kept first is =
    let same : length (kept ++ []) ≡ length kept = ap length (append-nil kept) in
    omega arith

module _ (tells : Type 0) (config : Config) (old between new : Contents) (asking : Asking) (moment : ℕ) (reply : Reply) (disk : Disk) (end count : ℕ) (disk_between : Disk) (end_between count_between : ℕ) (disk_now : Disk) (end_now count_now : ℕ) (halted : Bool)
    (within : moment ≤ LAST_TOLD_MOMENT) (at : moment ≡ moment_of old asking) (p : Performs tells config between asking reply new disk_between end_between count_between disk_now end_now count_now halted) where
  -- no tick came, and the disk stayed
  asked-alone : IsResolved old moment false between → (tells → KeepsRecords disk end disk_between end_between [] []) → count_between ≡ count + 0 → AsksDisk tells (working config old) disk end count asking (record { reply = reply; ticked = false }) (state_of config new halted) disk_now end_now count_now
  unfolding farm_rules
  asked-alone resolved kept counts =
      let became = subst (λ (b : Contents). MayBecome (working config b) asking p.outcome) resolved.leads p.became in
      let leads = subst (λ (b : Contents). state_of config new halted ≡ after_call (working config b) asking p.outcome) resolved.leads p.leads in
      record {
        call = call asking p.outcome;
        step = ask-alone config old (state_of config new halted) asking p.outcome reply became leads p.told;
        failed = p.failed;
        failed_by = failed-by tells config old between new asking false reply disk_between end_between count_between disk_now end_now count_now halted p
            (λ change keeps. subst (λ (b : Contents). IsToKeep (working config b) asking change) resolved.leads keeps);
        whole = p.whole;
        keeps = λ told. records-alone disk end disk_now end_now (records_by (call asking p.outcome)) p.failed
            (KeepsRecords-then disk end disk_between end_between disk_now end_now [] (records_by (call asking p.outcome)) p.failed (kept told) (p.keeps told));
        counted = count-alone count count_now (records_by (call asking p.outcome)) (omega (arith, counts, p.counted));
      }

  -- a tick came first
  asked-ticked : IsResolved old moment true between → (tells → KeepsRecords disk end disk_between end_between (tick_at moment ∷ []) []) → count_between ≡ count + 1 → AsksDisk tells (working config old) disk end count asking (record { reply = reply; ticked = true }) (state_of config new halted) disk_now end_now count_now
  unfolding farm_rules
  asked-ticked resolved kept counts =
      let goes : between ≡ advance old (moment_of old asking) = rw (← at) resolved.leads in
      let became = subst (λ (b : Contents). MayBecome (working config b) asking p.outcome) goes p.became in
      let leads = subst (λ (b : Contents). state_of config new halted ≡ after_call (working config b) asking p.outcome) goes p.leads in
      record {
        call = call asking p.outcome;
        step = ask-after_tick config old (state_of config new halted) asking p.outcome reply (may-tick config old asking (rw (← at) within) (rw (← at, ← resolved.tells) refl)) became leads p.told;
        failed = p.failed;
        failed_by = failed-by tells config old between new asking true reply disk_between end_between count_between disk_now end_now count_now halted p
            (λ change keeps. subst (λ (b : Contents). IsToKeep (working config b) asking change) goes keeps);
        whole = p.whole;
        keeps = λ told.
            let ticked : KeepsRecords disk end disk_between end_between (tick_at (moment_of old asking) ∷ []) [] = subst (λ (m : ℕ). KeepsRecords disk end disk_between end_between (tick_at m ∷ []) []) at (kept told) in
            let behind = records-alone disk_between end_between disk_now end_now (records_by (call asking p.outcome)) p.failed (p.keeps told) in
            KeepsRecords-then disk end disk_between end_between disk_now end_now (tick_at (moment_of old asking) ∷ []) (records_by (call asking p.outcome) ++ []) p.failed ticked behind;
        counted = count-ticked count count_between count_now (tick_at (moment_of old asking)) (records_by (call asking p.outcome)) counts p.counted;
      }

pub asked-so : (tells : Type 0) (config : Config) (old between new : Contents) (asking : Asking) (moment : ℕ) (ticked : Bool) (reply : Reply) (disk : Disk) (end count : ℕ) (disk_between : Disk) (end_between count_between : ℕ) (disk_now : Disk) (end_now count_now : ℕ) (halted : Bool)
    → moment ≤ LAST_TOLD_MOMENT → moment ≡ moment_of old asking → IsResolved old moment ticked between → (tells → KeepsRecords disk end disk_between end_between (ticks_kept {E = Unit {0}} moment (Ok ticked)) [])
    → count_between ≡ count + length (ticks_kept {E = Unit {0}} moment (Ok ticked)) → Performs tells config between asking reply new disk_between end_between count_between disk_now end_now count_now halted
    → AsksDisk tells (working config old) disk end count asking (record { reply = reply; ticked = ticked }) (state_of config new halted) disk_now end_now count_now
asked-so tells config old between new asking moment true reply disk end count disk_between end_between count_between disk_now end_now count_now halted within at resolved kept counts p =
    asked-ticked tells config old between new asking moment reply disk end count disk_between end_between count_between disk_now end_now count_now halted within at p resolved kept counts
asked-so tells config old between new asking moment false reply disk end count disk_between end_between count_between disk_now end_now count_now halted within at resolved kept counts p =
    asked-alone tells config old between new asking moment reply disk end count disk_between end_between count_between disk_now end_now count_now halted within at p resolved kept counts

-- the tick's record failed
pub asked-failed : (tells : Type 0) (config : Config) (old : Contents) (asking : Asking) (moment : ℕ) (disk : Disk) (end count : ℕ) (disk_now : Disk) (end_now count_now : ℕ)
    → moment ≤ LAST_TOLD_MOMENT → moment ≡ moment_of old asking → is_due old moment ≡ true → (tells → KeepsRecords disk end disk_now end_now [] (tick_at moment ∷ [])) → count_now ≡ count + 0
    → AsksDisk tells (working config old) disk end count asking (record { reply = DiskFault; ticked = false }) (state_of config old true) disk_now end_now count_now
unfolding farm_rules
asked-failed tells config old asking moment disk end count disk_now end_now count_now within at due kept counts =
    let ticks : MayTick (working config old) (moment_of old asking) = may-tick config old asking (rw (← at) within) (rw (← at) due) in
    let keeping : IsToKeep (working config old) asking (tick_at moment) = inl (ticks, ap tick_at at) in
    record {
      call = call asking disk_failed;
      step = ask-alone config old (state_of config old true) asking disk_failed DiskFault (tick_at moment, keeping) refl refl;
      failed = tick_at moment ∷ [];
      failed_by = inr (tick_at moment, refl, keeping, refl);
      whole = λ still. cc;
      keeps = λ told. (kept told);
      counted = counts;
    }

-- ---- a call that is planned

pub performs-out : (tells : Type 0) (config : Config) (old new : Contents) (asking : Asking) (disk : Disk) (end count : ℕ) (disk_now : Disk) (end_now count_now : ℕ)
    → MayBecome (working config old) asking out_of_memory → state_of config new false ≡ after_call (working config old) asking out_of_memory → (tells → KeepsRecords disk end disk_now end_now [] []) → count_now ≡ count + 0
    → Performs tells config old asking OutOfMemory new disk end count disk_now end_now count_now false
performs-out tells config old new asking disk end count disk_now end_now count_now became leads keeps counts =
    record { outcome = out_of_memory; became = became; leads = leads; told = refl; failed = []; whole = λ none. refl; lost = λ some_. cc; keeps = keeps; counted = counts }

module _ (tells : Type 0) (config : Config) (old : Contents) (asking : Asking) (plan : Planned) (disk : Disk) (end count : ℕ) (disk_now : Disk) (end_now count_now : ℕ) (told : plan.moment ≤ LAST_TOLD_MOMENT) (planned : IsPlanOf config old asking plan) where
  -- its change is kept, and made
  pub performs-done : (new : Contents) (reply : Reply) → new ≡ changed old plan.moment plan.judgement.change → reply ≡ Answered plan.judgement.answer
      → (tells → KeepsRecords disk end disk_now end_now (option_to_list plan.judgement.change) []) → count_now ≡ count + length (option_to_list plan.judgement.change) → Performs tells config old asking reply new disk end count disk_now end_now count_now false
  performs-done new reply new_is reply_is keeps counts =
      let P : Reply → Type 0 = λ r. Performs tells config old asking r new disk end count disk_now end_now count_now false in
      subst P (sym reply_is) (record {
        outcome = finished plan.judgement;
        became = planned-finishes config old asking plan told planned;
        leads = rw (new_is, planned.at) refl;
        told = refl;
        failed = [];
        whole = λ none. refl;
        lost = λ some_. cc;
        keeps = keeps;
        counted = counts;
      })

  -- its record failed
  pub performs-lost : (change : Change) → plan.judgement.change ≡ Some change → (tells → KeepsRecords disk end disk_now end_now [] (option_to_list plan.judgement.change)) → count_now ≡ count + 0 → Performs tells config old asking DiskFault old disk end count disk_now end_now count_now true
  performs-lost change is keeps counts =
      let keeping : IsToKeep (working config old) asking change = inr (plan.judgement, planned-finishes config old asking plan told planned, is) in
      let P : Option Change → Type 0 = λ o. KeepsRecords disk end disk_now end_now [] (option_to_list o) in
      record {
        outcome = disk_failed;
        became = (change, keeping);
        leads = refl;
        told = refl;
        failed = change ∷ [];
        whole = λ none. cc;
        lost = λ some_. (change, refl, keeping, refl);
        keeps = λ told_. subst P is (keeps told_);
        counted = counts;
      }

-- memory ran out behind the plan: only the moment is reached
pub performs-planned_out : (tells : Type 0) (config : Config) (old : Contents) (asking : Asking) (plan : Planned) (moment : ℕ) (new : Contents) (disk : Disk) (end count : ℕ) (disk_now : Disk) (end_now count_now : ℕ)
    → moment ≡ plan.moment → moment ≤ LAST_TOLD_MOMENT → IsPlanOf config old asking plan → new ≡ reached old moment → (tells → KeepsRecords disk end disk_now end_now [] []) → count_now ≡ count + 0
    → Performs tells config old asking OutOfMemory new disk end count disk_now end_now count_now false
performs-planned_out tells config old asking plan moment new disk end count disk_now end_now count_now is told planned new_is keeps counts =
    let at : moment ≡ moment_of old asking = is ∙ planned.at in
    performs-out tells config old new asking disk end count disk_now end_now count_now
    (record { at_work = refl; told = omega (arith, at); nothing_due = rw (← planned.at) planned.nothing_due; became = tt }) (rw (new_is, at) refl) keeps counts

-- ---- the same, where the tables and whether the farm halted are known as equations

module _ (tells : Type 0) (config : Config) (asking : Asking) (reply : Reply) (new : Contents) (disk : Disk) (end count : ℕ) (disk_now : Disk) (end_now count_now : ℕ) where
  pub performs-halted : (old : Contents) (one halted : Bool) → halted ≡ one → Performs tells config old asking reply new disk end count disk_now end_now count_now one → Performs tells config old asking reply new disk end count disk_now end_now count_now halted
  performs-halted old one halted is p = subst (λ (b : Bool). Performs tells config old asking reply new disk end count disk_now end_now count_now b) (sym is) p

  pub performs-from : (other old : Contents) (halted : Bool) → other ≡ old → Performs tells config other asking reply new disk end count disk_now end_now count_now halted → Performs tells config old asking reply new disk end count disk_now end_now count_now halted
  performs-from other old halted is p = subst (λ (t : Contents). Performs tells config t asking reply new disk end count disk_now end_now count_now halted) is p

module _ (tells : Type 0) (config : Config) (asking : Asking) (answer : Asked) (disk : Disk) (end count : ℕ) (disk_now : Disk) (end_now count_now : ℕ) where
  pub asks-from : (old : Contents) (one halted : Bool) (new : State) → halted ≡ one → AsksDisk tells (state_of config old one) disk end count asking answer new disk_now end_now count_now → AsksDisk tells (state_of config old halted) disk end count asking answer new disk_now end_now count_now
  asks-from old one halted new is a = subst (λ (b : Bool). AsksDisk tells (state_of config old b) disk end count asking answer new disk_now end_now count_now) (sym is) a

  pub asks-to : (old : State) (one new : Contents) (b halted : Bool) → new ≡ one → halted ≡ b → AsksDisk tells old disk end count asking answer (state_of config one b) disk_now end_now count_now → AsksDisk tells old disk end count asking answer (state_of config new halted) disk_now end_now count_now
  asks-to old one new b halted same is a =
      subst (λ (t : Contents). AsksDisk tells old disk end count asking answer (state_of config t halted) disk_now end_now count_now) (sym same)
      (subst (λ (h : Bool). AsksDisk tells old disk end count asking answer (state_of config one h) disk_now end_now count_now) (sym is) a)
