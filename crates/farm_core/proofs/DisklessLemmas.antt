-- A farm without a disk adds entries in which no disk had a part; nor has one a part in any history that leaves a farm at work.
use Rattle.std.proofs.Common.{◌≡◌, Bool, true, false, List, [], ◌∷◌, ◌++◌, refl}
use Rattle.std.specs.Prelude.{if◌then◌else◌}
use Rattle.history.specs.Histories.{entries, end_state, IsLegal}
use Rattle.farm_asks.specs.declared.reply.Asked.{Asked}
use Rattle.farm_machine.specs.Changes.{moment_of}
use Rattle.farm_asks.specs.Questions.{Asking}
use Rattle.farm_machine.specs.Entry.{Outcome, finished, out_of_memory, disk_failed, was_halted, Entry, tick, call}
use Rattle.farm_machine.specs.State.{State}
use Rattle.farm_machine.specs.Step.{farm_rules}
use Rattle.farm_core.specs.Diskless.{NeedsNoDisk, HaveNoDisk}

pub HaveNoDisk-append : (first second : List Entry) → HaveNoDisk first → HaveNoDisk second → HaveNoDisk (first ++ second)
HaveNoDisk-append [] second none others = others
HaveNoDisk-append (entry ∷ first) second none others = (none.0, HaveNoDisk-append first second none.1 others)

pub HaveNoDisk-asked : (state : State) (asking : Asking) (answer : Asked) (outcome : Outcome) → NeedsNoDisk outcome → HaveNoDisk (entries farm_rules state asking answer (call asking outcome))
unfolding farm_rules
HaveNoDisk-asked state asking answer outcome none = by answer.ticked
  where
    by : (ticked : Bool) → HaveNoDisk ((if ticked then tick (moment_of state.contents asking) ∷ [] else []) ++ call asking outcome ∷ [])
    by true = (tt, (none, tt))
    by false = (none, tt)

-- once a farm has halted it stays so
halted-stays : (state : State) (history : List Entry) → state.halted ≡ true → IsLegal farm_rules state history → (end_state farm_rules state history).halted ≡ true
unfolding farm_rules
halted-stays state [] halted legal = halted
halted-stays state (tick moment ∷ history) halted legal = halted-stays (farm_rules.after state (tick moment)) history halted legal.1
halted-stays state (call asking (finished judgement) ∷ history) halted legal = halted-stays (farm_rules.after state (call asking (finished judgement))) history halted legal.1
halted-stays state (call asking out_of_memory ∷ history) halted legal = halted-stays (farm_rules.after state (call asking out_of_memory)) history halted legal.1
halted-stays state (call asking disk_failed ∷ history) halted legal = halted-stays (record state { halted = true }) history refl legal.1
halted-stays state (call asking was_halted ∷ history) halted legal = halted-stays state history halted legal.1

pub HaveNoDisk-at_work : (state : State) (history : List Entry) → IsLegal farm_rules state history → (end_state farm_rules state history).halted ≡ false → HaveNoDisk history
unfolding farm_rules
HaveNoDisk-at_work state [] legal still = tt
HaveNoDisk-at_work state (tick moment ∷ history) legal still = (tt, HaveNoDisk-at_work (farm_rules.after state (tick moment)) history legal.1 still)
HaveNoDisk-at_work state (call asking (finished judgement) ∷ history) legal still = (tt, HaveNoDisk-at_work (farm_rules.after state (call asking (finished judgement))) history legal.1 still)
HaveNoDisk-at_work state (call asking out_of_memory ∷ history) legal still = (tt, HaveNoDisk-at_work (farm_rules.after state (call asking out_of_memory)) history legal.1 still)
HaveNoDisk-at_work state (call asking disk_failed ∷ history) legal still = let fell = halted-stays (record state { halted = true }) history refl legal.1 in cc
HaveNoDisk-at_work state (call asking was_halted ∷ history) legal still = let fell = halted-stays state history legal.0 legal.1 in cc
