-- In a state a question and a reply have one entry.
use Rattle.std.proofs.Common.{◌≡◌, Some, refl, ap, ◌∙◌, sym, subst}
use Rattle.history.specs.Asks.{HasOneEntry}
use Rattle.farm_asks.specs.Questions.{Asking}
use Rattle.farm_machine.specs.Entry.{Outcome, finished, out_of_memory, disk_failed, was_halted, Entry, tick, call}
use Rattle.farm_machine.specs.State.{State}
use Rattle.farm_machine.specs.Step.{MayBecome, lawful, asked, reply_to, reply, farm_rules}
use Rattle.farm_machine.proofs.VerdictLemmas.{IsVerdict-one}

-- calls that are replied alike became the same
one_outcome : (state : State) (asking : Asking) (first second : Outcome) → MayBecome state asking first → MayBecome state asking second → reply_to first ≡ reply_to second → first ≡ second
one_outcome state asking (finished a) (finished b) p q same = ap finished (IsVerdict-one state asking a b p.became.verdict q.became.verdict)
one_outcome state asking (finished a) out_of_memory p q same = cc
one_outcome state asking (finished a) disk_failed p q same = cc
one_outcome state asking (finished a) was_halted p q same = cc
one_outcome state asking out_of_memory (finished b) p q same = cc
one_outcome state asking out_of_memory out_of_memory p q same = refl
one_outcome state asking out_of_memory disk_failed p q same = cc
one_outcome state asking out_of_memory was_halted p q same = cc
one_outcome state asking disk_failed (finished b) p q same = cc
one_outcome state asking disk_failed out_of_memory p q same = cc
one_outcome state asking disk_failed disk_failed p q same = refl
one_outcome state asking disk_failed was_halted p q same = cc
one_outcome state asking was_halted (finished b) p q same = cc
one_outcome state asking was_halted out_of_memory p q same = cc
one_outcome state asking was_halted disk_failed p q same = cc
one_outcome state asking was_halted was_halted p q same = refl

one_entry : (state : State) (question : Asking) (entry other : Entry) → lawful state entry → lawful state other → asked entry ≡ Some question → asked other ≡ Some question → reply state entry ≡ reply state other → entry ≡ other
one_entry state question (tick moment) other p q asks too same = cc
one_entry state question (call asking outcome) (tick moment) p q asks too same = cc
one_entry state question (call asking outcome) (call others another) p q asks too same =
    let alike : others ≡ asking = cc in
    let replies : reply_to outcome ≡ reply_to another = cc in
    let P : Asking → Type 0 = λ a. MayBecome state a another in
    ap (call asking) (one_outcome state asking outcome another p (subst P alike q) replies) ∙ ap (λ a. call a another) (sym alike)

pub HasOneEntry-farm : HasOneEntry farm_rules
unfolding farm_rules
HasOneEntry-farm = one_entry
