-- An ask of a farm without a disk is one lawful step.
use Rattle.std.proofs.Common.{◌≡◌, ℕ, ◌≤◌, Bool, true, false, Some, refl, sym, ap, subst, arith}
use Rattle.history.specs.Asks.{IsAsk}
use Rattle.farm_text.specs.declared.moment.TheConstants.{LAST_TOLD_MOMENT}
use Rattle.farm_asks.specs.declared.config.Config.{Config}
use Rattle.farm_asks.specs.declared.reply.Reply.{Reply}
use Rattle.farm_machine.specs.Changes.{moment_of}
use Rattle.task_index.specs.Due.{is_due, advance}
use Rattle.farm_asks.specs.Questions.{Asking}
use Rattle.farm_machine.specs.Entry.{Outcome, call}
use Rattle.task_index.specs.Contents.{Contents}
use Rattle.farm_machine.specs.State.{State, working}
use Rattle.farm_machine.specs.Step.{MayTick, MayBecome, after_call, reply_to, farm_rules}
use Rattle.task_index.proofs.AdvanceLemmas.{advance-none}
use Rattle.farm_core.specs.Bare.{IsResolved, IsPerformed}

-- the moment of a call stays, where it was reached
advance-moment : (old : Contents) (moment : ℕ) (asking : Asking) → moment ≡ moment_of old asking → moment_of (advance old moment) asking ≡ moment
unfolding advance
advance-moment old moment asking at = omega (arith, at)

-- where all that was due is resolved, nothing is due at the moment of the call
pub IsResolved-nothing_due : (old : Contents) (moment : ℕ) (ticked : Bool) (new : Contents) (asking : Asking) → IsResolved old moment ticked new → moment ≡ moment_of old asking → is_due new (moment_of new asking) ≡ false
IsResolved-nothing_due old moment false new asking resolved at =
    let none : is_due old moment ≡ false = sym resolved.tells in
    subst (λ (b : Contents). is_due b (moment_of b asking) ≡ false) (sym resolved.leads) (rw (← at) none)
IsResolved-nothing_due old moment true new asking resolved at =
    subst (λ (b : Contents). is_due b (moment_of b asking) ≡ false) (sym resolved.leads) (rw (advance-moment old moment asking at) (advance-none old moment))

-- no tick came
pub ask-alone : (config : Config) (old : Contents) (now : State) (asking : Asking) (outcome : Outcome) (reply : Reply) → MayBecome (working config old) asking outcome → now ≡ after_call (working config old) asking outcome → reply ≡ reply_to outcome → IsAsk farm_rules (working config old) asking (record { reply = reply; ticked = false }) (call asking outcome) now
unfolding farm_rules
ask-alone config old now asking outcome reply became leads tells = record {
  legal = (became, tt);
  leads = leads;
  quiet = λ place. refl;
  asked = refl;
  reply = ap Some (sym tells);
}

-- a tick came first
pub ask-after_tick : (config : Config) (old : Contents) (now : State) (asking : Asking) (outcome : Outcome) (reply : Reply) → MayTick (working config old) (moment_of old asking) → MayBecome (working config (advance old (moment_of old asking))) asking outcome → now ≡ after_call (working config (advance old (moment_of old asking))) asking outcome → reply ≡ reply_to outcome → IsAsk farm_rules (working config old) asking (record { reply = reply; ticked = true }) (call asking outcome) now
unfolding farm_rules
ask-after_tick config old now asking outcome reply ticks became leads tells = record {
  legal = (ticks, (became, tt));
  leads = leads;
  quiet = λ place. refl;
  asked = refl;
  reply = ap Some (sym tells);
}

-- a tick may come at the moment of a call, where something is due at it
pub may-tick : (config : Config) (old : Contents) (asking : Asking) → moment_of old asking ≤ LAST_TOLD_MOMENT → is_due old (moment_of old asking) ≡ true → MayTick (working config old) (moment_of old asking)
may-tick config old asking within due = record { at_work = refl; not_before = omega arith; told = within; due = due }

-- what was due goes, and the call is performed
pub IsAsk-from_parts : (config : Config) (old between new : Contents) (asking : Asking) (moment : ℕ) (ticked : Bool) (reply : Reply) → moment ≤ LAST_TOLD_MOMENT → moment ≡ moment_of old asking → IsResolved old moment ticked between → (performed : IsPerformed config between asking reply new) → IsAsk farm_rules (working config old) asking (record { reply = reply; ticked = ticked }) (call asking performed.outcome) (working config new)
IsAsk-from_parts config old between new asking moment false reply within at resolved performed =
    let became = subst (λ (b : Contents). MayBecome (working config b) asking performed.outcome) resolved.leads performed.became in
    let leads = subst (λ (b : Contents). working config new ≡ after_call (working config b) asking performed.outcome) resolved.leads performed.leads in
    ask-alone config old (working config new) asking performed.outcome reply became leads performed.told
IsAsk-from_parts config old between new asking moment true reply within at resolved performed =
    let goes : between ≡ advance old (moment_of old asking) = rw (← at) resolved.leads in
    let became = subst (λ (b : Contents). MayBecome (working config b) asking performed.outcome) goes performed.became in
    let leads = subst (λ (b : Contents). working config new ≡ after_call (working config b) asking performed.outcome) goes performed.leads in
    ask-after_tick config old (working config new) asking performed.outcome reply (may-tick config old asking (rw (← at) within) (rw (← at, ← resolved.tells) refl)) became leads performed.told
