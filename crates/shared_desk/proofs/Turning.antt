-- One ask in turn, put together from its steps.
use Rattle.std.proofs.Common.{◌≡◌, ℕ, List, [], ◌∷◌, ◌++◌, refl, sym, ap, ◌∙◌, subst, Some, option_map}
use Rattle.atomic_table.specs.Table.{Me}
use Rattle.atomic_table.specs.Seated.{TableId}
use Rattle.history.specs.Rules.{Rules}
use Rattle.history.specs.Histories.{entries, end_state, IsLegal, Leads}
use Rattle.history.specs.Asks.{IsAsk}
use Rattle.history.proofs.AsksLemmas.{Leads-ask}
use Rattle.shared_desk.specs.declared.view.View.{View}
use Rattle.shared_desk.specs.Views.{waiting, holding, gone_on}
use Rattle.shared_desk.specs.Rule.{Bears, HasTaken, asked_entries, asked_place, MayRaise, raised, IsAtRest, HasAskedObject, HasTurn, standing}

-- the value of the first slot, or this one
abbrev slot_or : {O : Type 0} → O → List (ℕ × O) → O
slot_or one [] = one
slot_or one (slot ∷ slots) = slot.1

module _ {O P Q A S E R : Type 0} (r : Rules Q A S E R) (start : P → S) (state : O → S) (holds : O → P → List E → Type 0) where
  -- an object that bears a history bears it with an ask's entries after the ask
  bears_ask : (first old new : O) (log : List E) (question : Q) (answer : A) (call : E) → IsLegal r (state first) log → Bears r start state holds first log old → IsAsk r (state old) question answer call (state new)
      → ((opening : P) (seen : List E) → Leads r (start opening) seen (state old) → holds old opening seen → holds new opening (seen ++ entries r (state old) question answer call))
      → Bears r start state holds first (log ++ asked_entries r state first log question answer call) new
  bears_ask first old new log question answer call legal bears ask goes_on =
      let ends = bears.0 in
      let asked = subst (λ z. IsAsk r z question answer call (state new)) ends ask in (
        (Leads-ask r (state first) log (end_state r (state first) log) question answer call (state new) (legal, refl) asked).1,
        λ opening is held. subst (λ z. holds new opening (log ++ entries r z question answer call)) ends
            (goes_on opening log (subst (λ z. IsLegal r z log) (sym is) legal, ends ∙ ap (λ z. end_state r z log) (sym is)) (bears.1 opening is held)),
      )

  -- a caller that took the object and asked it
  may_raise_at : (view : View O E) (first old new : O) (log : List E) (ticket : ℕ) (question : Q) (answer : A) (call : E) (asked : Q → A → Type 0) → view.first ≡ Some first → asked question answer
      → IsLegal r (state first) log → Bears r start state holds first log old → IsAsk r (state old) question answer call (state new)
      → ((opening : P) (seen : List E) → Leads r (start opening) seen (state old) → holds old opening seen → holds new opening (seen ++ entries r (state old) question answer call))
      → MayRaise r start state holds asked (holding view log ticket, (0, new) ∷ [])
  may_raise_at view first old new log ticket question answer call asked began such legal bears ask goes_on = (
    ticket,
    refl,
    record { first = first; object = new; question = question; answer = answer; call = call; began = began; has = refl; is_such = such; ask = subst (λ z. IsAsk r z question answer call (state new)) bears.0 ask },
    bears_ask first old new log question answer call legal bears ask goes_on,
  )

  -- the object that was asked is the one that was taken
  same_object : (held : Me O (View O E)) (one other : O) (more : List (ℕ × O)) → held.1 ≡ (0, one) ∷ more → held.1 ≡ (0, other) ∷ [] → one ≡ other
  same_object held one other more first second =
      let heads : (0, one) ∷ more ≡ (0, other) ∷ [] = sym first ∙ second in
      ap (λ (l : List (ℕ × O)). slot_or one l) heads

  -- after the ask the caller may give the object back
  pub may_raise : (me waited held after : Me O (View O E)) (ticket : ℕ) (question : Q) (answer : A) (asked : Q → A → Type 0) → IsAtRest r state me → waited ≡ (waiting me.0 ticket, []) → HasTaken r start state holds waited ticket held
      → HasAskedObject r start state holds held question answer after → asked question answer → MayRaise r start state holds asked after
  may_raise me waited held after ticket question answer asked rest waits taken asks such =
      let first = rest.2.0 in
      let began : waited.0.first ≡ Some first = ap (λ (m : Me O (View O E)). m.0.first) waits ∙ rest.2.1 in
      let told = taken.4 first began in
      let same : taken.1 ≡ asks.0 = same_object held taken.1 asks.0 waited.1 (ap (λ (m : Me O (View O E)). m.1) taken.2) asks.3 in
      let is : (holding waited.0 taken.0 ticket, (0, asks.1) ∷ []) ≡ after = sym (asks.4 ∙ ap (λ (m : Me O (View O E)). (m.0, (0, asks.1) ∷ [])) taken.2) in
      subst (MayRaise r start state holds asked) is
      (may_raise_at waited.0 first asks.0 asks.1 taken.0 ticket question answer asks.2 asked began such told.0 (subst (Bears r start state holds first taken.0) same told.1) asks.5 asks.6)

  -- and when it has, the ask is made
  pub turn_made : (table : TableId) (me waited held after final : Me O (View O E)) (ticket : ℕ) (question : Q) (answer : A) → IsAtRest r state me → waited ≡ (waiting me.0 ticket, []) → HasTaken r start state holds waited ticket held
      → HasAskedObject r start state holds held question answer after → raised r state (λ q a. (q ≡ question) × (a ≡ answer)) after final → HasTurn r (standing state table me.0) question answer (standing state table final.0) × IsAtRest r state final
  turn_made table me waited held after final ticket question answer rest waits taken asks raise =
      let made = raise.0 in
      let first = made.first in
      let log = taken.0 in
      let viewed : after.0 ≡ holding waited.0 log ticket = ap (λ (m : Me O (View O E)). m.0) asks.4 ∙ ap (λ (m : Me O (View O E)). m.0) taken.2 in
      let waited_view : waited.0 ≡ waiting me.0 ticket = ap (λ (m : Me O (View O E)). m.0) waits in
      let began : waited.0.first ≡ Some first = sym (ap (λ (v : View O E). v.first) viewed) ∙ made.began in
      let between = taken.3.0 in
      let log_is : log ≡ me.0.seen ++ between = sym (ap (λ (v : View O E). v.seen ++ between) (sym waited_view) ∙ taken.3.1) in
      let view_is : after.0 ≡ holding (waiting me.0 ticket) (me.0.seen ++ between) ticket = viewed ∙ (λ i. holding (waited_view i) (log_is i) ticket) in
      let seen_is : after.0.seen ≡ me.0.seen ++ between = ap (λ (v : View O E). v.seen) view_is in
      let old = end_state r (state first) (me.0.seen ++ between) in
      let legal : IsLegal r (state first) (me.0.seen ++ between) = subst (IsLegal r (state first)) log_is (taken.4 first began).0 in
      let ask : IsAsk r old question answer made.call (state made.object) =
      subst (λ (z : List E × (Q × A)). IsAsk r (end_state r (state first) z.0) z.1.0 z.1.1 made.call (state made.object)) (λ i. (seen_is i, (made.is_such.0 i, made.is_such.1 i))) made.ask in
      let went : final ≡ (gone_on (holding (waiting me.0 ticket) (me.0.seen ++ between) ticket) (asked_entries r state first (me.0.seen ++ between) question answer made.call) (asked_place r state first (me.0.seen ++ between) question answer), []) =
      raise.1 ∙ (λ i. (gone_on (view_is i) (asked_entries r state first (seen_is i) (made.is_such.0 i) (made.is_such.1 i) made.call) (asked_place r state first (seen_is i) (made.is_such.0 i) (made.is_such.1 i)), [])) in
      let mine_began : me.0.first ≡ Some first = sym (ap (λ (v : View O E). v.first) waited_view) ∙ began in (
        record {
          opening = state first;
          between = between;
          old = old;
          call = made.call;
          new = state made.object;
          began = ap (option_map state) mine_began;
          led = (legal, refl);
          ask = ask;
          went = ap (λ (m : Me O (View O E)). standing state table m.0) went;
        },
        subst (IsAtRest r state) (sym went) (refl, refl, (first, mine_began, (Leads-ask r (state first) (me.0.seen ++ between) old question answer made.call (state made.object) (legal, refl) ask).0)),
      )
