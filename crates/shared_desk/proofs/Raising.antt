-- A raise keeps the rule of a shared desk, wherever the desk began.
use Rattle.std.proofs.Common.{◌≡◌, ℕ, ◌+◌, ◌%◌, ◌^◌, List, sym, ap, ◌∙◌, subst}
use Rattle.std.proofs.Common.{get_or}
use mathlib.Core.Option.{some}
use Rattle.atomic_table.specs.Table.{Me, gives, put_back, rest, stepped, Allows}
use Rattle.history.specs.Rules.{Rules}
use Rattle.shared_desk.specs.declared.view.View.{View}
use Rattle.shared_desk.specs.Views.{gone_on}
use Rattle.shared_desk.specs.Rule.{IsKept, asked_entries, asked_place, MayRaise, raised}
use Rattle.shared_desk.proofs.Lists.{one_set}
use Rattle.shared_desk.proofs.Kept.{raise_kept}

module _ {O P Q A S E R : Type 0} (r : Rules Q A S E R) (start : P → S) (state : O → S) (holds : O → P → List E → Type 0) where
  pub raises : (first : O) (slots id : ℕ) (me : Me O (View O E)) (asked : Q → A → Type 0) → MayRaise r start state holds asked me → slots ≡ 1
      → Allows (IsKept r start state holds first) slots id me 1 (λ n. (n + 1) % 2 ^ 64) (λ n after. raised r state asked me after)
  raises first slots id me asked may one s k size at low =
      let made = may.2 in
      let same : made.first ≡ first = (k.fits id me.0 at).0 made.first made.began in
      let kept = raise_kept r start state holds made.first s (subst (λ z. IsKept r start state holds z s) (sym same) k) id me.0 may.0 (put_back s.homes me.1) made.object made.question made.answer made.call at may.1
      (ap (put_back s.homes) made.has ∙ one_set s.homes (some made.object) (size ∙ one)) made.ask may.3 in
      let next = gone_on me.0 (asked_entries r state made.first me.0.seen made.question made.answer made.call) (asked_place r state made.first me.0.seen made.question made.answer) in
      (next, gives, tt, subst (λ z. IsKept r start state holds z (stepped s 1 ((get_or s.words 1 0 + 1) % 2 ^ 64) id me.1 next gives)) same kept, (made, ap (λ c. (next, rest c)) made.has))
