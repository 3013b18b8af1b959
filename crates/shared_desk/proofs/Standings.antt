-- What an ask and a join do to what a caller stands for.
use Rattle.std.proofs.Common.{◌≡◌, ◌≢◌, ℕ, List, [], ◌++◌, refl, sym, ap, ◌∙◌, subst, Some, AllPairs, option_map}
use mathlib.Core.List.{IsPrefix}
use Rattle.atomic_table.specs.Table.{Me}
use Rattle.atomic_table.specs.Seated.{TableId}
use Rattle.history.specs.Rules.{Rules}
use Rattle.history.specs.Histories.{IsLegal, Leads}
use Rattle.history.specs.Asks.{HasAsked}
use Rattle.history.proofs.AsksLemmas.{Leads-ask, HasAsked-leads}
use Rattle.shared_desk.specs.declared.view.View.{View}
use Rattle.shared_desk.specs.Standing.{Standing, AreJoined, StandsFor}
use Rattle.shared_desk.specs.Views.{merged}
use Rattle.shared_desk.specs.Rule.{HasLearned, HasTurn, standing}

-- two callers that were put together
pub joined : {O Q A S E R : Type 0} (r : Rules Q A S E R) (state : O → S) (table other after_table : TableId) (view another : View O E) (after : Me O (View O E)) → after_table ≡ table → HasLearned r state (merged view another, []) after → AreJoined (standing state table view) (standing state other another) (standing state after_table after.0)
joined {O = O} {E = E} r state table other after_table view another after same learned =
    let is = learned.1 in
    let seen : after.0.seen ≡ learned.0 = ap (λ (m : Me O (View O E)). m.0.seen) is in
    let mine : after.0.mine ≡ view.mine ++ another.mine = ap (λ (m : Me O (View O E)). m.0.mine) is in
    record {
      desk = same;
      opening = ap (λ (m : Me O (View O E)). option_map state m.0.first) is;
      seen = subst (IsPrefix view.seen) (sym seen) learned.2;
      told = subst (IsPrefix another.seen) (sym seen) (learned.3 another.seen refl);
      mine = mine;
      once = subst (AllPairs (λ place other. place ≢ other)) (sym mine) learned.5;
      left = ap (λ (m : Me O (View O E)). m.0.left) is;
    }

-- what they have then seen is legal
pub joined_legal : {O Q A S E R : Type 0} (r : Rules Q A S E R) (state : O → S) (view another : View O E) (after : Me O (View O E)) (first : O) → view.first ≡ Some first → HasLearned r state (merged view another, []) after
    → (opening : S) → option_map state after.0.first ≡ Some opening → IsLegal r opening after.0.seen
joined_legal {O = O} {S = S} {E = E} r state view another after first began learned opening is =
    let now : option_map state after.0.first ≡ Some (state first) = ap (λ (m : Me O (View O E)). option_map state m.0.first) learned.1 ∙ ap (option_map state) began in
    let same : state first ≡ opening = cc (now, is) in
    let seen : after.0.seen ≡ learned.0 = ap (λ (m : Me O (View O E)). m.0.seen) learned.1 in
    subst (λ (z : S × List E). IsLegal r z.0 z.1) (λ i. (same i, sym seen i)) (learned.4 first began)

module _ {P Q A S E R : Type 0} (r : Rules Q A S E R) (start : P → S) where
  -- an ask of one that stands for its own history and places
  asked_there : (before after : Standing S E) (question : Q) (answer : A) (turn : HasTurn r before question answer after) (opening : P) → start opening ≡ turn.opening → HasAsked r (StandsFor r start after opening) (start opening) before.seen before.mine question answer
  asked_there before after question answer turn opening same =
      let leads = subst (λ z. Leads r z (before.seen ++ turn.between) turn.old) (sym same) turn.led in
      let goes_on = Leads-ask r (start opening) (before.seen ++ turn.between) turn.old question answer turn.call turn.new leads turn.ask in
      HasAsked-leads r (StandsFor r start after opening) (start opening) before.seen turn.between before.mine turn.old question answer turn.call turn.new leads turn.ask
      (sym (ap (λ (s : Standing S E). s.seen) turn.went), sym (ap (λ (s : Standing S E). s.mine) turn.went), ap (λ (s : Standing S E). s.opening) turn.went ∙ (turn.began ∙ ap Some (sym same)), goes_on.0)

  pub asked_by : (before after : Standing S E) (question : Q) (answer : A) → HasTurn r before question answer after → (opening : P) (seen : List E) (mine : List ℕ) → StandsFor r start before opening seen mine → HasAsked r (StandsFor r start after opening) (start opening) seen mine question answer
  asked_by before after question answer turn opening seen mine stood =
      let same : start opening ≡ turn.opening = cc (stood.2, turn.began) in
      subst (λ (z : List E × List ℕ). HasAsked r (StandsFor r start after opening) (start opening) z.0 z.1 question answer) (λ i. (sym stood.0 i, sym stood.1 i))
      (asked_there before after question answer turn opening same)
