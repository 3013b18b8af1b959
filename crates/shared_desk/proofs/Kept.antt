-- Each step of a shared desk keeps its rule.
use Rattle.std.proofs.Common.{◌≡◌, ◌≢◌, ℕ, zero, suc, ◌+◌, ◌%◌, ◌^◌, ◌<◌, ◌≤◌, inl, inr, List, [], ◌∷◌, ◌++◌, length, set, get_or, refl, sym, ap, ◌∙◌, subst, ⊎_elim, arith, length-append, Some, None, eqb, eq-eqb, ne_eqb, MatchBool, AllPairs, mod-eq_of_lt}
use Rattle.std.proofs.lemmas.List.{set-get_or}
use mathlib.Core.Option.{some, none, some-ne-none, some-injective}
use mathlib.Core.Logic.{dite}
use native.Mathlib.Decide.{ℕ_discrete}
use lib.ListN.{get_elem?}
use Rattle.atomic_table.specs.Table.{State, Me, keeps, takes, Allows, Splits, Joins, opening}
use Rattle.atomic_table.proofs.Lists.{at_set, at_snoc, set_here, set_else, set_again, at_longer}
use Rattle.history.specs.Rules.{Rules}
use Rattle.history.specs.Histories.{end_state, IsLegal, calls_of}
use Rattle.history.specs.Asks.{IsAsk, AreEntries, LeadsAlone}
use Rattle.history.proofs.AsksLemmas.{LeadsAlone-none, LeadsAlone-ask}
use Rattle.history.proofs.HistoriesLemmas.{calls_of-rise}
use Rattle.shared_desk.specs.declared.view.Stage.{Stage}
use Rattle.shared_desk.specs.declared.view.Stage.TheVariants.{Idle, Merged, Waiting, Holding}
use Rattle.shared_desk.specs.declared.view.View.{View}
use Rattle.shared_desk.specs.Views.{total, ticket_of, newcomer, spent, fewer, fresh, merged, waiting, holding, gone_on, sees, drawn}
use Rattle.shared_desk.specs.Rule.{Bears, FitsStage, Fits, AreApart, IsPlaced, IsKept, HasTaken, looked, asked_entries, asked_place, HasLearned}
use Rattle.shared_desk.proofs.Lists.{total-append, total_set, total_has, total_ones, prefix_self, prefix_more, each_set, each_push, one_there, inside, distinct_below}

-- a caller with no ticket, or one that waits, does not have the object
not_holding : {E : Type 0} (stage : Stage E) (ticket : ℕ) → ticket_of stage ≡ None → stage ≡ Holding ticket → ⊥
not_holding stage ticket quiet holds = cc (quiet, ap ticket_of holds)

module _ {O P Q A S E R : Type 0} (r : Rules Q A S E R) (start : P → S) (state : O → S) (holds : O → P → List E → Type 0) (first : O) where
  -- more tickets drawn
  stage_later : (log : List E) (drawn drawn' served : ℕ) (view : View O E) (stage : Stage E) → drawn ≤ drawn' → FitsStage r log drawn served view stage → FitsStage r log drawn' served view stage
  stage_later log drawn drawn' served view Idle more fits = fits
  stage_later log drawn drawn' served view (Merged told) more fits = fits
  stage_later log drawn drawn' served view (Waiting ticket) more fits = (fits.0, omega (arith, fits.1))
  stage_later log drawn drawn' served view (Holding ticket) more fits = (fits.0, omega (arith, fits.1), fits.2)

  fits_later : (log : List E) (drawn drawn' served : ℕ) (view : View O E) → drawn ≤ drawn' → Fits r first log drawn served view → Fits r first log drawn' served view
  fits_later log drawn drawn' served view more fits = (fits.0, fits.1, stage_later log drawn drawn' served view view.stage more fits.2)

  -- the object is where it was, when a view changes that does not have it
  placed_set : (log : List E) (served : ℕ) (homes : List (mathlib.Core.Option.Option O)) (views : List (View O E)) (id : ℕ) (view next : View O E) → get_elem? views id ≡ some view
      → ((ticket : ℕ) → view.stage ≡ Holding ticket → ⊥) → IsPlaced r start state holds first log served homes views → IsPlaced r start state holds first log served homes (set views id next)
  placed_set log served homes views id view next at free placed = ⊎_elim
      (λ home. inl home)
      (λ out. inr (out.0, (out.1.0, out.1.1, set_else views id out.1.0 next (λ same. free served (ap (λ (v : View O E). v.stage) (one_there views id out.1.0 view out.1.1 at out.1.2 (sym same)) ∙ out.1.3)) ∙ out.1.2, out.1.3)))
      placed

  -- a ticket that was drawn and is not yet served
  ticket_between : (log : List E) (drawn served : ℕ) (view : View O E) (stage : Stage E) (ticket : ℕ) → FitsStage r log drawn served view stage → ticket_of stage ≡ Some ticket → (served ≤ ticket) × (ticket < drawn)
  ticket_between log drawn served view Idle ticket fits is = absurd cc
  ticket_between log drawn served view (Merged told) ticket fits is = absurd cc
  ticket_between log drawn served view (Waiting t) ticket fits is = let same : t ≡ ticket = cc is in (omega (arith, fits.0), omega (arith, fits.1))
  ticket_between log drawn served view (Holding t) ticket fits is = let same : t ≡ ticket = cc is in (omega (arith, fits.0), omega (arith, fits.1))

  -- no two callers have one ticket, after a view changes to one with a ticket that no other has
  apart_set : (views : List (View O E)) (id : ℕ) (next : View O E) → AreApart views
      → ((ticket : ℕ) (j : ℕ) (view : View O E) → ticket_of next.stage ≡ Some ticket → j ≢ id → get_elem? views j ≡ some view → ticket_of view.stage ≡ Some ticket → ⊥)
      → AreApart (set views id next)
  apart_set views id next apart alone i j view another ticket at there mine its = ⊎_elim
      (λ here. ⊎_elim
      (λ too. here.0 ∙ sym too.0)
      (λ else. absurd (alone ticket j another (ap (λ (v : View O E). ticket_of v.stage) here.1 ∙ mine) else.0 else.1 its))
      (at_set views id j next another there))
      (λ else. ⊎_elim
      (λ here. absurd (alone ticket i view (ap (λ (v : View O E). ticket_of v.stage) here.1 ∙ its) else.0 else.1 mine))
      (λ too. apart i j view another ticket else.1 too.1 mine its)
      (at_set views id j next another there))
      (at_set views id i next view at)

  -- a caller without a ticket that comes has none that another has
  apart_push : (views : List (View O E)) (next : View O E) → ticket_of next.stage ≡ None → AreApart views → AreApart (views ++ next ∷ [])
  apart_push views next quiet apart i j view another ticket at there mine its =
      let not_new : (v : View O E) → ticket_of v.stage ≡ Some ticket → next ≡ v → ⊥ = λ v has is. cc (quiet, ap (λ (w : View O E). ticket_of w.stage) is, has) in
      ⊎_elim
      (λ here. ⊎_elim (λ too. apart i j view another ticket here too mine its) (λ new. absurd (not_new another its new)) (at_snoc views next another j there))
      (λ new. absurd (not_new view mine new))
      (at_snoc views next view i at)

  -- the object is where it was, when a caller comes
  placed_push : (log : List E) (served : ℕ) (homes : List (mathlib.Core.Option.Option O)) (views : List (View O E)) (next : View O E) → IsPlaced r start state holds first log served homes views → IsPlaced r start state holds first log served homes (views ++ next ∷ [])
  placed_push log served homes views next placed = ⊎_elim
      (λ home. inl home)
      (λ out. inr (out.0, (out.1.0, out.1.1, at_longer views (next ∷ []) out.1.0 out.1.1 out.1.2, out.1.3)))
      placed

  -- after a step that leaves the history as it is
  same_history : (s : State O (View O E)) (k : IsKept r start state holds first s) (id : ℕ) (view next : View O E) (words : List ℕ) (homes : List (mathlib.Core.Option.Option O)) (drawn : ℕ)
      → get_elem? s.views id ≡ some view
      → words ≡ drawn ∷ length k.calls ∷ []
      → k.drawn ≤ drawn
      → IsPlaced r start state holds first k.log (length k.calls) homes (set s.views id next)
      → Fits r first k.log drawn (length k.calls) next
      → ((ticket : ℕ) (j : ℕ) (v : View O E) → ticket_of next.stage ≡ Some ticket → j ≢ id → get_elem? s.views j ≡ some v → ticket_of v.stage ≡ Some ticket → ⊥)
      → drawn + next.left ≡ k.drawn + view.left
      → next.mine ≡ view.mine
      → IsKept r start state holds first record { words = words; homes = homes; views = set s.views id next }
  same_history s k id view next words homes drawn at words_are more placed fits alone asks mine = record {
    log = k.log;
    drawn = drawn;
    calls = k.calls;
    now = k.now;
    words_are = words_are;
    bounded = let b = k.bounded in omega arith;
    made = k.made;
    placed = placed;
    fits = each_set (Fits r first k.log drawn (length k.calls)) s.views id next fits (λ j v other there. fits_later k.log k.drawn drawn (length k.calls) v more (k.fits j v there));
    apart = apart_set s.views id next k.apart alone;
    asks = let t = total_set (λ (v : View O E). v.left) s.views id view next at in let a = k.asks in omega arith;
    places = λ f. let t = total_set (λ (v : View O E). total f v.mine) s.views id view next at in let p = k.places f in let m = ap (total f) mine in omega arith;
  }

  -- the first word after a draw
  words_drawn : (words : List ℕ) (drawn served : ℕ) → words ≡ drawn ∷ served ∷ [] → drawn < 9223372036854775808 → set words 0 ((get_or words 0 0 + 1) % 2 ^ 64) ≡ (drawn + 1) ∷ served ∷ []
  words_drawn words drawn served are low = rw are (ap (λ n. n ∷ served ∷ []) (mod-eq_of_lt (omega arith)))

  words_read : (words : List ℕ) (drawn served : ℕ) → words ≡ drawn ∷ served ∷ [] → (get_or words 0 0 ≡ drawn) × (get_or words 1 0 ≡ served)
  words_read words drawn served are = (ap (λ ws. get_or ws 0 0) are, ap (λ ws. get_or ws 1 0) are)

  -- a waiting caller's view fits
  pub draws : (slots id : ℕ) (me : Me O (View O E)) → me.0.stage ≡ Idle → me.1 ≡ [] → 0 < me.0.left
      → Allows (IsKept r start state holds first) slots id me 0 (λ n. (n + 1) % 2 ^ 64) (drawn {O = O} {E = E} record { slots = slots; word = 0; first = 1; second = 0; said = none } me)
  draws slots id me idle free spare s k size at low =
      let next = waiting me.0 (get_or s.words 0 0) in
      let read = words_read s.words k.drawn (length k.calls) k.words_are in
      let part = total_has (λ (v : View O E). v.left) s.views id me.0 at in
      let asks = k.asks in
      let bounded = k.bounded in (
        next,
        keeps,
        tt,
        same_history s k id me.0 next (set s.words 0 ((get_or s.words 0 0 + 1) % 2 ^ 64)) s.homes (k.drawn + 1) at
            (words_drawn s.words k.drawn (length k.calls) k.words_are (omega arith))
            (omega arith)
            (placed_set k.log (length k.calls) s.homes s.views id me.0 next at (λ t h. not_holding me.0.stage t (ap ticket_of idle) h) k.placed)
            ((k.fits id me.0 at).0, (k.fits id me.0 at).1, (omega (arith, read.0), omega (arith, read.0)))
            (λ ticket j v mine other there its.
            let drew : get_or s.words 0 0 ≡ ticket = cc mine in
            let low = (ticket_between k.log k.drawn (length k.calls) v v.stage ticket (k.fits j v there).2 its).1 in
            absurd (omega (arith, read.0)))
            (omega arith)
            refl,
        refl,
      )

  -- a look at a ticket that is not served changes nothing
  look_missed : (s : State O (View O E)) (k : IsKept r start state holds first s) (id : ℕ) (view : View O E) (word : ℕ) → get_elem? s.views id ≡ some view
      → IsKept r start state holds first record { words = set s.words word (get_or s.words word 0); homes = s.homes; views = set s.views id view }
  look_missed s k id view word at =
      subst (λ (z : List ℕ × List (View O E)). IsKept r start state holds first record { words = z.0; homes = s.homes; views = z.1 })
      (λ i. (sym (set-get_or s.words word 0) i, sym (set_again s.views id view at) i)) k

  -- a look at the ticket that is served takes the object, which is at home
  look_hit : (s : State O (View O E)) (k : IsKept r start state holds first s) (id : ℕ) (view : View O E) (ticket : ℕ) (object : O)
      → get_elem? s.views id ≡ some view → view.stage ≡ Waiting ticket → ticket ≡ length k.calls → s.homes ≡ some object ∷ []
      → IsKept r start state holds first record { words = set s.words 1 (get_or s.words 1 0); homes = set s.homes 0 none; views = set s.views id (holding view k.log ticket) }
  look_hit s k id view ticket object at waits turn homes_are =
      let next = holding view k.log ticket in
      let fits = k.fits id view at in
      let between = subst (FitsStage r k.log k.drawn (length k.calls) view) waits fits.2 in
      same_history s k id view next (set s.words 1 (get_or s.words 1 0)) (set s.homes 0 none) k.drawn at
      (set-get_or s.words 1 0 ∙ k.words_are)
      (omega arith)
      (inr (ap (λ hs. set hs 0 none) homes_are, (id, next, set_here s.views id next (inside s.views id view at), ap Holding turn)))
      (fits.0, prefix_self k.log, (turn, between.1, refl))
      (λ t j v mine other there its. other (k.apart j id v view t there at its (ap ticket_of waits ∙ mine)))
      refl
      refl

  -- the object is at home when a waiting caller's ticket is served
  at_home : (s : State O (View O E)) (k : IsKept r start state holds first s) (id : ℕ) (view : View O E) (ticket : ℕ)
      → get_elem? s.views id ≡ some view → view.stage ≡ Waiting ticket → ticket ≡ length k.calls
      → (object : O) × (s.homes ≡ some object ∷ []) × Bears r start state holds first k.log object
  at_home s k id view ticket at waits turn = ⊎_elim
      (λ home. home)
      (λ out. let holder = out.1.1 in
      let same = k.apart out.1.0 id holder view ticket out.1.2 at (ap ticket_of (out.1.3 ∙ ap Holding (sym turn))) (ap ticket_of waits) in
      let is = ap (λ (v : View O E). v.stage) (one_there s.views out.1.0 id holder view out.1.2 at same) in
      absurd (cc (is, waits, out.1.3)))
      k.placed

  pub looks : (slots id : ℕ) (me : Me O (View O E)) (ticket : ℕ) → me.0.stage ≡ Waiting ticket → me.1 ≡ []
      → Allows (IsKept r start state holds first) slots id me 1 (λ n. n) (looked r start state holds record { slots = slots; word = 1; first = 0; second = 0; said = none } me)
  looks slots id me ticket waits free s k size at low =
      let found = get_or s.words 1 0 in
      let read = words_read s.words k.drawn (length k.calls) k.words_are in
      dite (ℕ_discrete found ticket)
      (λ hit.
      let turn : ticket ≡ length k.calls = sym hit ∙ read.1 in
      let home = at_home s k id me.0 ticket at waits turn in
      let fits = k.fits id me.0 at in
      let next = holding me.0 k.log ticket in
      let taken : HasTaken r start state holds me ticket (next, (0, home.0) ∷ me.1) =
      (k.log, home.0, refl, fits.1, λ f began. let is = fits.0 f began in (subst (λ z. IsLegal r (state z) k.log) (sym is) k.made.legal, subst (λ z. Bears r start state holds z k.log home.0) (sym is) home.2)) in (
        next,
        takes 0 home.0,
        ap (λ hs. get_elem? hs 0) home.1,
        look_hit s k id me.0 ticket home.0 at waits turn home.1,
        λ t its. let same : ticket ≡ t = cc (waits, its) in
            subst (λ z. MatchBool (eqb found z) (HasTaken r start state holds me z (next, (0, home.0) ∷ me.1)) ((next, (0, home.0) ∷ me.1) ≡ me)) same (rw (eq-eqb found ticket hit) taken),
      ))
      (λ miss. (
        me.0,
        keeps,
        tt,
        look_missed s k id me.0 1 at,
        λ t its. let other : found ≢ t = λ e. miss (e ∙ cc (waits, its)) in rw (ne_eqb found t other) refl,
      ))

  -- the second word after a raise
  words_raised : (words : List ℕ) (drawn served : ℕ) → words ≡ drawn ∷ served ∷ [] → served < 9223372036854775808 → set words 1 ((get_or words 1 0 + 1) % 2 ^ 64) ≡ drawn ∷ (served + 1) ∷ []
  words_raised words drawn served are low = rw are (ap (λ n. drawn ∷ n ∷ []) (mod-eq_of_lt (omega arith)))

  -- what other callers know stays so when the history goes on
  stage_raised : (log made : List E) (drawn served : ℕ) (view : View O E) (stage : Stage E) → (ticket_of stage ≡ Some served → ⊥) → FitsStage r log drawn served view stage → FitsStage r (log ++ made) drawn (served + 1) view stage
  stage_raised log made drawn served view Idle other fits = fits
  stage_raised log made drawn served view (Merged told) other fits = prefix_more told log made fits
  stage_raised log made drawn served view (Waiting ticket) other fits = dite (ℕ_discrete ticket served) (λ same. absurd (other (ap Some same))) (λ apart. (omega (arith, fits.0, apart), fits.1))
  stage_raised log made drawn served view (Holding ticket) other fits = absurd (other (ap Some fits.0))

  fits_raised : (log made : List E) (drawn served : ℕ) (view : View O E) → (ticket_of view.stage ≡ Some served → ⊥) → Fits r first log drawn served view → Fits r first (log ++ made) drawn (served + 1) view
  fits_raised log made drawn served view other fits = (fits.0, prefix_more view.seen log made fits.1, stage_raised log made drawn served view view.stage other fits.2)

  -- the history as its holder has seen it
  made_seen : (log seen : List E) (calls : List ℕ) (now : S) → seen ≡ log → LeadsAlone r (state first) log calls now → LeadsAlone r (state first) seen calls (end_state r (state first) seen)
  made_seen log seen calls now same made = record {
    legal = subst (IsLegal r (state first)) (sym same) made.legal;
    leads = refl;
    all = made.all ∙ ap (calls_of r 0) (sym same);
    made = (made.made.0, subst (AreEntries r (state first) made.made.0) (sym same) made.made.1);
  }

  pub raise_kept : (s : State O (View O E)) (k : IsKept r start state holds first s) (id : ℕ) (view : View O E) (ticket : ℕ) (homes : List (mathlib.Core.Option.Option O)) (object : O) (question : Q) (answer : A) (call : E)
      → get_elem? s.views id ≡ some view → view.stage ≡ Holding ticket → homes ≡ some object ∷ []
      → IsAsk r (end_state r (state first) view.seen) question answer call (state object)
      → Bears r start state holds first (view.seen ++ asked_entries r state first view.seen question answer call) object
      → IsKept r start state holds first record { words = set s.words 1 ((get_or s.words 1 0 + 1) % 2 ^ 64); homes = homes; views = set s.views id (gone_on view (asked_entries r state first view.seen question answer call) (asked_place r state first view.seen question answer)) }
  raise_kept s k id view ticket homes object question answer call at has homes_are ask bears =
      let made = asked_entries r state first view.seen question answer call in
      let place = asked_place r state first view.seen question answer in
      let next = gone_on view made place in
      let fits = k.fits id view at in
      let turn = subst (FitsStage r k.log k.drawn (length k.calls) view) has fits.2 in
      let before = made_seen k.log view.seen k.calls k.now turn.2 k.made in
      let longer = LeadsAlone-ask r (state first) view.seen k.calls (end_state r (state first) view.seen) question answer call (state object) before ask in
      let count : length (k.calls ++ place ∷ []) ≡ length k.calls + 1 = length-append k.calls (place ∷ []) in
      let asks = k.asks in
      let own = total_has (λ (v : View O E). v.left) s.views id view at in
      record {
        log = view.seen ++ made;
        drawn = k.drawn;
        calls = k.calls ++ place ∷ [];
        now = state object;
        words_are = words_raised s.words k.drawn (length k.calls) k.words_are (omega (arith, turn.0, turn.1)) ∙ ap (λ n. k.drawn ∷ n ∷ []) (sym count);
        bounded = omega (arith, turn.0, turn.1);
        made = longer;
        placed = inl (object, homes_are, bears);
        fits = subst (λ n. (j : ℕ) (v : View O E) → get_elem? (set s.views id next) j ≡ some v → Fits r first (view.seen ++ made) k.drawn n v) (sym count)
            (each_set (Fits r first (view.seen ++ made) k.drawn (length k.calls + 1)) s.views id next (
              fits.0,
              prefix_self (view.seen ++ made),
              λ f.
                  let t = total_has (λ (v : View O E). total f v.mine) s.views id view at in
                  let p = k.places f in
                  let a = total-append f view.mine (place ∷ []) in
                  let b = total-append f k.calls (place ∷ []) in
                  let c = ap (total f) longer.all in
                  omega arith,
            )
            (λ j v other there. subst (λ z. Fits r first (z ++ made) k.drawn (length k.calls + 1) v) (sym turn.2)
            (fits_raised k.log made k.drawn (length k.calls) v (λ its. other (k.apart j id v view (length k.calls) there at its (ap ticket_of (has ∙ ap Holding turn.0)))) (k.fits j v there))));
        apart = apart_set s.views id next k.apart (λ t j v mine other there its. absurd cc);
        asks = let t = total_set (λ (v : View O E). v.left) s.views id view next at in omega arith;
        places = λ f.
            let t = total_set (λ (v : View O E). total f v.mine) s.views id view next at in
            let p = k.places f in
            let a = total-append f view.mine (place ∷ []) in
            let b = total-append f k.calls (place ∷ []) in
            omega arith;
      }

  -- a caller that took in another one sees the history as it is
  pub learns : (slots id : ℕ) (me : Me O (View O E)) (told : List E) → me.0.stage ≡ Merged told → me.1 ≡ []
      → Allows (IsKept r start state holds first) slots id me 1 (λ n. n) (λ n after. HasLearned r state me after)
  learns slots id me told is free s k size at low =
      let next = sees me.0 k.log in
      let fits = k.fits id me.0 at in
      let covered : (f : ℕ → ℕ) → total f me.0.mine ≤ total f k.calls = λ f. (let t = total_has (λ (v : View O E). total f v.mine) s.views id me.0 at in let p = k.places f in omega arith) in (
        next,
        keeps,
        tt,
        same_history s k id me.0 next (set s.words 1 (get_or s.words 1 0)) s.homes k.drawn at
            (set-get_or s.words 1 0 ∙ k.words_are)
            (omega arith)
            (placed_set k.log (length k.calls) s.homes s.views id me.0 next at (λ t h. not_holding me.0.stage t (ap ticket_of is) h) k.placed)
            (fits.0, prefix_self k.log, λ f. (let c = covered f in let all = ap (total f) k.made.all in omega arith))
            (λ t j v mine other there its. absurd cc)
            refl
            refl,
        (
          k.log,
          refl,
          fits.1,
          (λ told its. subst (FitsStage r k.log k.drawn (length k.calls) me.0) its fits.2),
          (λ f began. subst (λ z. IsLegal r (state z) k.log) (sym (fits.0 f began)) k.made.legal),
          distinct_below me.0.mine k.calls covered (subst (AllPairs (λ x y. x < y)) (sym k.made.all) (calls_of-rise r 0 k.log)),
          (let own = covered (λ p. 1) in let l = total_has (λ (v : View O E). v.left) s.views id me.0 at in let a = k.asks in let b = k.bounded in let m = total_ones me.0.mine in let n = total_ones k.calls in omega arith),
        ),
      )

  -- asks are given to a new caller
  pub cuts : (id : ℕ) (view : View O E) (asks : ℕ) → view.stage ≡ Idle → asks ≤ view.left → Splits (IsKept r start state holds first) id view (fewer view asks) (fresh view asks)
  cuts id view asks idle spare s k at =
      let less = fewer view asks in
      let new = fresh view asks in
      let fits = k.fits id view at in
      let quiet = placed_set k.log (length k.calls) s.homes s.views id view less at (λ t h. not_holding view.stage t (ap ticket_of idle) h) k.placed in
      let views = set s.views id less in
      record {
        log = k.log;
        drawn = k.drawn;
        calls = k.calls;
        now = k.now;
        words_are = k.words_are;
        bounded = k.bounded;
        made = k.made;
        placed = placed_push k.log (length k.calls) s.homes views new quiet;
        fits = each_push (Fits r first k.log k.drawn (length k.calls)) views new (fits.0, fits.1, λ f. omega arith)
            (each_set (Fits r first k.log k.drawn (length k.calls)) s.views id less (fits.0, fits.1, fits.2) (λ j v other there. k.fits j v there));
        apart = apart_push views new refl (apart_set s.views id less k.apart (λ t j v mine other there its. absurd (cc (ap ticket_of idle, mine))));
        asks =
            let t = total_set (λ (v : View O E). v.left) s.views id view less at in
            let p = total-append (λ (v : View O E). v.left) views (new ∷ []) in
            let a = k.asks in
            omega arith;
        places = λ f.
            let t = total_set (λ (v : View O E). total f v.mine) s.views id view less at in
            let p = total-append (λ (v : View O E). total f v.mine) views (new ∷ []) in
            let a = k.places f in
            omega arith;
      }

  -- a caller takes in another one
  pub merges : (id : ℕ) (view : View O E) (other : ℕ) (another : View O E) → view.stage ≡ Idle → another.stage ≡ Idle → Joins (IsKept r start state holds first) id view other another (merged view another) spent
  merges id view other another idle too s k at apart there =
      let both = merged view another in
      let views = set s.views id both in
      let old_there : get_elem? s.views other ≡ some another = sym (set_else s.views id other both apart) ∙ there in
      let fits = k.fits id view at in
      let others = k.fits other another old_there in
      let kept = placed_set k.log (length k.calls) s.homes s.views id view both at (λ t h. not_holding view.stage t (ap ticket_of idle) h) k.placed in
      record {
        log = k.log;
        drawn = k.drawn;
        calls = k.calls;
        now = k.now;
        words_are = k.words_are;
        bounded = k.bounded;
        made = k.made;
        placed = placed_set k.log (length k.calls) s.homes views other another spent there (λ t h. not_holding another.stage t (ap ticket_of too) h) kept;
        fits = each_set (Fits r first k.log k.drawn (length k.calls)) views other spent ((λ f began. absurd cc), (k.log, refl), λ f. omega arith)
            (λ j v away here. each_set (Fits r first k.log k.drawn (length k.calls)) s.views id both (fits.0, fits.1, others.1) (λ j v other there. k.fits j v there) j v here);
        apart = apart_set views other spent (apart_set s.views id both k.apart (λ t j v mine away here its. absurd cc)) (λ t j v mine away here its. absurd cc);
        asks =
            let t = total_set (λ (v : View O E). v.left) s.views id view both at in
            let p = total_set (λ (v : View O E). v.left) views other another spent there in
            let a = k.asks in
            omega arith;
        places = λ f.
            let t = total_set (λ (v : View O E). total f v.mine) s.views id view both at in
            let p = total_set (λ (v : View O E). total f v.mine) views other another spent there in
            let sum = total-append f view.mine another.mine in
            let a = k.places f in
            omega arith;
      }

  -- the first caller has no ticket
  newcomer_quiet : (i : ℕ) (view : View O E) (ticket : ℕ) → get_elem? (newcomer first ∷ []) i ≡ some view → ticket_of view.stage ≡ Some ticket → ⊥
  newcomer_quiet zero view ticket at its = let is = ap (λ (v : View O E). ticket_of v.stage) (some-injective (newcomer first) view at) in cc (is, its)
  newcomer_quiet (suc i) view ticket at its = some-ne-none view (sym at)

  -- a new desk
  pub opens : IsKept r start state holds first (opening (0 ∷ 0 ∷ []) (first ∷ []) (newcomer first))
  opens = record {
    log = [];
    drawn = 0;
    calls = [];
    now = state first;
    words_are = refl;
    bounded = omega arith;
    made = LeadsAlone-none r (state first) (state first) refl;
    placed = inl (first, refl, (refl, λ opening is held. held));
    fits = each_push (Fits r first [] 0 0) [] (newcomer first) ((λ f began. sym cc), ([], refl), λ f. omega arith) (λ j v there. absurd (some-ne-none v (sym there)));
    apart = λ i j v w t at there mine its. absurd (newcomer_quiet i v t at mine);
    asks = refl;
    places = λ f. refl;
  }
