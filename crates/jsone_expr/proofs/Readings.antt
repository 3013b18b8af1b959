-- What the machine says after some tokens, of all of them.
use Rattle.std.proofs.Common.{◌≡◌, ℕ, ◌+◌, ◌<◌, ◌≤◌, true, false, List, [], ◌∷◌, ◌++◌, length, take, drop, get_or, map, Option, Some, None, option_map, refl, sym, ap, ◌∙◌, subst, ⊎_elim, arith, append_assoc, take-append-drop}
use Rattle.std.proofs.Math.Seq.{take-length}
use Rattle.std.proofs.lemmas.List.{take-take, take-map, take_more, map-append, length-map}
use Rattle.std.proofs.lemmas.Bool.{cases_lt}
use Rattle.jsone_expr.specs.declared.tokens.Token.{Token}
use Rattle.jsone_expr.specs.declared.tokens.Token.TheVariants.{Digits as digits}
use Rattle.jsone_expr.specs.declared.tokens.Piece.{Piece}
use Rattle.jsone_expr.specs.declared.nodes.Node.{Node}
use Rattle.jsone_expr.specs.Texts.{token_list}
use Rattle.jsone_expr.specs.Trees.{Tree}
use Rattle.jsone_expr.specs.Grammar.{IsExpression, CanGoOn, IsBadPlace}
use Rattle.jsone_expr.specs.Postfix.{postfix}
use Rattle.jsone_expr.specs.Moves.{Flat, Parts, move, Went, left_open, ended_nodes}
use Rattle.jsone_expr.proofs.States.{Frame, State, want, have, after_dot, want_key, after_key, close, step, then_run, run, start, ended_part, ended}
use Rattle.jsone_expr.proofs.Complete.{run_append, reads_expression, ends_at, refused_for_good, pending, have_part}
use Rattle.jsone_expr.proofs.Steps.{told_run, ended_reads, read_goes_on}
use Rattle.jsone_expr.proofs.Flattening.{flatten, closed_at, parts_of, moves_along}

-- the machine stands where the first i tokens lead
pub record ReadSoFar (ts : List Token) (i : ℕ) (f : Flat) : Type 0 where
  pub state : State
  pub reached : run (take i ts) start ≡ Some state
  pub stands : f ≡ flatten state

-- what one more token does
record Stepped (s : State) (x : Token) (g : Flat) : Type 0 where
  to : State
  by : step s x ≡ Some to
  stands : g ≡ flatten to

stepped : (s : State) (x : Token) (g : Flat) → Went (option_map flatten (step s x)) true g → Stepped s x g
stepped s x g w = by_step (step s x) refl w
  where
    by_step : (o : Option State) → step s x ≡ o → Went (option_map flatten o) true g → Stepped s x g
    by_step None e w = absurd w
    by_step (Some t) e w = record { to = t; by = e; stands = w }

stopped : (s : State) (x : Token) (g : Flat) → Went (option_map flatten (step s x)) false g → step s x ≡ None
stopped s x g w = by_step (step s x) refl w
  where
    by_step : (o : Option State) → step s x ≡ o → Went (option_map flatten o) false g → step s x ≡ None
    by_step None e w = e
    by_step (Some t) e w = absurd w

run_one : (ts : List Token) (x : Token) (s : State) → run ts start ≡ Some s → run (ts ++ (x ∷ [])) start ≡ then_run (step s x) (run [])
run_one ts x s e = run_append ts (x ∷ []) start ∙ ap (λ o. then_run o (run (x ∷ []))) e

pub begins : (ts : List Token) → ReadSoFar ts 0 (flatten start)
begins ts = record { state = start; reached = refl; stands = refl }

pub went_on : (ts : List Token) (i : ℕ) (f g : Flat) (x : Token) → take (i + 1) ts ≡ take i ts ++ (x ∷ []) → ReadSoFar ts i f → Went (move f x) true g → ReadSoFar ts (i + 1) g
went_on ts i f g x front r w =
    let moved = subst (λ o. Went o true g) (ap (λ h. move h x) r.stands ∙ moves_along r.state x) w in
    let s = stepped r.state x g moved in
    record {
      state = s.to;
      reached = ap (λ l. run l start) front ∙ run_one (take i ts) x r.state r.reached ∙ ap (λ o. then_run o (run [])) s.by;
      stands = s.stands;
    }

goes_on_at : (ts : List Token) (i : ℕ) (f : Flat) → ReadSoFar ts i f → CanGoOn (take i ts)
goes_on_at ts i f r = let k = told_run (take i ts) r.state r.reached in subst CanGoOn k.0 (read_goes_on r.state k.1)

pub refused_at : (ts : List Token) (i : ℕ) (f g : Flat) (x : Token) → i < length ts → take (i + 1) ts ≡ take i ts ++ (x ∷ []) → ReadSoFar ts i f → Went (move f x) false g → IsBadPlace ts i
refused_at ts i f g x h front r w =
    let moved = subst (λ o. Went o false g) (ap (λ h. move h x) r.stands ∙ moves_along r.state x) w in
    let fails : run (take (i + 1) ts) start ≡ None = ap (λ l. run l start) front ∙ run_one (take i ts) x r.state r.reached ∙ ap (λ o. then_run o (run [])) (stopped r.state x g moved) in
    record {
      within = omega arith;
      before = goes_on_at ts i f r;
      after = λ lt goes. refused_for_good (take (i + 1) ts) fails goes;
      none = λ t e. refused_for_good (take (i + 1) ts) fails (drop (i + 1) ts, t, subst (λ l. IsExpression l t) (sym (take-append-drop (i + 1) ts)) e);
    }

ended_along : (s : State) → (let f = flatten s in ended_nodes f.nodes f.frames f.next) ≡ option_map postfix (ended s)
ended_along (want fs) = refl
ended_along (have t fs) = ap (λ (p : Parts). left_open p.0 p.1) (closed_at 0 t fs) ∙ (let p = close 0 t fs in by_part p.0 p.1)
  where
    by_part : (u : Tree) (gs : List Frame) → (let p = parts_of (u, gs) in left_open p.0 p.1) ≡ option_map postfix (ended_part u gs)
    by_part u [] = refl
    by_part u (g ∷ gs) = refl
ended_along (after_dot t fs) = refl
ended_along (want_key ts fs) = refl
ended_along (after_key k ts fs) = refl

-- the nodes of the expression that the tokens are
pub record IsRead (ts : List Token) (ns : List Node) : Type 0 where
  pub tree : Tree
  pub expression : IsExpression ts tree
  pub nodes : ns ≡ postfix tree

pub ended_is : (ts : List Token) (i : ℕ) (f : Flat) (ns : List Node) → i ≡ length ts → ReadSoFar ts i f → ended_nodes f.nodes f.frames f.next ≡ Some ns → (t : Tree) × IsExpression ts t × (ns ≡ postfix t)
ended_is ts i f ns h r e = by_end (ended r.state) refl (sym (ended_along r.state) ∙ ap (λ (g : Flat). ended_nodes g.nodes g.frames g.next) (sym r.stands) ∙ e)
  where
    by_end : (o : Option Tree) → ended r.state ≡ o → option_map postfix o ≡ Some ns → (t : Tree) × IsExpression ts t × (ns ≡ postfix t)
    by_end None d e = absurd (cc)
    by_end (Some t) d e =
        let k = told_run (take i ts) r.state r.reached in
        let whole : take i ts ≡ ts = ap (λ n. take n ts) h ∙ take-length ts in
        (t, subst (λ l. IsExpression l t) (k.0 ∙ whole) (ended_reads r.state t k.1 d), cc)

pub ended_not : (ts : List Token) (i : ℕ) (f : Flat) → i ≡ length ts → ReadSoFar ts i f → ended_nodes f.nodes f.frames f.next ≡ None → IsBadPlace ts i
ended_not ts i f h r e = record {
  within = omega arith;
  before = goes_on_at ts i f r;
  after = λ lt goes. absurd (omega arith);
  none = λ t x. by_end (ended r.state) refl (sym (ended_along r.state) ∙ ap (λ (g : Flat). ended_nodes g.nodes g.frames g.next) (sym r.stands) ∙ e) t x;
}
  where
    by_end : (o : Option Tree) → ended r.state ≡ o → option_map postfix o ≡ None → (t : Tree) → IsExpression ts t → ⊥
    by_end (Some t) d e u x = absurd (cc)
    by_end None d e u x =
        let whole : take i ts ≡ ts = ap (λ n. take n ts) h ∙ take-length ts in
        let here : run ts start ≡ Some r.state = ap (λ l. run l start) (sym whole) ∙ r.reached in
        let there = reads_expression ts u x in
        let ends = ends_at u x.fits in
        let same : Some r.state ≡ Some (have_part (pending u [])) = sym here ∙ there in
        cc

-- what goes on to an expression did so before its last tokens
fewer_go_on : (ts more : List Token) → CanGoOn (ts ++ more) → CanGoOn ts
fewer_go_on ts more g = (more ++ g.0, g.1, subst (λ l. IsExpression l g.1) (append_assoc ts more g.0) g.2)

earlier_goes_on : (ts : List Token) (i j : ℕ) → i ≤ j → CanGoOn (take j ts) → CanGoOn (take i ts)
earlier_goes_on ts i j h g =
    let front : take i (take j ts) ≡ take i ts = take-take i j ts h in
    subst CanGoOn front (fewer_go_on (take i (take j ts)) (drop i (take j ts)) (subst CanGoOn (sym (take-append-drop i (take j ts))) g))

not_before : (ts : List Token) (i j : ℕ) → IsBadPlace ts i → IsBadPlace ts j → i < j → ⊥
not_before ts i j a b h = a.after (omega (arith, b.within)) (earlier_goes_on ts (i + 1) j (omega arith) b.before)

pub one_bad_place : (ts : List Token) (i j : ℕ) → IsBadPlace ts i → IsBadPlace ts j → i ≡ j
one_bad_place ts i j a b = ⊎_elim (λ lt. absurd (not_before ts i j a b lt)) (λ le. ⊎_elim (λ gt. absurd (not_before ts j i b a gt)) (λ ge. omega arith) (cases_lt j i)) (cases_lt i j)

-- one token more of the pieces
pub one_more_piece : (ps : List Piece) (i : ℕ) (d : Piece) → i < length ps → take (i + 1) (token_list ps) ≡ take i (token_list ps) ++ ((get_or ps i d).token ∷ [])
one_more_piece ps i d h =
    take-map (λ (p : Piece). p.token) (i + 1) ps
    ∙ ap (map (λ (p : Piece). p.token)) (take_more ps i d h)
    ∙ map-append (λ (p : Piece). p.token) (take i ps) (get_or ps i d ∷ [])
    ∙ ap (λ l. l ++ ((get_or ps i d).token ∷ [])) (sym (take-map (λ (p : Piece). p.token) i ps))

pub as_many_tokens : (ps : List Piece) → length (token_list ps) ≡ length ps
as_many_tokens ps = length-map ps (λ (p : Piece). p.token)

-- what the code reads past the end, which it never does
abbrev pub no_piece : Piece
no_piece = record { token = digits (record { from = 0; to = 0 }); span = record { from = 0; to = 0 } }
