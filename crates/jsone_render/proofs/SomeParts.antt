-- Expressions and texts of a template have an outcome, and a map has a form.
use Rattle.std.proofs.Common.{◌≡◌, ◌⊎◌, ℕ, zero, suc, ◌+◌, ◌<◌, ◌≤◌, Bool, true, false, codes, List, [], ◌∷◌, ◌++◌, length, take, drop, slice_index, if◌then◌else◌, Option, Some, None, Result, Ok, Err, inl, inr, refl, sym, ap, subst, ◌∙◌, arith, length-append, add-one, drop-cons}
use Rattle.std.proofs.lemmas.Bool.{cases_Bool, cases_lt}
use Rattle.std.proofs.lemmas.List.{take-append-drop}
use Rattle.std.specs.Bool.{MatchBool}
use Rattle.std.specs.Str.Pattern.{LacksTextAt}
use Rattle.farm_text.specs.Document.{Document, text, Members}
use Rattle.jsone_values.specs.declared.faults.Fault.{Fault}
use Rattle.jsone_values.specs.declared.faults.Fault.TheVariants.{Syntax, TooDeep, WrongKind, BadOperator}
use Rattle.jsone_values.specs.Splits.{IsFirstCut}
use Rattle.jsone_expr.specs.Trees.{depth}
use Rattle.jsone_eval.specs.Values.{IsOutcome}
use Rattle.jsone_eval.proofs.Existence.{Exists, here, some_same, follow, split}
use Rattle.jsone_eval.proofs.SomeResult.{Cut, some_cut}
use Rattle.jsone_eval.proofs.SomeValue.{some_outcome}
use Rattle.jsone_render.specs.declared.operators.Operator.{Operator}
use Rattle.jsone_render.specs.Expressions.{told, HasTree, ByTree, Evaluated, OfText}
use Rattle.jsone_render.specs.Forms.{Form, binding, faulty, has_words, operator_in, others_of, Binds, ByOthers, ByOperator, IsForm}
use Rattle.jsone_render.specs.Maps.{keys_of}
use Rattle.jsone_render.specs.Outcomes.{Outcome, given, faulted, too_much, pay, Then, After}
use Rattle.jsone_render.specs.Texts.{Part, last, escaped, valued, unended, opening, ends_with_dollar, IsShortest, NoneEnds, AreParts, PartsRender, Valued, as_outcome, shown, Interpolated, Written}
use Rattle.jsone_render.proofs.CutLemmas.{stands_there}

-- ---- what follows

pub some_then : {A B : Type 0} (F : A → ℕ → Outcome B → Type 0) (q : Outcome A) → ((a : A) (n : ℕ) → Exists (F a n)) → Exists (Then F q)
some_then F (given a n) some = some a n
some_then F (faulted f path) some = some_same (faulted f path)
some_then F too_much some = some_same too_much

pub some_after : {A B : Type 0} (Is : Outcome A → Type 0) (F : A → ℕ → Outcome B → Type 0) → Exists Is → ((a : A) (n : ℕ) → Exists (F a n)) → Exists (After Is F)
some_after Is F some follows = follow some (λ q. follow (some_then F q.0 follows) (λ o. here (After Is F) o.0 (q.0, q.1, o.1)))

pub some_of_text : {A : Type 0} (x : Option Document) (Is : List ℕ → Outcome A → Type 0) → ((source : List ℕ) → Exists (Is source)) → Exists (OfText x Is)
some_of_text (Some (text source)) Is some = some source
some_of_text (Some _) Is some = some_same (faulted WrongKind [])
some_of_text None Is some = some_same (faulted WrongKind [])

-- ---- expressions

by_depth : (source : List ℕ) (scopes : List Document) (n : ℕ) → HasTree source → Exists (Evaluated source scopes n)
by_depth source scopes n has = elim (cases_lt 64 (depth has.0)) [
  | inl deep ↦ here (Evaluated source scopes n) (faulted TooDeep []) (inr (inl (record { tree = has.0; of_text = has.1; deep = deep }, refl)))
  | inr shallow ↦ follow (some_outcome (record { source = source; scopes = scopes }) has.0 n) (λ o. here (Evaluated source scopes n) (told o.0) (inl record {
    tree = has.0;
    of_text = has.1;
    shallow = shallow;
    value = o.0;
    evaluated = o.1;
    is = refl;
  }))
]

pub some_evaluated : (source : List ℕ) (scopes : List Document) (n : ℕ) → Exists (Evaluated source scopes n)
some_evaluated source scopes n = split {A = HasTree source} (by_depth source scopes n) (λ none. here (Evaluated source scopes n) (faulted Syntax []) (inr (inr (none, refl))))

-- ---- texts

-- an expression ends before a `}`, and this is the shortest; or none does
record Ending (behind : List ℕ) : Type 0 where
  pub source : List ℕ
  pub rest : List ℕ
  pub spelled : behind ≡ source ++ 125 ∷ rest
  pub shortest : IsShortest behind source

curly_at : (behind : List ℕ) (i : ℕ) → i < length behind → slice_index behind i ≡ 125 → behind ≡ take i behind ++ 125 ∷ drop (i + 1) behind
curly_at behind i less curly =
    sym (take-append-drop i behind)
    ∙ ap (λ l. take i behind ++ l) (drop-cons behind i 0 less ∙ ap (λ b. b ∷ drop (suc i) behind) curly ∙ ap (λ k. 125 ∷ drop k behind) (sym (add-one i)))

abbrev Ends : List ℕ → Type 0
Ends behind = (source : List ℕ) × (rest : List ℕ) × HasTree source × (behind ≡ source ++ 125 ∷ rest)

ending_of : (behind : List ℕ) → Ends behind → Ending behind
ending_of behind h = let stands = stands_there behind h.0 h.1 h.2 h.3 in record { source = h.0; rest = stands.0; spelled = stands.1; shortest = stands.2 }

none_ends : (behind : List ℕ) → ¬ Ends behind → NoneEnds behind
none_ends behind none i less curly has = none (take i behind, drop (i + 1) behind, has, curly_at behind i less curly)

some_ending : (behind : List ℕ) → ¬ ¬ (Ending behind ⊎ NoneEnds behind)
some_ending behind = split {A = Ends behind} (λ h none. none (inl (ending_of behind h))) (λ lacks none. none (inr (none_ends behind lacks)))

some_valued : (source : List ℕ) (scopes : List Document) (n : ℕ) → Exists (Valued source scopes n)
some_valued source scopes n = some_after (Evaluated source scopes n) (λ d m q. q ≡ as_outcome m (shown d)) (some_evaluated source scopes n) (λ d m. some_same (as_outcome m (shown d)))

-- the parts of what is left, and what they give behind what there is so far
abbrev Left : List ℕ → List ℕ → List Document → ℕ → Outcome (List ℕ) → Type 0
Left bs done scopes n o = (parts : List Part) × AreParts bs parts × PartsRender done parts scopes n o

-- the value of an expression goes on to the parts behind it
value_then : (rest done : List ℕ) (scopes : List Document) (q : Outcome (List ℕ)) → ((cs : List ℕ) (m : ℕ) → Exists (Left rest (done ++ cs) scopes m))
    → Exists (λ o. (parts : List Part) × AreParts rest parts × Then (λ cs m. PartsRender (done ++ cs) parts scopes m) q o)
value_then rest done scopes (given cs m) more = more cs m
value_then rest done scopes (faulted f path) more = here _ (faulted f path) ([], tt, refl)
value_then rest done scopes too_much more = here _ too_much ([], tt, refl)

at_value : (bs front behind done : List ℕ) (scopes : List Document) (n : ℕ) (end : Ending behind) → IsFirstCut opening bs front behind → ends_with_dollar front ≡ false
    → ((cs : List ℕ) (m : ℕ) → Exists (Left end.rest ((done ++ front) ++ cs) scopes m)) → Exists (Left bs done scopes n)
at_value bs front behind done scopes n end cut dollar more =
    let cut_so : IsFirstCut opening bs front (end.source ++ 125 ∷ end.rest) = subst (IsFirstCut opening bs front) end.spelled cut in
    let shortest : IsShortest (end.source ++ 125 ∷ end.rest) end.source = subst (λ l. IsShortest l end.source) end.spelled end.shortest in
    follow (some_valued end.source scopes n) (λ q.
    follow (value_then end.rest (done ++ front) scopes q.0 more) (λ o.
    here (Left bs done scopes n) o.0 (valued front end.source ∷ o.1.0, (end.rest, cut_so, dollar, shortest, o.1.1), (q.0, q.1, o.1.2))))

at_escape : (bs front rest done : List ℕ) (scopes : List Document) (n : ℕ) → IsFirstCut opening bs front rest → ends_with_dollar front ≡ true → Exists (Left rest ((done ++ front) ++ codes "{") scopes n) → Exists (Left bs done scopes n)
at_escape bs front rest done scopes n cut dollar more = follow more (λ o. here (Left bs done scopes n) o.0 (escaped front ∷ o.1.0, (rest, cut, dollar, o.1.1), o.1.2))

at_unended : (bs front rest done : List ℕ) (scopes : List Document) (n : ℕ) → IsFirstCut opening bs front rest → ends_with_dollar front ≡ false → NoneEnds rest → Exists (Left bs done scopes n)
at_unended bs front rest done scopes n cut dollar none = here (Left bs done scopes n) (faulted Syntax []) (unended front ∷ [], (rest, cut, dollar, none, refl), refl)

at_last : (bs done : List ℕ) (scopes : List Document) (n : ℕ) → ((i : ℕ) → i ≤ length bs → LacksTextAt opening bs i) → Exists (Left bs done scopes n)
at_last bs done scopes n lacks = here (Left bs done scopes n) (given (done ++ bs) n) (last bs ∷ [], (refl, lacks, refl), refl)

less_left : (bs : List ℕ) (cut : Cut opening bs) → length cut.rest < length bs
less_left bs cut = omega (arith, ap length cut.first.spelled, length-append cut.piece (opening ++ cut.rest), length-append opening cut.rest)

less_behind : (behind : List ℕ) (end : Ending behind) → length end.rest < length behind
less_behind behind end = omega (arith, ap length end.spelled, length-append end.source (125 ∷ end.rest))

some_left : (k : ℕ) (bs done : List ℕ) (scopes : List Document) (n : ℕ) → length bs ≤ k → Exists (Left bs done scopes n)
some_left zero bs done scopes n upto = follow (some_cut opening bs) (λ h. elim h [
  | inl cut ↦ absurd (omega (arith, less_left bs cut))
  | inr lacks ↦ at_last bs done scopes n lacks
])
some_left (suc k) bs done scopes n upto = follow (some_cut opening bs) (λ h. elim h [
  | inl cut ↦
      let less = less_left bs cut in
      elim (cases_Bool (ends_with_dollar cut.piece)) [
        | inl dollar ↦ at_escape bs cut.piece cut.rest done scopes n cut.first dollar (some_left k cut.rest ((done ++ cut.piece) ++ codes "{") scopes n (omega arith))
        | inr plain ↦ follow (some_ending cut.rest) (λ e. elim e [
          | inl end ↦
              let lesser = less_behind cut.rest end in
              at_value bs cut.piece cut.rest done scopes n end cut.first plain (λ cs m. some_left k end.rest ((done ++ cut.piece) ++ cs) scopes m (omega arith))
          | inr none ↦ at_unended bs cut.piece cut.rest done scopes n cut.first plain none
        ])
      ]
  | inr lacks ↦ at_last bs done scopes n lacks
])

some_interpolated : (bs : List ℕ) (scopes : List Document) (n : ℕ) → Exists (Interpolated bs scopes n)
some_interpolated bs scopes n = some_left (length bs) bs [] scopes n (omega arith)

pub some_written : (bs : List ℕ) (scopes : List Document) (n : ℕ) → Exists (Written bs scopes n)
some_written bs scopes n = some_after (Interpolated bs scopes n) (λ cs m q. q ≡ pay m (1 + length cs) cs) (some_interpolated bs scopes n) (λ cs m. some_same (pay m (1 + length cs) cs))

-- ---- forms

some_by_others : (ks : List (List ℕ)) (operator : Operator) (ms : Members) → Exists (ByOthers ks operator ms)
some_by_others [] operator ms = some_same _
some_by_others (key ∷ []) operator ms = split {A = (names : List (List ℕ)) × Binds operator key names}
    (λ h. here (ByOthers (key ∷ []) operator ms) (if has_words operator ms then binding operator key h.0 else faulty BadOperator) (inl (h.0, h.1, refl)))
    (λ none. here (ByOthers (key ∷ []) operator ms) (faulty BadOperator) (inr ((λ names binds. none (names, binds)), refl)))
some_by_others (key ∷ l ∷ ks) operator ms = some_same _

some_by_operator : (r : Result (Option Operator) Fault) (ms : Members) → Exists (ByOperator r ms)
some_by_operator (Ok None) ms = some_same _
some_by_operator (Ok (Some operator)) ms = some_by_others (others_of operator (keys_of ms)) operator ms
some_by_operator (Err f) ms = some_same _

-- a map has a form
pub some_form : (ms : Members) → Exists (IsForm ms)
some_form ms = some_by_operator (operator_in (keys_of ms)) ms
