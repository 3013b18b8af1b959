-- An expression has one outcome.
use Rattle.std.proofs.Common.{◌≡◌, ℕ, Bool, true, false, List, [], ◌∷◌, Option, Some, None, Result, Ok, Err, pos, sym, subst, ◌∙◌}
use Rattle.std.specs.Bool.{MatchBool}
use Rattle.farm_text.specs.Document.{Document, text as text_value, boolean, array, items_of}
use Rattle.jsone_values.specs.declared.faults.Fault.{Fault}
use Rattle.jsone_values.specs.Builtins.{IsLengthOf}
use Rattle.jsone_values.specs.Indexes.{indexed, sliced}
use Rattle.jsone_values.specs.Maps.{map_of}
use Rattle.jsone_values.specs.Numbers.{IsInRange, IsQuotient, IsPower, digits_from}
use Rattle.jsone_values.specs.Operators.{IsNumber}
use Rattle.jsone_values.specs.Truth.{is_true}
use Rattle.jsone_values.proofs.OneLemmas.{IsOne, one_same, one_in_range, one_number, one_quotient, one_power, one_of_numbers, one_sum, one_negated, one_kept, one_truth, one_within, one_length, one_absolute, one_read, one_pieces, one_from_now}
use Rattle.jsone_expr.specs.declared.functions.Function.{Function}
use Rattle.jsone_expr.specs.declared.functions.Function.TheVariants.{Min, Max, Abs, Len, Number, Split, Range, FromNow}
use Rattle.jsone_expr.specs.declared.marks.Operator.{Operator}
use Rattle.jsone_expr.specs.declared.marks.Operator.TheVariants.{Within, Equal, NotEqual, Plus, Minus, Times, Over, Power}
use Rattle.jsone_expr.specs.declared.marks.Sign.{Sign}
use Rattle.jsone_expr.specs.declared.marks.Sign.TheVariants.{Denied, Negative, Positive}
use Rattle.jsone_expr.specs.Trees.{Tree, number, text, literal, name, unary, binary, group, member, index, slice, call, items, entries, Side, absent, present, Trees, no_trees, tree, Fields, no_fields, field}
use Rattle.jsone_eval.specs.Calls.{IsFromNowAt, IsOfOne, IsOfTwo, IsOfThree, IsOfMany, IsCalled, IsCall}
use Rattle.jsone_eval.specs.Operators.{IsSigned, decides, IsJoined}
use Rattle.jsone_eval.specs.Outcomes.{Outcome, given, faulted, too_much, paid, at_node, Then, AtNode}
use Rattle.jsone_eval.specs.Values.{Setting, bytes_at, text_at, quoted, literal_value, named, member_named, key_span, WithKey, Evaluates, SideEvaluates, EachEvaluates, FieldsEvaluate, IsOutcome}

one_signed : (g : Sign) (d : Document) → IsOne (IsSigned g d)
one_signed Denied d r q h k = h ∙ sym k
one_signed Negative d r q h k = one_negated d r q h k
one_signed Positive d r q h k = one_kept d r q h k

one_joined : (g : Operator) (d e : Document) → IsOne (IsJoined g d e)
one_joined Within d e r q h k = one_within d e r q h k
one_joined Equal d e r q h k = one_truth (d ≡ e) r q h k
one_joined NotEqual d e r q h k = one_truth (¬ (d ≡ e)) r q h k
one_joined Plus d e r q h k = one_sum d e r q h k
one_joined Minus d e r q h k = one_of_numbers _ (λ a b. one_in_range _) d e r q h k
one_joined Times d e r q h k = one_of_numbers _ (λ a b. one_in_range _) d e r q h k
one_joined Over d e r q h k = one_of_numbers IsQuotient one_quotient d e r q h k
one_joined Power d e r q h k = one_of_numbers IsPower one_power d e r q h k
one_joined _ d e r q h k = h ∙ sym k

one_from_now_at : (d : Document) (from : Option Document) → IsOne (IsFromNowAt d from)
one_from_now_at d None r q h k = one_from_now d None r q h k
one_from_now_at d (Some (text_value bs)) r q h k = one_from_now d (Some (text_value bs)) r q h k
one_from_now_at d (Some _) r q h k = h ∙ sym k

one_of_one : (f : Function) (scopes : List Document) (d : Document) → IsOne (IsOfOne f scopes d)
one_of_one Abs scopes d r q h k = one_absolute d r q h k
one_of_one Len scopes d r q h k = one_number (IsLengthOf d) (one_length d) r q h k
one_of_one Number scopes d r q h k = one_read d r q h k
one_of_one FromNow scopes d r q h k = one_from_now_at d _ r q h k
one_of_one _ scopes d r q h k = h ∙ sym k

one_of_two : (f : Function) (d e : Document) → IsOne (IsOfTwo f d e)
one_of_two Split d e r q h k = one_pieces d e r q h k
one_of_two FromNow d e r q h k = one_from_now_at d (Some e) r q h k
one_of_two _ d e r q h k = h ∙ sym k

one_of_three : (f : Function) (d e g : Document) → IsOne (IsOfThree f d e g)
one_of_three Range d e g r q h k = h ∙ sym k
one_of_three _ d e g r q h k = h ∙ sym k

one_of_many : (f : Function) (scopes ds : List Document) → IsOne (IsOfMany f scopes ds)
one_of_many f scopes (d ∷ []) r q h k = one_of_one f scopes d r q h k
one_of_many f scopes (d ∷ e ∷ []) r q h k = one_of_two f d e r q h k
one_of_many f scopes (d ∷ e ∷ g ∷ []) r q h k = one_of_three f d e g r q h k
one_of_many f scopes _ r q h k = h ∙ sym k

one_called : (f : Function) (scopes ds : List Document) → IsOne (IsCalled f scopes ds)
one_called Min scopes ds r q h k = h ∙ sym k
one_called Max scopes ds r q h k = h ∙ sym k
one_called f scopes ds r q h k = one_of_many f scopes ds r q h k

one_call : (f : Option Function) (scopes ds : List Document) → IsOne (IsCall f scopes ds)
one_call (Some f) scopes ds r q h k = one_called f scopes ds r q h k
one_call None scopes ds r q h k = h ∙ sym k

-- what follows a value has one outcome
abbrev OneFollows : {A : Type 0} → (A → ℕ → Outcome → Type 0) → Type 0
OneFollows {A} K = (a : A) (m : ℕ) (o p : Outcome) → K a m o → K a m p → o ≡ p

one_then : (K : Document → ℕ → Outcome → Type 0) → OneFollows K → (q o p : Outcome) → Then K q o → Then K q p → o ≡ p
one_then K one (given d m) o p h k = one d m o p h k
one_then K one (faulted f) o p h k = h ∙ sym k
one_then K one too_much o p h k = h ∙ sym k

one_at_node : (n : ℕ) (R : Result Document Fault → Type 0) → IsOne R → (K : Document → ℕ → Outcome → Type 0) → OneFollows K → (o p : Outcome) → AtNode n R K o → AtNode n R K p → o ≡ p
one_at_node n R one K follows o p (r, is, h) (q, also, k) = one_then K follows (at_node n r) o p h (subst (λ x. Then K (at_node n x) p) (one q r also is) k)

one_branch : (b : Bool) (A B : Outcome → Type 0) (o p : Outcome) → (A o → A p → o ≡ p) → (B o → B p → o ≡ p) → MatchBool b (A o) (B o) → MatchBool b (A p) (B p) → o ≡ p
one_branch true A B o p one other h k = one h k
one_branch false A B o p one other h k = other h k

one_key : (r : Result (List ℕ) Fault) (F : List ℕ → Outcome → Type 0) (o p : Outcome) → ((key : List ℕ) → F key o → F key p → o ≡ p) → WithKey r F o → WithKey r F p → o ≡ p
one_key (Ok key) F o p one h k = one key h k
one_key (Err f) F o p one h k = h ∙ sym k

mutual
  one_value : (s : Setting) (t : Tree) (n : ℕ) (K : Document → ℕ → Outcome → Type 0) → OneFollows K → (o p : Outcome) → Evaluates s t n K o → Evaluates s t n K p → o ≡ p
  one_value s (number d) n K follows o p h k = one_at_node n (IsNumber (IsInRange (pos (digits_from 0 (bytes_at s.source d))))) (one_number _ (one_in_range _)) K follows o p h k
  one_value s (text t) n K follows o p h k = one_at_node n (λ r. r ≡ quoted (text_at s.source t)) (one_same _) K follows o p h k
  one_value s (literal l) n K follows o p h k = one_at_node n (λ r. r ≡ Ok (literal_value l)) (one_same _) K follows o p h k
  one_value s (name w) n K follows o p h k = one_at_node n (λ r. r ≡ named s.scopes (text_at s.source w.span)) (one_same _) K follows o p h k
  one_value s (unary g a) n K follows o p h k =
      one_value s a n (λ d m. AtNode m (IsSigned g d) K) (λ d m x y i j. one_at_node m (IsSigned g d) (one_signed g d) K follows x y i j) o p h k
  one_value s (binary g a b) n K follows o p h k =
      one_value s a n (λ d m x. MatchBool (decides g d) (Then K (paid m (boolean (is_true d))) x) (Evaluates s b m (λ e l. AtNode l (IsJoined g d e) K) x))
      (λ d m x y i j.
      one_branch (decides g d) (λ z. Then K (paid m (boolean (is_true d))) z) (λ z. Evaluates s b m (λ e l. AtNode l (IsJoined g d e) K) z) x y
      (λ u v. one_then K follows (paid m (boolean (is_true d))) x y u v)
      (λ u v. one_value s b m (λ e l. AtNode l (IsJoined g d e) K) (λ e l z w c f. one_at_node l (IsJoined g d e) (one_joined g d e) K follows z w c f) x y u v) i j)
      o p h k
  one_value s (group a) n K follows o p h k =
      one_value s a n (λ d m. AtNode m (λ r. r ≡ Ok d) K) (λ d m x y i j. one_at_node m (λ r. r ≡ Ok d) (one_same _) K follows x y i j) o p h k
  one_value s (member a w) n K follows o p h k =
      one_value s a n (λ d m. AtNode m (λ r. r ≡ member_named d (text_at s.source w.span)) K) (λ d m x y i j. one_at_node m (λ r. r ≡ member_named d (text_at s.source w.span)) (one_same _) K follows x y i j) o p h k
  one_value s (index a b) n K follows o p h k =
      one_value s a n (λ d m. Evaluates s b m (λ e l. AtNode l (λ r. r ≡ indexed d e) K))
      (λ d m x y i j. one_value s b m (λ e l. AtNode l (λ r. r ≡ indexed d e) K) (λ e l z w c f. one_at_node l (λ r. r ≡ indexed d e) (one_same _) K follows z w c f) x y i j)
      o p h k
  one_value s (slice a from to) n K follows o p h k =
      one_value s a n (λ d m. SideEvaluates s from m (λ e l. SideEvaluates s to l (λ g j. AtNode j (λ r. r ≡ sliced d e g) K)))
      (λ d m x y i j.
      one_side s from m (λ e l. SideEvaluates s to l (λ g v. AtNode v (λ r. r ≡ sliced d e g) K))
      (λ e l z w c f. one_side s to l (λ g v. AtNode v (λ r. r ≡ sliced d e g) K) (λ g v a b t u. one_at_node v (λ r. r ≡ sliced d e g) (one_same _) K follows a b t u) z w c f)
      x y i j)
      o p h k
  one_value s (call w ts) n K follows o p h k =
      one_each s ts n (λ ds m. AtNode m (IsCall w.function s.scopes ds) K) (λ ds m x y i j. one_at_node m (IsCall w.function s.scopes ds) (one_call w.function s.scopes ds) K follows x y i j) o p h k
  one_value s (items ts) n K follows o p h k =
      one_each s ts n (λ ds m. AtNode m (λ r. r ≡ Ok (array (items_of ds))) K) (λ ds m x y i j. one_at_node m (λ r. r ≡ Ok (array (items_of ds))) (one_same _) K follows x y i j) o p h k
  one_value s (entries fs) n K follows o p h k =
      one_fields s fs n (λ ms m. AtNode m (λ r. r ≡ map_of ms) K) (λ ms m x y i j. one_at_node m (λ r. r ≡ map_of ms) (one_same _) K follows x y i j) o p h k

  one_side : (s : Setting) (t : Side) (n : ℕ) (K : Option Document → ℕ → Outcome → Type 0) → OneFollows K → (o p : Outcome) → SideEvaluates s t n K o → SideEvaluates s t n K p → o ≡ p
  one_side s absent n K follows o p h k = follows None n o p h k
  one_side s (present a) n K follows o p h k = one_value s a n (λ d m. K (Some d) m) (λ d m x y i j. follows (Some d) m x y i j) o p h k

  one_each : (s : Setting) (ts : Trees) (n : ℕ) (K : List Document → ℕ → Outcome → Type 0) → OneFollows K → (o p : Outcome) → EachEvaluates s ts n K o → EachEvaluates s ts n K p → o ≡ p
  one_each s no_trees n K follows o p h k = follows [] n o p h k
  one_each s (tree a ts) n K follows o p h k =
      one_value s a n (λ d m. EachEvaluates s ts m (λ ds. K (d ∷ ds))) (λ d m x y i j. one_each s ts m (λ ds. K (d ∷ ds)) (λ ds l z w c f. follows (d ∷ ds) l z w c f) x y i j) o p h k

  one_fields : (s : Setting) (fs : Fields) (n : ℕ) (K : List (List ℕ × Document) → ℕ → Outcome → Type 0) → OneFollows K → (o p : Outcome) → FieldsEvaluate s fs n K o → FieldsEvaluate s fs n K p → o ≡ p
  one_fields s no_fields n K follows o p h k = follows [] n o p h k
  one_fields s (field f a fs) n K follows o p h k =
      one_value s a n (λ d m. WithKey (text_at s.source (key_span f)) (λ key. FieldsEvaluate s fs m (λ ms. K ((key, d) ∷ ms))))
      (λ d m x y i j.
      one_key (text_at s.source (key_span f)) (λ key. FieldsEvaluate s fs m (λ ms. K ((key, d) ∷ ms))) x y
      (λ key u v. one_fields s fs m (λ ms. K ((key, d) ∷ ms)) (λ ms l z w c e. follows ((key, d) ∷ ms) l z w c e) x y u v) i j)
      o p h k

pub one_outcome : (s : Setting) (t : Tree) (n : ℕ) (o p : Outcome) → IsOutcome s t n o → IsOutcome s t n p → o ≡ p
one_outcome s t n o p h k = one_value s t n (λ d m q. q ≡ given d m) (λ d m x y i j. i ∙ sym j) o p h k
