-- An expression has an outcome.
use Rattle.std.proofs.Common.{◌≡◌, ℕ, List, [], ◌∷◌, Option, Some, None, Result, Ok, Err, pos}
use Rattle.std.specs.Bool.{MatchBool}
use Rattle.farm_text.specs.Document.{Document, text as text_value, boolean, array, items_of}
use Rattle.jsone_values.specs.declared.faults.Fault.{Fault}
use Rattle.jsone_values.specs.declared.faults.Fault.TheVariants.{WrongKind, UnknownName}
use Rattle.jsone_values.specs.Builtins.{IsLengthOf}
use Rattle.jsone_values.specs.Indexes.{indexed, sliced}
use Rattle.jsone_values.specs.Maps.{map_of}
use Rattle.jsone_values.specs.Numbers.{IsInRange, IsQuotient, IsPower, digits_from}
use Rattle.jsone_values.specs.Operators.{IsNumber}
use Rattle.jsone_values.specs.Truth.{is_true}
use Rattle.jsone_expr.specs.declared.functions.Function.{Function}
use Rattle.jsone_expr.specs.declared.functions.Function.TheVariants.{Min, Max, Abs, Len, Number, Split, Range, FromNow}
use Rattle.jsone_expr.specs.declared.marks.Operator.{Operator}
use Rattle.jsone_expr.specs.declared.marks.Operator.TheVariants.{Within, Equal, NotEqual, Plus, Minus, Times, Over, Power}
use Rattle.jsone_expr.specs.declared.marks.Sign.{Sign}
use Rattle.jsone_expr.specs.declared.marks.Sign.TheVariants.{Denied, Negative, Positive}
use Rattle.jsone_expr.specs.Trees.{Tree, number, text, literal, name, unary, binary, group, member, index, slice, call, items, entries, Side, absent, present, Trees, no_trees, tree, Fields, no_fields, field}
use Rattle.jsone_eval.specs.Calls.{IsFromNowAt, IsOfOne, IsOfTwo, IsOfThree, IsOfMany, IsCalled, IsCall}
use Rattle.jsone_eval.specs.Operators.{IsSigned, decides, IsJoined}
use Rattle.jsone_eval.specs.Outcomes.{Outcome, given, faulted, too_much, paid, at_node, Then, AtNode}
use Rattle.jsone_eval.specs.Values.{Setting, bytes_at, text_at, quoted, literal_value, named, member_named, key_span, WithKey, Evaluates, SideEvaluates, EachEvaluates, FieldsEvaluate, IsOutcome}
use Rattle.jsone_eval.proofs.Existence.{Exists, here, some_same, follow, some_branch}
use Rattle.jsone_eval.proofs.SomeResult.{some_in_range, some_number, some_quotient, some_power, some_of_numbers, some_sum, some_negated, some_kept, some_truth, some_within, some_length, some_absolute, some_read, some_pieces, some_from_now}

some_signed : (g : Sign) (d : Document) → Exists (IsSigned g d)
some_signed Denied d = some_same _
some_signed Negative d = some_negated d
some_signed Positive d = some_kept d

some_joined : (g : Operator) (d e : Document) → Exists (IsJoined g d e)
some_joined Within d e = some_within d e
some_joined Equal d e = some_truth (d ≡ e)
some_joined NotEqual d e = some_truth (¬ (d ≡ e))
some_joined Plus d e = some_sum d e
some_joined Minus d e = some_of_numbers _ (λ a b. some_in_range _) d e
some_joined Times d e = some_of_numbers _ (λ a b. some_in_range _) d e
some_joined Over d e = some_of_numbers IsQuotient some_quotient d e
some_joined Power d e = some_of_numbers IsPower some_power d e
some_joined _ d e = some_same _

pub some_from_now_at : (d : Document) (from : Option Document) → Exists (IsFromNowAt d from)
some_from_now_at d None = some_from_now d None
some_from_now_at d (Some (text_value bs)) = some_from_now d (Some (text_value bs))
some_from_now_at d (Some _) = some_same (Err WrongKind)

some_of_one : (f : Function) (scopes : List Document) (d : Document) → Exists (IsOfOne f scopes d)
some_of_one Abs scopes d = some_absolute d
some_of_one Len scopes d = some_number (IsLengthOf d) (some_length d)
some_of_one Number scopes d = some_read d
some_of_one FromNow scopes d = some_from_now_at d _
some_of_one _ scopes d = some_same _

some_of_two : (f : Function) (d e : Document) → Exists (IsOfTwo f d e)
some_of_two Split d e = some_pieces d e
some_of_two FromNow d e = some_from_now_at d (Some e)
some_of_two _ d e = some_same _

some_of_three : (f : Function) (d e g : Document) → Exists (IsOfThree f d e g)
some_of_three Range d e g = some_same _
some_of_three _ d e g = some_same _

some_of_many : (f : Function) (scopes ds : List Document) → Exists (IsOfMany f scopes ds)
some_of_many f scopes (d ∷ []) = some_of_one f scopes d
some_of_many f scopes (d ∷ e ∷ []) = some_of_two f d e
some_of_many f scopes (d ∷ e ∷ g ∷ []) = some_of_three f d e g
some_of_many f scopes _ = some_same (Err WrongKind)

some_called : (f : Function) (scopes ds : List Document) → Exists (IsCalled f scopes ds)
some_called Min scopes ds = some_same _
some_called Max scopes ds = some_same _
some_called f scopes ds = some_of_many f scopes ds

some_call : (f : Option Function) (scopes ds : List Document) → Exists (IsCall f scopes ds)
some_call (Some f) scopes ds = some_called f scopes ds
some_call None scopes ds = some_same (Err UnknownName)

-- what follows a value has an outcome
abbrev SomeFollows : {A : Type 0} → (A → ℕ → Outcome → Type 0) → Type 0
SomeFollows {A} K = (a : A) (m : ℕ) → Exists (K a m)

some_then : (K : Document → ℕ → Outcome → Type 0) → SomeFollows K → (q : Outcome) → Exists (Then K q)
some_then K some (given d m) = some d m
some_then K some (faulted f) = some_same (faulted f)
some_then K some too_much = some_same too_much

some_at_node : (n : ℕ) (R : Result Document Fault → Type 0) → Exists R → (K : Document → ℕ → Outcome → Type 0) → SomeFollows K → Exists (AtNode n R K)
some_at_node n R some K follows = follow some (λ r. follow (some_then K follows (at_node n r.0)) (λ o. here (AtNode n R K) o.0 (r.0, r.1, o.1)))

some_key : (r : Result (List ℕ) Fault) (F : List ℕ → Outcome → Type 0) → ((key : List ℕ) → Exists (F key)) → Exists (WithKey r F)
some_key (Ok key) F some = some key
some_key (Err f) F some = some_same (faulted f)

mutual
  some_value : (s : Setting) (t : Tree) (n : ℕ) (K : Document → ℕ → Outcome → Type 0) → SomeFollows K → Exists (Evaluates s t n K)
  some_value s (number d) n K follows = some_at_node n (IsNumber (IsInRange (pos (digits_from 0 (bytes_at s.source d))))) (some_number _ (some_in_range _)) K follows
  some_value s (text t) n K follows = some_at_node n (λ r. r ≡ quoted (text_at s.source t)) (some_same _) K follows
  some_value s (literal l) n K follows = some_at_node n (λ r. r ≡ Ok (literal_value l)) (some_same _) K follows
  some_value s (name w) n K follows = some_at_node n (λ r. r ≡ named s.scopes (text_at s.source w.span)) (some_same _) K follows
  some_value s (unary g a) n K follows = some_value s a n (λ d m. AtNode m (IsSigned g d) K) (λ d m. some_at_node m (IsSigned g d) (some_signed g d) K follows)
  some_value s (binary g a b) n K follows =
      some_value s a n (λ d m x. MatchBool (decides g d) (Then K (paid m (boolean (is_true d))) x) (Evaluates s b m (λ e l. AtNode l (IsJoined g d e) K) x))
      (λ d m.
      some_branch (decides g d) (λ x. Then K (paid m (boolean (is_true d))) x) (λ x. Evaluates s b m (λ e l. AtNode l (IsJoined g d e) K) x)
      (some_then K follows (paid m (boolean (is_true d))))
      (some_value s b m (λ e l. AtNode l (IsJoined g d e) K) (λ e l. some_at_node l (IsJoined g d e) (some_joined g d e) K follows)))
  some_value s (group a) n K follows = some_value s a n (λ d m. AtNode m (λ r. r ≡ Ok d) K) (λ d m. some_at_node m (λ r. r ≡ Ok d) (some_same _) K follows)
  some_value s (member a w) n K follows =
      some_value s a n (λ d m. AtNode m (λ r. r ≡ member_named d (text_at s.source w.span)) K) (λ d m. some_at_node m (λ r. r ≡ member_named d (text_at s.source w.span)) (some_same _) K follows)
  some_value s (index a b) n K follows =
      some_value s a n (λ d m. Evaluates s b m (λ e l. AtNode l (λ r. r ≡ indexed d e) K))
      (λ d m. some_value s b m (λ e l. AtNode l (λ r. r ≡ indexed d e) K) (λ e l. some_at_node l (λ r. r ≡ indexed d e) (some_same _) K follows))
  some_value s (slice a from to) n K follows =
      some_value s a n (λ d m. SideEvaluates s from m (λ e l. SideEvaluates s to l (λ g j. AtNode j (λ r. r ≡ sliced d e g) K)))
      (λ d m.
      some_side s from m (λ e l. SideEvaluates s to l (λ g v. AtNode v (λ r. r ≡ sliced d e g) K))
      (λ e l. some_side s to l (λ g v. AtNode v (λ r. r ≡ sliced d e g) K) (λ g v. some_at_node v (λ r. r ≡ sliced d e g) (some_same _) K follows)))
  some_value s (call w ts) n K follows =
      some_each s ts n (λ ds m. AtNode m (IsCall w.function s.scopes ds) K) (λ ds m. some_at_node m (IsCall w.function s.scopes ds) (some_call w.function s.scopes ds) K follows)
  some_value s (items ts) n K follows = some_each s ts n (λ ds m. AtNode m (λ r. r ≡ Ok (array (items_of ds))) K) (λ ds m. some_at_node m (λ r. r ≡ Ok (array (items_of ds))) (some_same _) K follows)
  some_value s (entries fs) n K follows = some_fields s fs n (λ ms m. AtNode m (λ r. r ≡ map_of ms) K) (λ ms m. some_at_node m (λ r. r ≡ map_of ms) (some_same _) K follows)

  some_side : (s : Setting) (t : Side) (n : ℕ) (K : Option Document → ℕ → Outcome → Type 0) → SomeFollows K → Exists (SideEvaluates s t n K)
  some_side s absent n K follows = follows None n
  some_side s (present a) n K follows = some_value s a n (λ d m. K (Some d) m) (λ d m. follows (Some d) m)

  some_each : (s : Setting) (ts : Trees) (n : ℕ) (K : List Document → ℕ → Outcome → Type 0) → SomeFollows K → Exists (EachEvaluates s ts n K)
  some_each s no_trees n K follows = follows [] n
  some_each s (tree a ts) n K follows = some_value s a n (λ d m. EachEvaluates s ts m (λ ds. K (d ∷ ds))) (λ d m. some_each s ts m (λ ds. K (d ∷ ds)) (λ ds l. follows (d ∷ ds) l))

  some_fields : (s : Setting) (fs : Fields) (n : ℕ) (K : List (List ℕ × Document) → ℕ → Outcome → Type 0) → SomeFollows K → Exists (FieldsEvaluate s fs n K)
  some_fields s no_fields n K follows = follows [] n
  some_fields s (field f a fs) n K follows =
      some_value s a n (λ d m. WithKey (text_at s.source (key_span f)) (λ key. FieldsEvaluate s fs m (λ ms. K ((key, d) ∷ ms))))
      (λ d m.
      some_key (text_at s.source (key_span f)) (λ key. FieldsEvaluate s fs m (λ ms. K ((key, d) ∷ ms)))
      (λ key. some_fields s fs m (λ ms. K ((key, d) ∷ ms)) (λ ms l. follows ((key, d) ∷ ms) l)))

pub some_outcome : (s : Setting) (t : Tree) (n : ℕ) → Exists (IsOutcome s t n)
some_outcome s t n = some_value s t n (λ d m q. q ≡ given d m) (λ d m. some_same (given d m))
