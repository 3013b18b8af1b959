-- The value of an expression (JSON-e, "Language"), as equations on trees.
use Rattle.std.specs.Prelude.{◌≡◌, ℕ, pos, ◌-◌, true, false, List, [], ◌∷◌, take, drop, if◌then◌else◌, Option, Some, None, Result, Ok, Err}
use Rattle.std.specs.Bool.{MatchBool}
use Rattle.std.specs.Str.{is_utf8}
use Rattle.farm_text.specs.Document.{Document, null, boolean, text, array, items_of}
use Rattle.jsone_values.specs.declared.faults.Fault.{Fault}
use Rattle.jsone_values.specs.declared.faults.Fault.TheVariants.{Syntax, UnknownName}
use Rattle.jsone_values.specs.Indexes.{indexed, sliced}
use Rattle.jsone_values.specs.Maps.{map_of}
use Rattle.jsone_values.specs.Members.{member_of}
use Rattle.jsone_values.specs.Numbers.{IsInRange, digits_from}
use Rattle.jsone_values.specs.Operators.{IsNumber}
use Rattle.jsone_values.specs.Truth.{is_true}
use Rattle.jsone_expr.specs.declared.marks.Literal.{Literal}
use Rattle.jsone_expr.specs.declared.marks.Literal.TheVariants.{True, False, Null}
use Rattle.jsone_expr.specs.declared.tokens.Span.{Span}
use Rattle.jsone_expr.specs.declared.tokens.Key.{Key}
use Rattle.jsone_expr.specs.declared.tokens.Key.TheVariants.{Plain, InQuotes}
use Rattle.jsone_expr.specs.Trees.{Tree, number, text as text_tree, literal, name, unary, binary, group, member, index, slice, call, items, entries, Side, absent, present, Trees, no_trees, tree, Fields, no_fields, field}
use Rattle.jsone_eval.specs.Calls.{IsCall}
use Rattle.jsone_eval.specs.Operators.{IsSigned, decides, IsJoined}
use Rattle.jsone_eval.specs.Outcomes.{Outcome, given, faulted, paid, Then, AtNode}
use Rattle.jsone_eval.specs.Scopes.{bound}

-- the bytes of the text from a place up to another
abbrev pub bytes_at : List ℕ → Span → List ℕ
bytes_at source place = take (place.to - place.from) (drop place.from source)

-- the text that stands there; bytes that are no UTF-8 are no text
abbrev pub text_at : List ℕ → Span → Result (List ℕ) Fault
text_at source place = if is_utf8 (bytes_at source place) then Ok (bytes_at source place) else Err Syntax

abbrev pub quoted : Result (List ℕ) Fault → Result Document Fault
quoted (Ok bs) = Ok (text bs)
quoted (Err f) = Err f

abbrev pub literal_value : Literal → Document
literal_value True = boolean true
literal_value False = boolean false
literal_value Null = null

abbrev pub or_unknown : Option Document → Result Document Fault
or_unknown (Some d) = Ok d
or_unknown None = Err UnknownName

abbrev pub named : List Document → Result (List ℕ) Fault → Result Document Fault
named scopes (Ok key) = or_unknown (bound key scopes)
named scopes (Err f) = Err f

abbrev pub member_named : Document → Result (List ℕ) Fault → Result Document Fault
member_named d (Ok key) = member_of key d
member_named d (Err f) = Err f

abbrev pub key_span : Key → Span
key_span (Plain w) = w.span
key_span (InQuotes place) = place

-- a key of a map, and then what follows
abbrev pub WithKey : Result (List ℕ) Fault → (List ℕ → Outcome → Type 0) → Outcome → Type 0
WithKey (Ok key) Follows o = Follows key o
WithKey (Err f) Follows o = o ≡ faulted f

-- where an expression is evaluated: the text that it stands in, and the maps that bind names, of which each hides those before it
pub record Setting : Type 0 where
  pub source : List ℕ
  pub scopes : List Document

abbrev mutual
  -- the outcome, where the value of the tree, and all that is paid by then, go on to what follows
  pub Evaluates : Setting → Tree → ℕ → (Document → ℕ → Outcome → Type 0) → Outcome → Type 0
  Evaluates s (number d) n Follows o = AtNode n (IsNumber (IsInRange (pos (digits_from 0 (bytes_at s.source d))))) Follows o
  Evaluates s (text_tree t) n Follows o = AtNode n (λ r. r ≡ quoted (text_at s.source t)) Follows o
  Evaluates s (literal l) n Follows o = AtNode n (λ r. r ≡ Ok (literal_value l)) Follows o
  Evaluates s (name w) n Follows o = AtNode n (λ r. r ≡ named s.scopes (text_at s.source w.span)) Follows o
  Evaluates s (unary g a) n Follows o = Evaluates s a n (λ d m. AtNode m (IsSigned g d) Follows) o
  Evaluates s (binary g a b) n Follows o =
      Evaluates s a n (λ d m p. MatchBool (decides g d) (Then Follows (paid m (boolean (is_true d))) p) (Evaluates s b m (λ e k. AtNode k (IsJoined g d e) Follows) p)) o
  Evaluates s (group a) n Follows o = Evaluates s a n (λ d m. AtNode m (λ r. r ≡ Ok d) Follows) o
  Evaluates s (member a w) n Follows o = Evaluates s a n (λ d m. AtNode m (λ r. r ≡ member_named d (text_at s.source w.span)) Follows) o
  Evaluates s (index a b) n Follows o = Evaluates s a n (λ d m. Evaluates s b m (λ e k. AtNode k (λ r. r ≡ indexed d e) Follows)) o
  Evaluates s (slice a from to) n Follows o =
      Evaluates s a n (λ d m. SideEvaluates s from m (λ e k. SideEvaluates s to k (λ g j. AtNode j (λ r. r ≡ sliced d e g) Follows))) o
  Evaluates s (call w ts) n Follows o = EachEvaluates s ts n (λ ds m. AtNode m (IsCall w.function s.scopes ds) Follows) o
  Evaluates s (items ts) n Follows o = EachEvaluates s ts n (λ ds m. AtNode m (λ r. r ≡ Ok (array (items_of ds))) Follows) o
  Evaluates s (entries fs) n Follows o = FieldsEvaluate s fs n (λ ms m. AtNode m (λ r. r ≡ map_of ms) Follows) o

  pub SideEvaluates : Setting → Side → ℕ → (Option Document → ℕ → Outcome → Type 0) → Outcome → Type 0
  SideEvaluates s absent n Follows o = Follows None n o
  SideEvaluates s (present a) n Follows o = Evaluates s a n (λ d m. Follows (Some d) m) o

  pub EachEvaluates : Setting → Trees → ℕ → (List Document → ℕ → Outcome → Type 0) → Outcome → Type 0
  EachEvaluates s no_trees n Follows o = Follows [] n o
  EachEvaluates s (tree a ts) n Follows o = Evaluates s a n (λ d m. EachEvaluates s ts m (λ ds. Follows (d ∷ ds))) o

  pub FieldsEvaluate : Setting → Fields → ℕ → (List (List ℕ × Document) → ℕ → Outcome → Type 0) → Outcome → Type 0
  FieldsEvaluate s no_fields n Follows o = Follows [] n o
  FieldsEvaluate s (field k a fs) n Follows o =
      Evaluates s a n (λ d m. WithKey (text_at s.source (key_span k)) (λ key. FieldsEvaluate s fs m (λ ms. Follows ((key, d) ∷ ms)))) o

-- the outcome of the whole expression, where so much was paid before
abbrev pub IsOutcome : Setting → Tree → ℕ → Outcome → Type 0
IsOutcome s t spent o = Evaluates s t spent (λ d n p. p ≡ given d n) o
