-- `$sort`: the members in rising order of their keys, and those of equal keys as they stood (JSON-e, "$sort").
use Rattle.std.specs.Prelude.{◌≡◌, ℕ, Bool, true, false, ◌||◌, List, [], ◌∷◌, ◌++◌, map, Option, Result, Ok, Err}
use Rattle.std.specs.declared.cmp.Ordering.{Ordering}
use Rattle.std.specs.Ordering.{nat_cmp, int_cmp, is_lt}
use Rattle.std.specs.Bool.{MatchBool}
use Rattle.std.specs.Cmp.Lexicographic.{slice_cmp}
use Rattle.std.specs.List.{list_all}
use Rattle.std.specs.List.Sorted.{IsSortedBy, IsStableBy}
use Rattle.farm_text.specs.Document.{Document, whole, text, array, items_of}
use Rattle.jsone_values.specs.declared.faults.Fault.{Fault}
use Rattle.jsone_values.specs.declared.faults.Fault.TheVariants.{WrongKind}
use Rattle.jsone_values.specs.Members.{listed}
use Rattle.jsone_render.specs.Bindings.{bound_to}
use Rattle.jsone_render.specs.Expressions.{Evaluated, OfText}
use Rattle.jsone_render.specs.Outcomes.{Outcome, given, faulted, at_operator, as_found, After, Meaning}

-- numbers, and then texts, by their bytes; others, of which no list is sorted, tie
abbrev pub kind_rank : Document → ℕ
kind_rank (whole z) = 0
kind_rank (text bs) = 1
kind_rank _ = 2

abbrev pub key_order : Document → Document → Ordering
key_order (whole a) (whole b) = int_cmp a b
key_order (text s) (text t) = slice_cmp nat_cmp s t
key_order d e = nat_cmp (kind_rank d) (kind_rank e)

-- a key and its member
abbrev pub comes_before : Document × Document → Document × Document → Bool
comes_before p q = is_lt (key_order p.0 q.0)

abbrev pub is_whole : Document → Bool
is_whole (whole z) = true
is_whole _ = false

abbrev pub is_text : Document → Bool
is_text (text bs) = true
is_text _ = false

-- all are numbers, or all are texts
abbrev pub are_of_one_kind : List (Document × Document) → Bool
are_of_one_kind ps = list_all (λ p. is_whole p.0) ps || list_all (λ p. is_text p.0) ps

-- the members in rising order of their keys
abbrev pub IsSorting : List (Document × Document) → List Document → Type 0
IsSorting ps ds = (qs : List (Document × Document)) × IsSortedBy comes_before qs × IsStableBy comes_before ps qs × (ds ≡ map (λ q. q.1) qs)

abbrev pub IsSortOf : List (Document × Document) → Result Document Fault → Type 0
IsSortOf ps r = MatchBool (are_of_one_kind ps) ((ds : List Document) × IsSorting ps ds × (r ≡ Ok (array (items_of ds)))) (r ≡ Err WrongKind)

-- without a key that binds, each is its own key
abbrev pub IsSortAlone : Document → Result Document Fault → Type 0
IsSortAlone (array ds) r = IsSortOf (map (λ d. (d, d)) (listed ds)) r
IsSortAlone _ r = r ≡ Err WrongKind

-- the members with their keys, behind those that have theirs
abbrev pub KeysEvaluated : List ℕ → List (List ℕ) → List (Document × Document) → List Document → List Document → ℕ → Outcome (List (Document × Document)) → Type 0
KeysEvaluated source names done [] scopes n o = o ≡ given done n
KeysEvaluated source names done (d ∷ ds) scopes n o =
    After (Evaluated source (scopes ++ bound_to names (d ∷ [])) n) (λ key m. KeysEvaluated source names (done ++ (key, d) ∷ []) ds scopes m) o

abbrev pub Sorted : List (Document × Document) → ℕ → Outcome (Option Document) → Type 0
Sorted ps n o = (r : Result Document Fault) × IsSortOf ps r × (o ≡ at_operator n (as_found r))

abbrev pub SortedBy : Option Document → List (List ℕ) → Document → Meaning
SortedBy source names (array ds) scopes n o = OfText source (λ e. After (KeysEvaluated e names [] (listed ds) scopes n) Sorted) o
SortedBy source names _ scopes n o = o ≡ faulted WrongKind []
