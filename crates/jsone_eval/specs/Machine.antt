-- Evaluating node by node, over the values and the lists that are not whole yet, the last one first.
use Rattle.std.specs.Prelude.{◌≡◌, ℕ, zero, suc, pos, Bool, true, false, List, [], ◌∷◌, ◌++◌, map, reverse, Option, Some, None, Result, Ok, Err}
use Rattle.std.specs.Bool.{MatchBool}
use Rattle.farm_text.specs.Document.{Document, null, boolean, array, items_of}
use Rattle.farm_text.specs.Doc.{document, documents, entries_of}
use Rattle.farm_text.specs.declared.doc.Doc.{Doc}
use Rattle.jsone_values.specs.declared.faults.Fault.{Fault}
use Rattle.jsone_values.specs.declared.faults.Stop.{Stop}
use Rattle.jsone_values.specs.declared.faults.Stop.TheVariants.{Fault as a_fault, NoMemory}
use Rattle.jsone_values.specs.Indexes.{indexed, sliced}
use Rattle.jsone_values.specs.Maps.{map_of}
use Rattle.jsone_values.specs.Numbers.{IsInRange, digits_from}
use Rattle.jsone_values.specs.Operators.{IsNumber}
use Rattle.jsone_values.specs.Truth.{is_true}
use Rattle.jsone_expr.specs.declared.nodes.Node.{Node}
use Rattle.jsone_expr.specs.declared.nodes.Node.TheVariants.{Number as number_node, Text as text_node, Literal as literal_node, Name as name_node, Unary as unary_node, Left as left_node, Binary as binary_node, Group as group_node, Member as member_node, Index as index_node, Slice as slice_node, Begin as begin_node, Item as item_node, Call as call_node, Items as items_node, Field as field_node, Entries as entries_node}
use Rattle.jsone_eval.specs.Calls.{IsCall}
use Rattle.jsone_eval.specs.Operators.{IsSigned, decides, IsJoined}
use Rattle.jsone_eval.specs.Outcomes.{Outcome, given, faulted, too_much, paid, at_node}
use Rattle.jsone_eval.specs.Values.{Setting, bytes_at, text_at, quoted, literal_value, named, member_named, key_span}
use Rattle.jsone_eval.specs.declared.evaluator.EvalFault.{EvalFault}
use Rattle.jsone_eval.specs.declared.evaluator.EvalFault.TheVariants.{Fault as eval_fault, TooMuchWork, NoMemory as no_memory}
use Rattle.jsone_eval.specs.declared.parts.Gathered.{Gathered}
use Rattle.jsone_eval.specs.declared.machine.Machine.{Machine}

-- what was gathered of a list, or of a map
abbrev pub Part : Type 0
Part = List Document × List (List ℕ × Document)

abbrev pub top : List Document → Document
top [] = null
top (d ∷ ds) = d

abbrev pub top_part : List Part → Part
top_part [] = ([], [])
top_part (g ∷ gs) = g

abbrev pub below : {A : Type 0} → List A → List A
below [] = []
below (x ∷ xs) = xs

-- between two nodes: the values, the parts, how many right sides are passed over, and what was paid
pub data Moved : Type 0 where
  went : List Document → List Part → ℕ → ℕ → Moved
  ended : Outcome → Moved

-- a value on top of others
abbrev pub pushed : List Document → List Part → ℕ → Outcome → Moved
pushed vs gs k (given d n) = went (d ∷ vs) gs k n
pushed vs gs k (faulted f) = ended (faulted f)
pushed vs gs k too_much = ended too_much

abbrev pub IsPushed : ℕ → (Result Document Fault → Type 0) → List Document → List Part → ℕ → Moved → Type 0
IsPushed n IsResult vs gs k p = (r : Result Document Fault) × IsResult r × (p ≡ pushed vs gs k (at_node n r))

abbrev pub with_item : Document → List Part → List Part
with_item d gs = ((top_part gs).0 ++ d ∷ [], (top_part gs).1) ∷ below gs

abbrev pub with_member : List ℕ → Document → List Part → List Part
with_member key d gs = ((top_part gs).0, (top_part gs).1 ++ (key, d) ∷ []) ∷ below gs

abbrev pub IsGathered : Result (List ℕ) Fault → List Document → List Part → ℕ → ℕ → Moved → Type 0
IsGathered (Ok key) vs gs k n p = p ≡ went (below vs) (with_member key (top vs) gs) k n
IsGathered (Err f) vs gs k n p = p ≡ ended (faulted f)

-- a side of a slice, if it is there
abbrev pub side_top : Bool → List Document → Option Document
side_top true vs = Some (top vs)
side_top false vs = None

abbrev pub side_below : Bool → List Document → List Document
side_below true vs = below vs
side_below false vs = vs

-- one node
abbrev pub IsStep : Setting → Node → List Document → List Part → ℕ → ℕ → Moved → Type 0
IsStep s (number_node d) vs gs k n p = IsPushed n (IsNumber (IsInRange (pos (digits_from 0 (bytes_at s.source d))))) vs gs k p
IsStep s (text_node t) vs gs k n p = IsPushed n (λ r. r ≡ quoted (text_at s.source t)) vs gs k p
IsStep s (literal_node l) vs gs k n p = IsPushed n (λ r. r ≡ Ok (literal_value l)) vs gs k p
IsStep s (name_node w) vs gs k n p = IsPushed n (λ r. r ≡ named s.scopes (text_at s.source w.span)) vs gs k p
IsStep s (unary_node g) vs gs k n p = IsPushed n (IsSigned g (top vs)) (below vs) gs k p
IsStep s (left_node g) vs gs k n p = MatchBool (decides g (top vs)) (p ≡ pushed (below vs) gs (suc k) (paid n (boolean (is_true (top vs))))) (p ≡ went vs gs k n)
IsStep s (binary_node g) vs gs k n p = IsPushed n (IsJoined g (top (below vs)) (top vs)) (below (below vs)) gs k p
IsStep s group_node vs gs k n p = IsPushed n (λ r. r ≡ Ok (top vs)) (below vs) gs k p
IsStep s (member_node w) vs gs k n p = IsPushed n (λ r. r ≡ member_named (top vs) (text_at s.source w.span)) (below vs) gs k p
IsStep s index_node vs gs k n p = IsPushed n (λ r. r ≡ indexed (top (below vs)) (top vs)) (below (below vs)) gs k p
IsStep s (slice_node from to) vs gs k n p =
    let us = side_below to vs in
    let ts = side_below from us in
    IsPushed n (λ r. r ≡ sliced (top ts) (side_top from us) (side_top to vs)) (below ts) gs k p
IsStep s begin_node vs gs k n p = p ≡ went vs (([], []) ∷ gs) k n
IsStep s item_node vs gs k n p = p ≡ went (below vs) (with_item (top vs) gs) k n
IsStep s (call_node w) vs gs k n p = IsPushed n (IsCall w.function s.scopes (top_part gs).0) vs (below gs) k p
IsStep s items_node vs gs k n p = IsPushed n (λ r. r ≡ Ok (array (items_of (top_part gs).0))) vs (below gs) k p
IsStep s (field_node key) vs gs k n p = IsGathered (text_at s.source (key_span key)) vs gs k n p
IsStep s entries_node vs gs k n p = IsPushed n (λ r. r ≡ map_of (top_part gs).1) vs (below gs) k p

abbrev pub one_less : ℕ → ℕ
one_less zero = zero
one_less (suc k) = k

-- how many right sides are still passed over behind a node of one of them
abbrev pub passed : Node → ℕ → ℕ
passed (left_node g) k = suc k
passed (binary_node g) k = one_less k
passed _ k = k

abbrev pub Goes : (List Document → List Part → ℕ → ℕ → Outcome → Type 0) → Moved → Outcome → Type 0
Goes More (went vs gs k n) o = More vs gs k n o
Goes More (ended p) o = o ≡ p

-- all nodes in turn
abbrev pub Runs : Setting → List Node → List Document → List Part → ℕ → ℕ → Outcome → Type 0
Runs s [] vs gs k n o = o ≡ given (top vs) n
Runs s (x ∷ xs) vs gs zero n o = (p : Moved) × IsStep s x vs gs zero n p × Goes (Runs s xs) p o
Runs s (x ∷ xs) vs gs (suc k) n o = Runs s xs vs gs (passed x (suc k)) n o

-- what the machine holds
abbrev pub values_in : Machine → List Document
values_in m = reverse (documents m.values.items)

abbrev pub part_of : Gathered → Part
part_of g = (documents g.values.items, entries_of g.members.items)

abbrev pub parts_in : Machine → List Part
parts_in m = map part_of (reverse m.gathered.items)

-- what a step of the machine did, unless memory ran out
abbrev pub Does : {A : Type 0} → (Moved → Type 0) → Result A EvalFault → Machine → Type 0
Does IsMoved (Ok u) m = IsMoved (went (values_in m) (parts_in m) m.passed m.spent)
Does IsMoved (Err (eval_fault f)) m = IsMoved (ended (faulted f))
Does IsMoved (Err TooMuchWork) m = IsMoved (ended too_much)
Does IsMoved (Err no_memory) m = Unit {0}

-- whatever follows the node, goes on from there
abbrev pub Leads : {A : Type 0} → Setting → Node → List Document → List Part → ℕ → ℕ → Result A EvalFault → Machine → Type 0
Leads s x vs gs k n (Ok u) m = (xs : List Node) (o : Outcome) → Runs s xs (values_in m) (parts_in m) m.passed m.spent o → Runs s (x ∷ xs) vs gs k n o
Leads s x vs gs k n (Err (eval_fault f)) m = (xs : List Node) → Runs s (x ∷ xs) vs gs k n (faulted f)
Leads s x vs gs k n (Err TooMuchWork) m = (xs : List Node) → Runs s (x ∷ xs) vs gs k n too_much
Leads s x vs gs k n (Err no_memory) m = Unit {0}

-- why nothing was made
abbrev pub fault_of : Stop → EvalFault
fault_of (a_fault f) = eval_fault f
fault_of NoMemory = no_memory

-- what was made of a value, or of what keeps it, by paying for it
abbrev pub Pays : {A : Type 0} → Result Doc Stop → List Document → List Part → ℕ → ℕ → Result A EvalFault → Machine → Type 0
Pays (Ok d) vs gs k n r m = Does (λ p. p ≡ pushed vs gs k (paid n (document d))) r m
Pays (Err s) vs gs k n r m = r ≡ Err (fault_of s)

-- the same where nothing is made of what weighs more than may be paid
abbrev pub PaysWithin : {A : Type 0} → Result (Option Doc) Stop → List Document → List Part → ℕ → ℕ → Result A EvalFault → Machine → Type 0
PaysWithin (Ok (Some d)) vs gs k n r m = Does (λ p. p ≡ pushed vs gs k (paid n (document d))) r m
PaysWithin (Ok None) vs gs k n r m = r ≡ Err TooMuchWork
PaysWithin (Err s) vs gs k n r m = r ≡ Err (fault_of s)

-- what a machine answers at the end, or where it ended before
abbrev pub Answers : (Outcome → Type 0) → Result Doc EvalFault → ℕ → ℕ → Type 0
Answers IsOutcome (Ok d) before after = IsOutcome (given (document d) after)
Answers IsOutcome (Err (eval_fault f)) before after = IsOutcome (faulted f) × (after ≡ before)
Answers IsOutcome (Err TooMuchWork) before after = IsOutcome too_much × (after ≡ before)
Answers IsOutcome (Err no_memory) before after = after ≡ before
