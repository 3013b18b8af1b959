-- The nodes of a tree, one after the other, evaluate it.
use Rattle.std.proofs.Common.{◌≡◌, ℕ, zero, suc, Bool, true, false, List, [], ◌∷◌, ◌++◌, Some, None, Result, Ok, Err, pos, sym, subst, ◌∙◌, append_assoc, append-nil}
use Rattle.std.specs.Bool.{MatchBool}
use Rattle.farm_text.specs.Document.{Document, boolean, array, items_of}
use Rattle.jsone_values.specs.declared.faults.Fault.{Fault}
use Rattle.jsone_values.specs.Indexes.{indexed, sliced}
use Rattle.jsone_values.specs.Maps.{map_of}
use Rattle.jsone_values.specs.Numbers.{IsInRange, digits_from}
use Rattle.jsone_values.specs.Operators.{IsNumber}
use Rattle.jsone_values.specs.Truth.{is_true}
use Rattle.jsone_expr.specs.declared.nodes.Node.{Node}
use Rattle.jsone_expr.specs.declared.nodes.Node.TheVariants.{Unary as unary_node, Left as left_node, Binary as binary_node, Group as group_node, Member as member_node, Index as index_node, Slice as slice_node, Item as item_node, Call as call_node, Items as items_node, Field as field_node, Entries as entries_node}
use Rattle.jsone_expr.specs.Trees.{Tree, number, text, literal, name, unary, binary, group, member, index, slice, call, items, entries, absent, present, Trees, no_trees, tree, Fields, no_fields, field}
use Rattle.jsone_expr.specs.Postfix.{postfix, each_postfix, fields_postfix}
use Rattle.jsone_eval.specs.Calls.{IsCall}
use Rattle.jsone_eval.specs.Operators.{IsSigned, decides, IsJoined}
use Rattle.jsone_eval.specs.Outcomes.{Outcome, given, faulted, too_much, paid, at_node, Then, AtNode}
use Rattle.jsone_eval.specs.Values.{Setting, bytes_at, text_at, quoted, literal_value, named, member_named, key_span, WithKey, Evaluates, EachEvaluates, FieldsEvaluate, IsOutcome}
use Rattle.jsone_eval.specs.Machine.{Part, Moved, went, pushed, IsPushed, IsGathered, Goes, Runs, below, top, with_member}

abbrev More : Type 1
More = List Document → List Part → ℕ → ℕ → Outcome → Type 0

after_push : (M : More) (vs : List Document) (gs : List Part) (k : ℕ) (K : Document → ℕ → Outcome → Type 0) → ((d : Document) (m : ℕ) (o : Outcome) → M (d ∷ vs) gs k m o → K d m o) → (q o : Outcome) → Goes M (pushed vs gs k q) o → Then K q o
after_push M vs gs k K leads (given d m) o h = leads d m o h
after_push M vs gs k K leads (faulted f) o h = h
after_push M vs gs k K leads too_much o h = h

judged : (M : More) (vs : List Document) (gs : List Part) (k n : ℕ) (R : Result Document Fault → Type 0) (K : Document → ℕ → Outcome → Type 0) → ((d : Document) (m : ℕ) (o : Outcome) → M (d ∷ vs) gs k m o → K d m o) → (o : Outcome) → (p : Moved) × IsPushed n R vs gs k p × Goes M p o → AtNode n R K o
judged M vs gs k n R K leads o (p, (r, is, e), h) = (r, is, after_push M vs gs k K leads (at_node n r) o (subst (λ q. Goes M q o) e h))

begun : (M : More) (vs : List Document) (gs : List Part) (k n : ℕ) (o : Outcome) → (p : Moved) × (p ≡ went vs gs k n) × Goes M p o → M vs gs k n o
begun M vs gs k n o (p, e, h) = subst (λ q. Goes M q o) e h

branch : (b : Bool) (M : More) (vs us : List Document) (gs : List Part) (m : ℕ) (q : Moved) (quick p : Outcome) (Quick Slow : Type 0) → (Goes M (pushed vs gs (suc zero) quick) p → Quick) → (M us gs zero m p → Slow)
    → MatchBool b (q ≡ pushed vs gs (suc zero) quick) (q ≡ went us gs zero m) → Goes M q p → MatchBool b Quick Slow
branch true M vs us gs m q quick p Quick Slow fast slow e h = fast (subst (λ x. Goes M x p) e h)
branch false M vs us gs m q quick p Quick Slow fast slow e h = slow (subst (λ x. Goes M x p) e h)

keyed : (r : Result (List ℕ) Fault) (M : More) (F : List ℕ → Outcome → Type 0) (vs : List Document) (gs : List Part) (n : ℕ) (o : Outcome) → ((key : List ℕ) → M (below vs) (with_member key (top vs) gs) zero n o → F key o) → (q : Moved) × IsGathered r vs gs zero n q × Goes M q o → WithKey r F o
keyed (Ok key) M F vs gs n o leads (q, e, h) = leads key (subst (λ x. Goes M x o) e h)
keyed (Err f) M F vs gs n o leads (q, e, h) = subst (λ x. Goes M x o) e h

regroup : (ns ms rest : List Node) (n : Node) → (ns ++ (ms ++ (n ∷ []))) ++ rest ≡ ns ++ (ms ++ (n ∷ rest))
regroup ns ms rest n = simp append_assoc

regroup_beside : (ns ms rest : List Node) (m n : Node) → (ns ++ (m ∷ (ms ++ (n ∷ [])))) ++ rest ≡ ns ++ (m ∷ (ms ++ (n ∷ rest)))
regroup_beside ns ms rest m n = simp append_assoc

regroup_three : (ns ms ls rest : List Node) (n : Node) → (ns ++ (ms ++ (ls ++ (n ∷ [])))) ++ rest ≡ ns ++ (ms ++ (ls ++ (n ∷ rest)))
regroup_three ns ms ls rest n = simp append_assoc

-- the same nodes, bracketed in another way
along : (s : Setting) (vs : List Document) (gs : List Part) (k n : ℕ) (o : Outcome) (xs ys : List Node) → xs ≡ ys → Runs s xs vs gs k n o → Runs s ys vs gs k n o
along s vs gs k n o xs ys e h = subst (λ l. Runs s l vs gs k n o) e h

-- a right side that is passed over does nothing
mutual
  skips : (s : Setting) (t : Tree) (rest : List Node) (vs : List Document) (gs : List Part) (k n : ℕ) (o : Outcome) → Runs s (postfix t ++ rest) vs gs (suc k) n o → Runs s rest vs gs (suc k) n o
  skips s (number d) rest vs gs k n o h = h
  skips s (text t) rest vs gs k n o h = h
  skips s (literal l) rest vs gs k n o h = h
  skips s (name w) rest vs gs k n o h = h
  skips s (unary g a) rest vs gs k n o h = skips s a (unary_node g ∷ rest) vs gs k n o (along s vs gs (suc k) n o _ _ (append_assoc (postfix a) (unary_node g ∷ []) rest) h)
  skips s (binary g a b) rest vs gs k n o h =
      skips s b (binary_node g ∷ rest) vs gs (suc k) n o
      (skips s a (left_node g ∷ (postfix b ++ (binary_node g ∷ rest))) vs gs k n o (along s vs gs (suc k) n o _ _ (regroup_beside (postfix a) (postfix b) rest (left_node g) (binary_node g)) h))
  skips s (group a) rest vs gs k n o h = skips s a (group_node ∷ rest) vs gs k n o (along s vs gs (suc k) n o _ _ (append_assoc (postfix a) (group_node ∷ []) rest) h)
  skips s (member a w) rest vs gs k n o h = skips s a (member_node w ∷ rest) vs gs k n o (along s vs gs (suc k) n o _ _ (append_assoc (postfix a) (member_node w ∷ []) rest) h)
  skips s (index a b) rest vs gs k n o h =
      skips s b (index_node ∷ rest) vs gs k n o (skips s a (postfix b ++ (index_node ∷ rest)) vs gs k n o (along s vs gs (suc k) n o _ _ (regroup (postfix a) (postfix b) rest index_node) h))
  skips s (slice a absent absent) rest vs gs k n o h = skips s a (slice_node false false ∷ rest) vs gs k n o (along s vs gs (suc k) n o _ _ (append_assoc (postfix a) (slice_node false false ∷ []) rest) h)
  skips s (slice a (present f) absent) rest vs gs k n o h =
      skips s f (slice_node true false ∷ rest) vs gs k n o (skips s a (postfix f ++ (slice_node true false ∷ rest)) vs gs k n o (along s vs gs (suc k) n o _ _ (regroup (postfix a) (postfix f) rest (slice_node true false)) h))
  skips s (slice a absent (present t)) rest vs gs k n o h =
      skips s t (slice_node false true ∷ rest) vs gs k n o (skips s a (postfix t ++ (slice_node false true ∷ rest)) vs gs k n o (along s vs gs (suc k) n o _ _ (regroup (postfix a) (postfix t) rest (slice_node false true)) h))
  skips s (slice a (present f) (present t)) rest vs gs k n o h =
      skips s t (slice_node true true ∷ rest) vs gs k n o
      (skips s f (postfix t ++ (slice_node true true ∷ rest)) vs gs k n o
      (skips s a (postfix f ++ (postfix t ++ (slice_node true true ∷ rest))) vs gs k n o (along s vs gs (suc k) n o _ _ (regroup_three (postfix a) (postfix f) (postfix t) rest (slice_node true true)) h)))
  skips s (call w ts) rest vs gs k n o h = each_skips s ts (call_node w ∷ rest) vs gs k n o (along s vs gs (suc k) n o _ _ (append_assoc (each_postfix ts) (call_node w ∷ []) rest) h)
  skips s (items ts) rest vs gs k n o h = each_skips s ts (items_node ∷ rest) vs gs k n o (along s vs gs (suc k) n o _ _ (append_assoc (each_postfix ts) (items_node ∷ []) rest) h)
  skips s (entries fs) rest vs gs k n o h = fields_skip s fs (entries_node ∷ rest) vs gs k n o (along s vs gs (suc k) n o _ _ (append_assoc (fields_postfix fs) (entries_node ∷ []) rest) h)

  each_skips : (s : Setting) (ts : Trees) (rest : List Node) (vs : List Document) (gs : List Part) (k n : ℕ) (o : Outcome) → Runs s (each_postfix ts ++ rest) vs gs (suc k) n o → Runs s rest vs gs (suc k) n o
  each_skips s no_trees rest vs gs k n o h = h
  each_skips s (tree a ts) rest vs gs k n o h =
      each_skips s ts rest vs gs k n o (skips s a (item_node ∷ (each_postfix ts ++ rest)) vs gs k n o (along s vs gs (suc k) n o _ _ (append_assoc (postfix a) (item_node ∷ each_postfix ts) rest) h))

  fields_skip : (s : Setting) (fs : Fields) (rest : List Node) (vs : List Document) (gs : List Part) (k n : ℕ) (o : Outcome) → Runs s (fields_postfix fs ++ rest) vs gs (suc k) n o → Runs s rest vs gs (suc k) n o
  fields_skip s no_fields rest vs gs k n o h = h
  fields_skip s (field key a fs) rest vs gs k n o h =
      fields_skip s fs rest vs gs k n o (skips s a (field_node key ∷ (fields_postfix fs ++ rest)) vs gs k n o (along s vs gs (suc k) n o _ _ (append_assoc (postfix a) (field_node key ∷ fields_postfix fs) rest) h))

-- what comes behind a tree's value
abbrev Leads : Setting → List Node → List Document → List Part → (Document → ℕ → Outcome → Type 0) → Type 0
Leads s rest vs gs K = (d : Document) (m : ℕ) (o : Outcome) → Runs s rest (d ∷ vs) gs zero m o → K d m o

mutual
  walks : (s : Setting) (t : Tree) (rest : List Node) (vs : List Document) (gs : List Part) (n : ℕ) (K : Document → ℕ → Outcome → Type 0) → Leads s rest vs gs K → (o : Outcome) → Runs s (postfix t ++ rest) vs gs zero n o → Evaluates s t n K o
  walks s (number d) rest vs gs n K leads o h = judged (Runs s rest) vs gs zero n (IsNumber (IsInRange (pos (digits_from 0 (bytes_at s.source d))))) K leads o h
  walks s (text t) rest vs gs n K leads o h = judged (Runs s rest) vs gs zero n (λ r. r ≡ quoted (text_at s.source t)) K leads o h
  walks s (literal l) rest vs gs n K leads o h = judged (Runs s rest) vs gs zero n (λ r. r ≡ Ok (literal_value l)) K leads o h
  walks s (name w) rest vs gs n K leads o h = judged (Runs s rest) vs gs zero n (λ r. r ≡ named s.scopes (text_at s.source w.span)) K leads o h
  walks s (unary g a) rest vs gs n K leads o h =
      walks s a (unary_node g ∷ rest) vs gs n (λ d m. AtNode m (IsSigned g d) K) (λ d m p r. judged (Runs s rest) vs gs zero m (IsSigned g d) K leads p r) o
      (along s vs gs zero n o _ _ (append_assoc (postfix a) (unary_node g ∷ []) rest) h)
  walks s (binary g a b) rest vs gs n K leads o h =
      walks s a (left_node g ∷ (postfix b ++ (binary_node g ∷ rest))) vs gs n
      (λ d m p. MatchBool (decides g d) (Then K (paid m (boolean (is_true d))) p) (Evaluates s b m (λ e k. AtNode k (IsJoined g d e) K) p))
      (λ d m p r.
      branch (decides g d) (Runs s (postfix b ++ (binary_node g ∷ rest))) vs (d ∷ vs) gs m r.0 (paid m (boolean (is_true d))) p (Then K (paid m (boolean (is_true d))) p) (Evaluates s b m (λ e k. AtNode k (IsJoined g d e) K) p)
      (λ x. after_push (Runs s (postfix b ++ (binary_node g ∷ rest))) vs gs (suc zero) K (λ e k q y. leads e k q (skips s b (binary_node g ∷ rest) (e ∷ vs) gs zero k q y)) (paid m (boolean (is_true d))) p x)
      (λ x. walks s b (binary_node g ∷ rest) (d ∷ vs) gs m (λ e k. AtNode k (IsJoined g d e) K) (λ e k q y. judged (Runs s rest) vs gs zero k (IsJoined g d e) K leads q y) p x)
      r.1 r.2)
      o (along s vs gs zero n o _ _ (regroup_beside (postfix a) (postfix b) rest (left_node g) (binary_node g)) h)
  walks s (group a) rest vs gs n K leads o h =
      walks s a (group_node ∷ rest) vs gs n (λ d m. AtNode m (λ r. r ≡ Ok d) K) (λ d m p r. judged (Runs s rest) vs gs zero m (λ x. x ≡ Ok d) K leads p r) o
      (along s vs gs zero n o _ _ (append_assoc (postfix a) (group_node ∷ []) rest) h)
  walks s (member a w) rest vs gs n K leads o h =
      walks s a (member_node w ∷ rest) vs gs n (λ d m. AtNode m (λ r. r ≡ member_named d (text_at s.source w.span)) K) (λ d m p r. judged (Runs s rest) vs gs zero m (λ x. x ≡ member_named d (text_at s.source w.span)) K leads p r) o
      (along s vs gs zero n o _ _ (append_assoc (postfix a) (member_node w ∷ []) rest) h)
  walks s (index a b) rest vs gs n K leads o h =
      walks s a (postfix b ++ (index_node ∷ rest)) vs gs n (λ d m. Evaluates s b m (λ e k. AtNode k (λ r. r ≡ indexed d e) K))
      (λ d m p r. walks s b (index_node ∷ rest) (d ∷ vs) gs m (λ e k. AtNode k (λ x. x ≡ indexed d e) K) (λ e k q y. judged (Runs s rest) vs gs zero k (λ x. x ≡ indexed d e) K leads q y) p r)
      o (along s vs gs zero n o _ _ (regroup (postfix a) (postfix b) rest index_node) h)
  walks s (slice a absent absent) rest vs gs n K leads o h =
      walks s a (slice_node false false ∷ rest) vs gs n (λ d m. AtNode m (λ r. r ≡ sliced d None None) K) (λ d m p r. judged (Runs s rest) vs gs zero m (λ x. x ≡ sliced d None None) K leads p r) o
      (along s vs gs zero n o _ _ (append_assoc (postfix a) (slice_node false false ∷ []) rest) h)
  walks s (slice a (present f) absent) rest vs gs n K leads o h =
      walks s a (postfix f ++ (slice_node true false ∷ rest)) vs gs n (λ d m. Evaluates s f m (λ e k. AtNode k (λ r. r ≡ sliced d (Some e) None) K))
      (λ d m p r. walks s f (slice_node true false ∷ rest) (d ∷ vs) gs m (λ e k. AtNode k (λ x. x ≡ sliced d (Some e) None) K) (λ e k q y. judged (Runs s rest) vs gs zero k (λ x. x ≡ sliced d (Some e) None) K leads q y) p r)
      o (along s vs gs zero n o _ _ (regroup (postfix a) (postfix f) rest (slice_node true false)) h)
  walks s (slice a absent (present t)) rest vs gs n K leads o h =
      walks s a (postfix t ++ (slice_node false true ∷ rest)) vs gs n (λ d m. Evaluates s t m (λ e k. AtNode k (λ r. r ≡ sliced d None (Some e)) K))
      (λ d m p r. walks s t (slice_node false true ∷ rest) (d ∷ vs) gs m (λ e k. AtNode k (λ x. x ≡ sliced d None (Some e)) K) (λ e k q y. judged (Runs s rest) vs gs zero k (λ x. x ≡ sliced d None (Some e)) K leads q y) p r)
      o (along s vs gs zero n o _ _ (regroup (postfix a) (postfix t) rest (slice_node false true)) h)
  walks s (slice a (present f) (present t)) rest vs gs n K leads o h =
      walks s a (postfix f ++ (postfix t ++ (slice_node true true ∷ rest))) vs gs n (λ d m. Evaluates s f m (λ e k. Evaluates s t k (λ g j. AtNode j (λ r. r ≡ sliced d (Some e) (Some g)) K)))
      (λ d m p r.
      walks s f (postfix t ++ (slice_node true true ∷ rest)) (d ∷ vs) gs m (λ e k. Evaluates s t k (λ g j. AtNode j (λ x. x ≡ sliced d (Some e) (Some g)) K))
      (λ e k q y. walks s t (slice_node true true ∷ rest) (e ∷ d ∷ vs) gs k (λ g j. AtNode j (λ x. x ≡ sliced d (Some e) (Some g)) K) (λ g j u z. judged (Runs s rest) vs gs zero j (λ x. x ≡ sliced d (Some e) (Some g)) K leads u z) q y) p r)
      o (along s vs gs zero n o _ _ (regroup_three (postfix a) (postfix f) (postfix t) rest (slice_node true true)) h)
  walks s (call w ts) rest vs gs n K leads o h =
      each_walks s ts (call_node w ∷ rest) vs [] [] gs n (λ ds m. AtNode m (IsCall w.function s.scopes ds) K) (λ ds m p r. judged (Runs s rest) vs gs zero m (IsCall w.function s.scopes ds) K leads p r) o
      (along s vs (([], []) ∷ gs) zero n o _ _ (append_assoc (each_postfix ts) (call_node w ∷ []) rest) (begun (Runs s ((each_postfix ts ++ (call_node w ∷ [])) ++ rest)) vs (([], []) ∷ gs) zero n o h))
  walks s (items ts) rest vs gs n K leads o h =
      each_walks s ts (items_node ∷ rest) vs [] [] gs n (λ ds m. AtNode m (λ r. r ≡ Ok (array (items_of ds))) K) (λ ds m p r. judged (Runs s rest) vs gs zero m (λ x. x ≡ Ok (array (items_of ds))) K leads p r) o
      (along s vs (([], []) ∷ gs) zero n o _ _ (append_assoc (each_postfix ts) (items_node ∷ []) rest) (begun (Runs s ((each_postfix ts ++ (items_node ∷ [])) ++ rest)) vs (([], []) ∷ gs) zero n o h))
  walks s (entries fs) rest vs gs n K leads o h =
      fields_walk s fs (entries_node ∷ rest) vs [] [] gs n (λ ms m. AtNode m (λ r. r ≡ map_of ms) K) (λ ms m p r. judged (Runs s rest) vs gs zero m (λ x. x ≡ map_of ms) K leads p r) o
      (along s vs (([], []) ∷ gs) zero n o _ _ (append_assoc (fields_postfix fs) (entries_node ∷ []) rest) (begun (Runs s ((fields_postfix fs ++ (entries_node ∷ [])) ++ rest)) vs (([], []) ∷ gs) zero n o h))

  each_walks : (s : Setting) (ts : Trees) (rest : List Node) (vs l : List Document) (ms : List (List ℕ × Document)) (gs : List Part) (n : ℕ) (K : List Document → ℕ → Outcome → Type 0)
      → ((ds : List Document) (m : ℕ) (o : Outcome) → Runs s rest vs ((l ++ ds, ms) ∷ gs) zero m o → K ds m o) → (o : Outcome) → Runs s (each_postfix ts ++ rest) vs ((l, ms) ∷ gs) zero n o → EachEvaluates s ts n K o
  each_walks s no_trees rest vs l ms gs n K leads o h = leads [] n o (subst (λ x. Runs s rest vs ((x, ms) ∷ gs) zero n o) (sym (append-nil l)) h)
  each_walks s (tree a ts) rest vs l ms gs n K leads o h =
      walks s a (item_node ∷ (each_postfix ts ++ rest)) vs ((l, ms) ∷ gs) n (λ d m. EachEvaluates s ts m (λ ds. K (d ∷ ds)))
      (λ d m p r.
      each_walks s ts rest vs (l ++ d ∷ []) ms gs m (λ ds. K (d ∷ ds)) (λ ds k q y. leads (d ∷ ds) k q (subst (λ x. Runs s rest vs ((x, ms) ∷ gs) zero k q) (append_assoc l (d ∷ []) ds) y)) p
      (begun (Runs s (each_postfix ts ++ rest)) vs ((l ++ d ∷ [], ms) ∷ gs) zero m p r))
      o (along s vs ((l, ms) ∷ gs) zero n o _ _ (append_assoc (postfix a) (item_node ∷ each_postfix ts) rest) h)

  fields_walk : (s : Setting) (fs : Fields) (rest : List Node) (vs l : List Document) (ms : List (List ℕ × Document)) (gs : List Part) (n : ℕ) (K : List (List ℕ × Document) → ℕ → Outcome → Type 0)
      → ((es : List (List ℕ × Document)) (m : ℕ) (o : Outcome) → Runs s rest vs ((l, ms ++ es) ∷ gs) zero m o → K es m o) → (o : Outcome) → Runs s (fields_postfix fs ++ rest) vs ((l, ms) ∷ gs) zero n o → FieldsEvaluate s fs n K o
  fields_walk s no_fields rest vs l ms gs n K leads o h = leads [] n o (subst (λ x. Runs s rest vs ((l, x) ∷ gs) zero n o) (sym (append-nil ms)) h)
  fields_walk s (field f a fs) rest vs l ms gs n K leads o h =
      walks s a (field_node f ∷ (fields_postfix fs ++ rest)) vs ((l, ms) ∷ gs) n (λ d m. WithKey (text_at s.source (key_span f)) (λ key. FieldsEvaluate s fs m (λ es. K ((key, d) ∷ es))))
      (λ d m p r.
      keyed (text_at s.source (key_span f)) (Runs s (fields_postfix fs ++ rest)) (λ key. FieldsEvaluate s fs m (λ es. K ((key, d) ∷ es))) (d ∷ vs) ((l, ms) ∷ gs) m p
      (λ key x. fields_walk s fs rest vs l (ms ++ (key, d) ∷ []) gs m (λ es. K ((key, d) ∷ es)) (λ es k q y. leads ((key, d) ∷ es) k q (subst (λ z. Runs s rest vs ((l, z) ∷ gs) zero k q) (append_assoc ms ((key, d) ∷ []) es) y)) p x)
      r)
      o (along s vs ((l, ms) ∷ gs) zero n o _ _ (append_assoc (postfix a) (field_node f ∷ fields_postfix fs) rest) h)

pub whole_walk : (s : Setting) (t : Tree) (nodes : List Node) (n : ℕ) (o : Outcome) → nodes ≡ postfix t → Runs s nodes [] [] zero n o → IsOutcome s t n o
whole_walk s t nodes n o e h = walks s t [] [] [] n (λ d m p. p ≡ given d m) (λ d m p r. r) o (along s [] [] zero n o nodes (postfix t ++ []) (e ∙ sym (append-nil (postfix t))) h)
