-- The nodes of a tree leave its depth.
use Rattle.std.proofs.Common.{◌≡◌, ℕ, ◌+◌, max, min, true, false, List, [], ◌∷◌, ◌++◌, refl, sym, ap, ◌∙◌, arith, append_assoc, append-nil}
use Rattle.jsone_expr.specs.declared.nodes.Node.{Node}
use Rattle.jsone_expr.specs.declared.nodes.Node.TheVariants.{Unary as unary_node, Left as left_node, Binary as binary_node, Group as group_node, Member as member_node, Index as index_node, Slice as slice_node, Item as item_node, Call as call_node, Items as items_node, Field as field_node, Entries as entries_node}
use Rattle.jsone_expr.specs.Trees.{Tree, number, text, literal, name, unary, binary, group, member, index, slice, call, items, entries, absent, present, Trees, no_trees, tree, Fields, no_fields, field, depth, trees_depth, fields_depth}
use Rattle.jsone_expr.specs.Postfix.{postfix, each_postfix, fields_postfix}
use Rattle.jsone_expr.specs.Depths.{top, deeper, after_node, after_nodes}

abbrev capped : ℕ → ℕ
capped d = min d 65

one_deeper : (a : ℕ) → deeper (capped a) ≡ capped (1 + a)
one_deeper a = omega arith

two_deeper : (a b : ℕ) → deeper (max (capped a) (capped b)) ≡ capped (1 + max a b)
two_deeper a b = omega arith

greater_of : (a b : ℕ) → max (capped a) (capped b) ≡ capped (max a b)
greater_of a b = omega arith

-- a node behind the nodes of its only child
over_one : (ns rest : List Node) (n : Node) (ds : List ℕ) (d e : ℕ) → after_nodes (ns ++ (n ∷ rest)) ds ≡ after_nodes (n ∷ rest) (d ∷ ds) → after_node n (d ∷ ds) ≡ e ∷ ds → after_nodes ((ns ++ (n ∷ [])) ++ rest) ds ≡ after_nodes rest (e ∷ ds)
over_one ns rest n ds d e h k = ap (λ l. after_nodes l ds) (append_assoc ns (n ∷ []) rest) ∙ h ∙ ap (after_nodes rest) k

regroup : (ns ms rest : List Node) (n : Node) → (ns ++ (ms ++ (n ∷ []))) ++ rest ≡ ns ++ (ms ++ (n ∷ rest))
regroup ns ms rest n = simp append_assoc

regroup_beside : (ns ms rest : List Node) (m n : Node) → (ns ++ (m ∷ (ms ++ (n ∷ [])))) ++ rest ≡ ns ++ (m ∷ (ms ++ (n ∷ rest)))
regroup_beside ns ms rest m n = simp append_assoc

regroup_three : (ns ms ls rest : List Node) (n : Node) → (ns ++ (ms ++ (ls ++ (n ∷ [])))) ++ rest ≡ ns ++ (ms ++ (ls ++ (n ∷ rest)))
regroup_three ns ms ls rest n = simp append_assoc

-- a node behind the nodes of its two children
over_two : (ns ms rest : List Node) (n : Node) (ds : List ℕ) (d e f : ℕ) → after_nodes (ns ++ (ms ++ (n ∷ rest))) ds ≡ after_nodes (ms ++ (n ∷ rest)) (d ∷ ds) → after_nodes (ms ++ (n ∷ rest)) (d ∷ ds) ≡ after_nodes (n ∷ rest) (e ∷ d ∷ ds) → after_node n (e ∷ d ∷ ds) ≡ f ∷ ds → after_nodes ((ns ++ (ms ++ (n ∷ []))) ++ rest) ds ≡ after_nodes rest (f ∷ ds)
over_two ns ms rest n ds d e f h k l = ap (λ x. after_nodes x ds) (regroup ns ms rest n) ∙ h ∙ k ∙ ap (after_nodes rest) l

one_head : (a b : ℕ) (ds : List ℕ) → a ≡ b → a ∷ ds ≡ b ∷ ds
one_head a b ds e = ap (λ d. d ∷ ds) e

mutual
  sinks : (t : Tree) (rest : List Node) (ds : List ℕ) → after_nodes (postfix t ++ rest) ds ≡ after_nodes rest (capped (depth t) ∷ ds)
  sinks (number d) rest ds = refl
  sinks (text s) rest ds = refl
  sinks (literal l) rest ds = refl
  sinks (name n) rest ds = refl
  sinks (unary s a) rest ds = over_one (postfix a) rest (unary_node s) ds _ _ (sinks a (unary_node s ∷ rest) ds) (ap (λ d. d ∷ ds) (one_deeper (depth a)))
  sinks (group a) rest ds = over_one (postfix a) rest group_node ds _ _ (sinks a (group_node ∷ rest) ds) (ap (λ d. d ∷ ds) (one_deeper (depth a)))
  sinks (member a n) rest ds = over_one (postfix a) rest (member_node n) ds _ _ (sinks a (member_node n ∷ rest) ds) (ap (λ d. d ∷ ds) (one_deeper (depth a)))
  sinks (binary o a b) rest ds =
      ap (λ x. after_nodes x ds) (regroup_beside (postfix a) (postfix b) rest (left_node o) (binary_node o))
      ∙ sinks a (left_node o ∷ (postfix b ++ (binary_node o ∷ rest))) ds
      ∙ sinks b (binary_node o ∷ rest) (capped (depth a) ∷ ds)
      ∙ ap (after_nodes rest) (one_head _ _ ds (two_deeper (depth a) (depth b)))
  sinks (index a b) rest ds = over_two (postfix a) (postfix b) rest index_node ds _ _ _ (sinks a (postfix b ++ (index_node ∷ rest)) ds) (sinks b (index_node ∷ rest) (capped (depth a) ∷ ds)) (one_head _ _ ds (two_deeper (depth a) (depth b)))
  sinks (slice a absent absent) rest ds = over_one (postfix a) rest (slice_node false false) ds _ _ (sinks a (slice_node false false ∷ rest) ds) (one_head _ _ ds (omega arith))
  sinks (slice a (present f) absent) rest ds = over_two (postfix a) (postfix f) rest (slice_node true false) ds _ _ _ (sinks a (postfix f ++ (slice_node true false ∷ rest)) ds) (sinks f (slice_node true false ∷ rest) (capped (depth a) ∷ ds)) (one_head _ _ ds (omega arith))
  sinks (slice a absent (present t)) rest ds = over_two (postfix a) (postfix t) rest (slice_node false true) ds _ _ _ (sinks a (postfix t ++ (slice_node false true ∷ rest)) ds) (sinks t (slice_node false true ∷ rest) (capped (depth a) ∷ ds)) (one_head _ _ ds (omega arith))
  sinks (slice a (present f) (present t)) rest ds =
      ap (λ x. after_nodes x ds) (regroup_three (postfix a) (postfix f) (postfix t) rest (slice_node true true))
      ∙ sinks a (postfix f ++ (postfix t ++ (slice_node true true ∷ rest))) ds
      ∙ sinks f (postfix t ++ (slice_node true true ∷ rest)) (capped (depth a) ∷ ds)
      ∙ sinks t (slice_node true true ∷ rest) (capped (depth f) ∷ capped (depth a) ∷ ds)
      ∙ ap (after_nodes rest) (one_head _ _ ds (omega arith))
  sinks (call n ts) rest ds = ap (λ x. after_nodes x (0 ∷ ds)) (append_assoc (each_postfix ts) (call_node n ∷ []) rest) ∙ each_sinks ts (call_node n ∷ rest) 0 ds ∙ ap (after_nodes rest) (one_head _ _ ds (omega arith))
  sinks (items ts) rest ds = ap (λ x. after_nodes x (0 ∷ ds)) (append_assoc (each_postfix ts) (items_node ∷ []) rest) ∙ each_sinks ts (items_node ∷ rest) 0 ds ∙ ap (after_nodes rest) (one_head _ _ ds (omega arith))
  sinks (entries fs) rest ds = ap (λ x. after_nodes x (0 ∷ ds)) (append_assoc (fields_postfix fs) (entries_node ∷ []) rest) ∙ fields_sink fs (entries_node ∷ rest) 0 ds ∙ ap (after_nodes rest) (one_head _ _ ds (omega arith))

  each_sinks : (ts : Trees) (rest : List Node) (m : ℕ) (ds : List ℕ) → after_nodes (each_postfix ts ++ rest) (m ∷ ds) ≡ after_nodes rest (max m (capped (trees_depth ts)) ∷ ds)
  each_sinks no_trees rest m ds = ap (after_nodes rest) (one_head _ _ ds (omega arith))
  each_sinks (tree a ts) rest m ds =
      ap (λ x. after_nodes x (m ∷ ds)) (append_assoc (postfix a) (item_node ∷ each_postfix ts) rest)
      ∙ sinks a (item_node ∷ (each_postfix ts ++ rest)) (m ∷ ds)
      ∙ each_sinks ts rest (max m (capped (depth a))) ds
      ∙ ap (after_nodes rest) (one_head _ _ ds (omega arith))

  fields_sink : (fs : Fields) (rest : List Node) (m : ℕ) (ds : List ℕ) → after_nodes (fields_postfix fs ++ rest) (m ∷ ds) ≡ after_nodes rest (max m (capped (fields_depth fs)) ∷ ds)
  fields_sink no_fields rest m ds = ap (after_nodes rest) (one_head _ _ ds (omega arith))
  fields_sink (field k a fs) rest m ds =
      ap (λ x. after_nodes x (m ∷ ds)) (append_assoc (postfix a) (field_node k ∷ fields_postfix fs) rest)
      ∙ sinks a (field_node k ∷ (fields_postfix fs ++ rest)) (m ∷ ds)
      ∙ fields_sink fs rest (max m (capped (depth a))) ds
      ∙ ap (after_nodes rest) (one_head _ _ ds (omega arith))

-- what is counted along the nodes of a tree
pub depth_is : (t : Tree) (ns : List Node) (d : ℕ) → ns ≡ postfix t → d ≡ top (after_nodes ns []) → d ≡ min (depth t) 65
depth_is t ns d e h = h ∙ ap (λ l. top (after_nodes l [])) (e ∙ sym (append-nil (postfix t))) ∙ ap top (sinks t [] [])
