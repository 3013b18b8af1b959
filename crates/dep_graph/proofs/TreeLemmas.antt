-- Trees of the least: the top is the least of the leaves, and a leaf that changes changes what is above it.
use Rattle.std.proofs.Common.{◌≡◌, ◌≢◌, ℕ, zero, suc, ◌+◌, ◌-◌, ◌*◌, ◌/◌, ◌<◌, ◌≤◌, ◌⊎◌, inl, inr, min, List, [], ◌∷◌, length, Option, Some, None, refl, sym, ◌∙◌, ap, subst, arith, slice_set, slice_index_or, replicate}
use Rattle.std.specs.Prelude.{IfSome}
use Rattle.std.proofs.lemmas.Bool.{cases_eq}
use Rattle.std.proofs.lemmas.Bool.Decides.{leb_tells}
use Rattle.std.proofs.lemmas.List.{get_or-set_same, get_or-set_other, get_or-drop, get_or_past, get_or-replicate, length-set, length-drop, length-replicate}
use Rattle.std.proofs.lemmas.Option.{slice_get_read, get_or_from_slice_get}
use Rattle.dep_graph.specs.Trees.{lesser, node_at, leaves_of, IsTree}

none-some : (x : ℕ) → None ≡ Some x → ⊥
none-some x is = cc

pub same? : (a b : ℕ) → (a ≡ b) ⊎ (a ≢ b)
same? a b = cases_eq a b

under? : (a b : ℕ) → (a ≤ b) ⊎ (b < a)
under? a b = elim (leb_tells a b) [ inl p ↦ inl p.1 | inr p ↦ inr p.1 ]

some-is : (x y : ℕ) → Some x ≡ Some y → x ≡ y
some-is x y is = cc

-- ---- the lesser of two

lesser-left : (a b : Option ℕ) (row : ℕ) → a ≡ Some row → (least : ℕ) × (lesser a b ≡ Some least) × (least ≤ row)
lesser-left None b row is = absurd (none-some row is)
lesser-left (Some x) None row is = let same = some-is x row is in (x, refl, omega arith)
lesser-left (Some x) (Some y) row is = let same = some-is x row is in (min x y, refl, omega arith)

lesser-right : (a b : Option ℕ) (row : ℕ) → b ≡ Some row → (least : ℕ) × (lesser a b ≡ Some least) × (least ≤ row)
lesser-right None b row is = (row, is, omega arith)
lesser-right (Some x) None row is = absurd (none-some row is)
lesser-right (Some x) (Some y) row is = let same = some-is y row is in (min x y, refl, omega arith)

lesser-from : (a b : Option ℕ) (row : ℕ) → lesser a b ≡ Some row → (a ≡ Some row) ⊎ (b ≡ Some row)
lesser-from None b row is = inr is
lesser-from (Some x) None row is = inl is
lesser-from (Some x) (Some y) row is = by (under? x y) where
  least : min x y ≡ row
  least = some-is (min x y) row is

  by : (x ≤ y) ⊎ (y < x) → (Some x ≡ Some row) ⊎ (Some y ≡ Some row)
  by (inl le) = let e : x ≡ row = omega (arith, least) in inl (ap Some e)
  by (inr lt) = let e : y ≡ row = omega (arith, least) in inr (ap Some e)

-- ---- the top is the least of the leaves

pub node-within : (nodes : List (Option ℕ)) (k row : ℕ) → node_at nodes k ≡ Some row → k < length nodes
node-within [] k row is = absurd (none-some row (sym (get_or_past [] k None (omega arith)) ∙ is))
node-within (x ∷ xs) zero row is = omega arith
node-within (x ∷ xs) (suc k) row is = let rest = node-within xs k row is in omega arith

module _ (nodes : List (Option ℕ)) (tree : IsTree nodes) where
  step-up : (k row : ℕ) → 1 < k → node_at nodes k ≡ Some row → (least : ℕ) × (node_at nodes (k / 2) ≡ Some least) × (least ≤ row)
  step-up k row above at = by (same? k (2 * (k / 2))) where
    within : k < length nodes
    within = node-within nodes k row at

    both : node_at nodes (k / 2) ≡ lesser (node_at nodes (2 * (k / 2))) (node_at nodes (2 * (k / 2) + 1))
    both = tree.above (k / 2) (omega arith) (omega (arith, within, tree.even))

    by : (k ≡ 2 * (k / 2)) ⊎ (k ≢ 2 * (k / 2)) → (least : ℕ) × (node_at nodes (k / 2) ≡ Some least) × (least ≤ row)
    by (inl is) =
        let found = lesser-left (node_at nodes (2 * (k / 2))) (node_at nodes (2 * (k / 2) + 1)) row (ap (node_at nodes) (sym is) ∙ at) in
        (found.0, both ∙ found.1, found.2)
    by (inr ne) =
        let is : 2 * (k / 2) + 1 ≡ k = omega arith in
        let found = lesser-right (node_at nodes (2 * (k / 2))) (node_at nodes (2 * (k / 2) + 1)) row (ap (node_at nodes) is ∙ at) in
        (found.0, both ∙ found.1, found.2)

  top-least : (most k row : ℕ) → k ≤ most → 0 < k → node_at nodes k ≡ Some row → (least : ℕ) × (node_at nodes 1 ≡ Some least) × (least ≤ row)
  top-least zero k row fuel pos at = absurd (omega arith)
  top-least (suc most) k row fuel pos at = by (top-least most) (same? k 1) where
    by : ((k row : ℕ) → k ≤ most → 0 < k → node_at nodes k ≡ Some row → (least : ℕ) × (node_at nodes 1 ≡ Some least) × (least ≤ row)) → (k ≡ 1) ⊎ (k ≢ 1) → (least : ℕ) × (node_at nodes 1 ≡ Some least) × (least ≤ row)
    by above (inl is) = (row, ap (node_at nodes) (sym is) ∙ at, omega arith)
    by above (inr ne) =
        let up = step-up k row (omega (arith, ne, pos)) at in
        let rest = above (k / 2) up.0 (omega (arith, ne, pos, fuel)) (omega (arith, ne, pos)) up.1 in
        (rest.0, rest.1, omega (arith, rest.2, up.2))

  leaf-from : (fuel at row : ℕ) → length nodes ≤ at + fuel → 0 < at → node_at nodes at ≡ Some row → (place : ℕ) × (node_at nodes (length nodes / 2 + place) ≡ Some row)
  leaf-from zero at row enough pos is = absurd (let within = node-within nodes at row is in omega (arith, within, enough))
  leaf-from (suc fuel) at row enough pos is = by (leaf-from fuel) (under? (length nodes) (2 * at + 1)) where
    by : ((at row : ℕ) → length nodes ≤ at + fuel → 0 < at → node_at nodes at ≡ Some row → (place : ℕ) × (node_at nodes (length nodes / 2 + place) ≡ Some row)) → (length nodes ≤ 2 * at + 1) ⊎ (2 * at + 1 < length nodes) → (place : ℕ) × (node_at nodes (length nodes / 2 + place) ≡ Some row)
    by below (inl leaf) =
        let same : at ≡ length nodes / 2 + (at - length nodes / 2) = omega (arith, leaf, tree.even) in
        (at - length nodes / 2, ap (node_at nodes) (sym same) ∙ is)
    by below (inr inner) = elim (lesser-from (node_at nodes (2 * at)) (node_at nodes (2 * at + 1)) row (sym (tree.above at pos inner) ∙ is)) [
      | inl left ↦ below (2 * at) row (omega (arith, enough, pos)) (omega (arith, pos)) left
      | inr right ↦ below (2 * at + 1) row (omega (arith, enough, pos)) (omega (arith, pos)) right
    ]

-- ---- a node changes

-- each node is right but this one
abbrev pub IsTreeBut : ℕ → List (Option ℕ) → Type 0
IsTreeBut up nodes = (at : ℕ) → 0 < at → at ≢ up → 2 * at + 1 < length nodes → node_at nodes at ≡ lesser (node_at nodes (2 * at)) (node_at nodes (2 * at + 1))

untouched : (nodes : List (Option ℕ)) (k at : ℕ) (v : Option ℕ) → at ≢ k → 2 * at ≢ k → 2 * at + 1 ≢ k → node_at nodes at ≡ lesser (node_at nodes (2 * at)) (node_at nodes (2 * at + 1))
    → node_at (slice_set nodes k v) at ≡ lesser (node_at (slice_set nodes k v) (2 * at)) (node_at (slice_set nodes k v) (2 * at + 1))
untouched nodes k at v self_ left right is =
    get_or-set_other nodes k at v None self_ ∙ (is ∙ (ap (λ x. lesser x (node_at nodes (2 * at + 1))) (sym (get_or-set_other nodes k (2 * at) v None left)) ∙ ap (lesser (node_at (slice_set nodes k v) (2 * at))) (sym (get_or-set_other nodes k (2 * at + 1) v None right))))

-- a leaf changes
pub but-first : (nodes : List (Option ℕ)) (leaf : ℕ) (v : Option ℕ) → IsTree nodes → length nodes ≤ 2 * leaf → IsTreeBut (leaf / 2) (slice_set nodes leaf v)
but-first nodes leaf v tree inner at pos ne within =
    let long = length-set nodes leaf v in
    untouched nodes leaf at v (omega arith) (omega arith) (omega arith) (tree.above at pos (omega arith))

-- a node is made right
pub but-more : (nodes : List (Option ℕ)) (up : ℕ) (v : Option ℕ) → v ≡ lesser (node_at nodes (2 * up)) (node_at nodes (2 * up + 1)) → IsTreeBut up nodes → 0 < up → up < length nodes → IsTreeBut (up / 2) (slice_set nodes up v)
but-more nodes up v is but pos lt at above ne within = by (same? at up) where
  long : length (slice_set nodes up v) ≡ length nodes
  long = length-set nodes up v

  here : node_at (slice_set nodes up v) up ≡ lesser (node_at (slice_set nodes up v) (2 * up)) (node_at (slice_set nodes up v) (2 * up + 1))
  here =
      get_or-set_same nodes up v None lt ∙ (is ∙ (ap (λ x. lesser x (node_at nodes (2 * up + 1))) (sym (get_or-set_other nodes up (2 * up) v None (omega arith))) ∙ ap (lesser (node_at (slice_set nodes up v) (2 * up))) (sym (get_or-set_other nodes up (2 * up + 1) v None (omega arith)))))

  by : (at ≡ up) ⊎ (at ≢ up) → node_at (slice_set nodes up v) at ≡ lesser (node_at (slice_set nodes up v) (2 * at)) (node_at (slice_set nodes up v) (2 * at + 1))
  by (inl same) =
      let P : ℕ → Type 0 = λ k. node_at (slice_set nodes up v) k ≡ lesser (node_at (slice_set nodes up v) (2 * k)) (node_at (slice_set nodes up v) (2 * k + 1)) in
      subst P (sym same) here
  by (inr not) = untouched nodes up at v not (omega arith) (omega arith) (but at above not (omega (arith, long, within)))

-- the leaves stay where an inner node changes
pub leaves-stay : (nodes before : List (Option ℕ)) (up k : ℕ) (v : Option ℕ) → 2 * up + 1 < length nodes → length nodes ≤ 2 * k → node_at nodes k ≡ node_at before k → node_at (slice_set nodes up v) k ≡ node_at before k
leaves-stay nodes before up k v inner leaf same = get_or-set_other nodes up k v None (omega arith) ∙ same

-- nothing above the top is left to be made right
pub but-none : (nodes before : List (Option ℕ)) (at : ℕ) → length nodes ≡ length before → IsTree before → at ≤ 1 → IsTreeBut (at / 2) nodes → IsTree nodes
but-none nodes before at long tree top but = record {
  even = omega (arith, long, tree.even);
  above = λ k pos within. but k pos (omega arith) within;
}

-- ---- what stands at the leaves

pub leaf-at : (nodes : List (Option ℕ)) (place : ℕ) → node_at (leaves_of nodes) place ≡ node_at nodes (length nodes / 2 + place)
leaf-at nodes place = get_or-drop (length nodes / 2) nodes place None

pub alike : (xs ys : List (Option ℕ)) → length xs ≡ length ys → ((k : ℕ) → node_at xs k ≡ node_at ys k) → xs ≡ ys
alike [] [] long same = refl
alike [] (y ∷ ys) long same = absurd (omega arith)
alike (x ∷ xs) [] long same = absurd (omega arith)
alike (x ∷ xs) (y ∷ ys) long same =
    let first : x ≡ y = same 0 in
    let rest : xs ≡ ys = alike xs ys (omega arith) (λ k. same (suc k)) in
    cc

pub leaves-long : (nodes : List (Option ℕ)) → IsTree nodes → 2 * length (leaves_of nodes) ≡ length nodes
leaves-long nodes tree = let long = length-drop (length nodes / 2) nodes in omega (arith, tree.even)

-- one leaf changes
pub leaves-put : (nodes later : List (Option ℕ)) (place leaf : ℕ) (v : Option ℕ) → IsTree nodes → length later ≡ length nodes → leaf ≡ length nodes / 2 + place → leaf < length nodes → ((k : ℕ) → length nodes ≤ 2 * k → node_at later k ≡ node_at (slice_set nodes leaf v) k) → leaves_of later ≡ slice_set (leaves_of nodes) place v
leaves-put nodes later place leaf v tree long at within stay = alike (leaves_of later) (slice_set (leaves_of nodes) place v) same_long each where
  half : length later / 2 ≡ length nodes / 2
  half = ap (λ n. n / 2) long

  same_long : length (leaves_of later) ≡ length (slice_set (leaves_of nodes) place v)
  same_long = let a = length-drop (length later / 2) later in let b = length-drop (length nodes / 2) nodes in let c = length-set (leaves_of nodes) place v in omega arith

  there : (k : ℕ) → node_at (leaves_of later) k ≡ node_at (slice_set nodes leaf v) (length nodes / 2 + k)
  there k = leaf-at later k ∙ (ap (λ n. node_at later (n + k)) half ∙ stay (length nodes / 2 + k) (let e = tree.even in omega arith))

  each : (k : ℕ) → node_at (leaves_of later) k ≡ node_at (slice_set (leaves_of nodes) place v) k
  each k = by (same? k place) where
    by : (k ≡ place) ⊎ (k ≢ place) → node_at (leaves_of later) k ≡ node_at (slice_set (leaves_of nodes) place v) k
    by (inl is) =
        let down = leaves-long nodes tree in
        let one : node_at (slice_set nodes leaf v) (length nodes / 2 + k) ≡ v = ap (node_at (slice_set nodes leaf v)) (let e : length nodes / 2 + k ≡ leaf = omega arith in e) ∙ get_or-set_same nodes leaf v None within in
        let other : node_at (slice_set (leaves_of nodes) place v) k ≡ v = ap (node_at (slice_set (leaves_of nodes) place v)) is ∙ get_or-set_same (leaves_of nodes) place v None (let e = tree.even in omega arith) in
        there k ∙ (one ∙ sym other)
    by (inr ne) = there k ∙ (get_or-set_other nodes leaf (length nodes / 2 + k) v None (omega arith) ∙ (sym (leaf-at nodes k) ∙ sym (get_or-set_other (leaves_of nodes) place k v None ne)))

pub leaves-half : (nodes : List (Option ℕ)) → IsTree nodes → length nodes / 2 ≡ length (leaves_of nodes)
leaves-half nodes tree = let long = length-drop (length nodes / 2) nodes in let e = tree.even in omega arith

pub tree-none : (nodes : List (Option ℕ)) → nodes ≡ [] → IsTree nodes
tree-none nodes none = subst IsTree (sym none) empty_ where
  empty_ : IsTree []
  empty_ = record { even = refl; above = λ at pos within. absurd (omega arith) }

-- the top tells the least of the leaves
pub least-some : (nodes : List (Option ℕ)) (top : Option ℕ) → IsTree nodes → top ≡ node_at nodes 1 → IfSome top (λ least. (place : ℕ) × (node_at (leaves_of nodes) place ≡ Some least))
least-some nodes None tree is = tt
least-some nodes (Some least) tree is =
    let found = leaf-from nodes tree (length nodes) 1 least (omega arith) (omega arith) (sym is) in
    (found.0, leaf-at nodes found.0 ∙ found.1)

pub least-all : (nodes : List (Option ℕ)) → IsTree nodes → (place row : ℕ) → node_at (leaves_of nodes) place ≡ Some row → (least : ℕ) × (node_at nodes 1 ≡ Some least) × (least ≤ row)
least-all nodes tree place row is =
    let within = node-within (leaves_of nodes) place row is in
    let long = leaves-long nodes tree in
    let half : 0 < length nodes / 2 + place = omega arith in
    top-least nodes tree (length nodes / 2 + place) (length nodes / 2 + place) row (omega arith) half (sym (leaf-at nodes place) ∙ is)

-- ---- a leaf changes, and then what is above it

pub record IsClimbing (before nodes : List (Option ℕ)) (at leaf : ℕ) (row : Option ℕ) : Type 0 where
  pub above : 0 < at
  pub within : at < length nodes
  pub long : length nodes ≡ length before
  pub but : IsTreeBut (at / 2) nodes
  pub leaves : (k : ℕ) → length before ≤ 2 * k → node_at nodes k ≡ node_at (slice_set before leaf row) k

pub climb-first : (before : List (Option ℕ)) (leaf : ℕ) (row : Option ℕ) → IsTree before → 0 < leaf → leaf < length before → length before ≤ 2 * leaf → IsClimbing before (slice_set before leaf row) leaf leaf row
climb-first before leaf row tree pos within inner = record {
  above = pos;
  within = let long = length-set before leaf row in omega arith;
  long = length-set before leaf row;
  but = but-first before leaf row tree inner;
  leaves = λ k past. refl;
}

pub climb-more : (before nodes : List (Option ℕ)) (at leaf : ℕ) (row v : Option ℕ) → IsTree before → IsClimbing before nodes at leaf row → 1 < at → v ≡ lesser (node_at nodes (2 * (at / 2))) (node_at nodes (2 * (at / 2) + 1)) → IsClimbing before (slice_set nodes (at / 2) v) (at / 2) leaf row
climb-more before nodes at leaf row v tree so above is = record {
  above = omega arith;
  within = let same = length-set nodes (at / 2) v in omega (arith, so.within);
  long = length-set nodes (at / 2) v ∙ so.long;
  but = but-more nodes (at / 2) v is so.but (omega arith) (omega (arith, so.within));
  leaves = λ k past. leaves-stay nodes (slice_set before leaf row) (at / 2) k v (omega (arith, so.within, so.long, tree.even)) (omega (arith, so.long, past)) (so.leaves k past);
}

-- what is read within the tree
pub read-node : (nodes : List (Option ℕ)) (at : ℕ) (x : Option ℕ) → at < length nodes → x ≡ slice_index_or nodes at x → x ≡ node_at nodes at
read-node nodes at x within is = sym (get_or_from_slice_get nodes at x None (slice_get_read nodes (length nodes) at x refl within is))

-- a node that is made right stands above two others
pub climb-inner : (before nodes : List (Option ℕ)) (at leaf : ℕ) (row : Option ℕ) → IsTree before → IsClimbing before nodes at leaf row → 1 < at → 2 * (at / 2) + 1 < length nodes
climb-inner before nodes at leaf row tree so above = omega (arith, so.within, so.long, tree.even, above)

pub climb-end : (before nodes : List (Option ℕ)) (at leaf : ℕ) (row : Option ℕ) → IsTree before → IsClimbing before nodes at leaf row → at ≤ 1 → IsTree nodes
climb-end before nodes at leaf row tree so top = but-none nodes before at so.long tree top so.but

-- ---- a wider tree

pub record IsWidened (nodes : List (Option ℕ)) (half wide place : ℕ) (later : List (Option ℕ)) : Type 0 where
  pub tree : IsTree later
  pub long : length later ≡ 2 * wide
  pub moved : (k : ℕ) → k < place → node_at later (wide + k) ≡ node_at nodes (half + k)
  pub rest : (k : ℕ) → place ≤ k → node_at later (wide + k) ≡ None

-- nothing stands anywhere
abbrev empty_tree : ℕ → List (Option ℕ)
empty_tree n = replicate n None

empty-long : (n : ℕ) → length (empty_tree n) ≡ n
empty-long n = length-replicate {A = Option ℕ} n None

nothing-at : (n k : ℕ) → node_at (empty_tree n) k ≡ None
nothing-at n k = by (under? n k) where
  by : (n ≤ k) ⊎ (k < n) → node_at (empty_tree n) k ≡ None
  by (inl past) = get_or_past (empty_tree n) k None (let long = empty-long n in omega arith)
  by (inr below) = get_or-replicate n k None None below

pub widened-first : (nodes : List (Option ℕ)) (half wide : ℕ) (tree : List (Option ℕ)) → tree ≡ empty_tree (wide * 2) → IsWidened nodes half wide 0 tree
widened-first nodes half wide tree is = subst (IsWidened nodes half wide 0) (sym (is ∙ ap empty_tree twice)) (record {
  tree = record {
    even = let n = long in omega arith;
    above = λ at pos within. nothing-at (2 * wide) at ∙ sym (ap (λ x. lesser x (node_at (empty_tree (2 * wide)) (2 * at + 1))) (nothing-at (2 * wide) (2 * at)) ∙ nothing-at (2 * wide) (2 * at + 1));
  };
  long = long;
  moved = λ k below. absurd (omega arith);
  rest = λ k past. nothing-at (2 * wide) (wide + k);
}) where
  twice : wide * 2 ≡ 2 * wide
  twice = omega arith

  long : length (empty_tree (2 * wide)) ≡ 2 * wide
  long = empty-long (2 * wide)

pub widened-more : (nodes : List (Option ℕ)) (half wide place : ℕ) (tree later : List (Option ℕ)) (v : Option ℕ) → IsWidened nodes half wide place tree → place < wide → v ≡ node_at nodes (half + place) → IsTree later → length later ≡ length tree
    → ((k : ℕ) → length tree ≤ 2 * k → node_at later k ≡ node_at (slice_set tree (wide + place) v) k) → IsWidened nodes half wide (place + 1) later
widened-more nodes half wide place tree later v so within is tree_ long leaves = record {
  tree = tree_;
  long = long ∙ so.long;
  moved = λ k below. at k below (same? k place);
  rest = λ k past. leaves (wide + k) (let n = so.long in omega arith) ∙ (get_or-set_other tree (wide + place) (wide + k) v None (omega arith) ∙ so.rest k (omega arith));
} where
  at : (k : ℕ) → k < place + 1 → (k ≡ place) ⊎ (k ≢ place) → node_at later (wide + k) ≡ node_at nodes (half + k)
  at k below (inl here) =
      let P : ℕ → Type 0 = λ j. node_at later (wide + j) ≡ node_at nodes (half + j) in
      subst P (sym here) (leaves (wide + place) (let n = so.long in omega arith) ∙ (get_or-set_same tree (wide + place) v None (let n = so.long in omega arith) ∙ is))
  at k below (inr ne) = leaves (wide + k) (let n = so.long in omega arith) ∙ (get_or-set_other tree (wide + place) (wide + k) v None (omega arith) ∙ so.moved k (omega arith))

pub widened-kept : (nodes : List (Option ℕ)) (half wide place : ℕ) (tree : List (Option ℕ)) → IsWidened nodes half wide place tree → IsTree nodes → half ≡ length nodes / 2 → half ≤ place → (k : ℕ) → node_at (leaves_of tree) k ≡ node_at (leaves_of nodes) k
widened-kept nodes half wide place tree so even_ is past k = there ∙ by (under? half k) where
  there : node_at (leaves_of tree) k ≡ node_at tree (wide + k)
  there = leaf-at tree k ∙ ap (λ n. node_at tree (n + k)) (let n = so.long in let e : length tree / 2 ≡ wide = omega arith in e)

  by : (half ≤ k) ⊎ (k < half) → node_at tree (wide + k) ≡ node_at (leaves_of nodes) k
  by (inr below) = so.moved k (omega arith) ∙ (ap (λ n. node_at nodes (n + k)) is ∙ sym (leaf-at nodes k))
  by (inl beyond) = nothing (under? place k) where
    old : node_at (leaves_of nodes) k ≡ None
    old = get_or_past (leaves_of nodes) k None (let half_ = leaves-half nodes even_ in omega arith)

    nothing : (place ≤ k) ⊎ (k < place) → node_at tree (wide + k) ≡ node_at (leaves_of nodes) k
    nothing (inl far) = so.rest k far ∙ sym old
    nothing (inr near) = so.moved k near ∙ (ap (λ n. node_at nodes (n + k)) is ∙ sym (leaf-at nodes k))
