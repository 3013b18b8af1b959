-- How deep trees are, counted along their nodes, the last tree first: 65 stands for all that is deeper than 64.
use Rattle.std.specs.Prelude.{ℕ, ◌+◌, max, min, Bool, true, false, List, [], ◌∷◌}
use Rattle.jsone_expr.specs.declared.nodes.Node.{Node}
use Rattle.jsone_expr.specs.declared.nodes.Node.TheVariants.{Number as number_node, Text as text_node, Literal as literal_node, Name as name_node, Unary as unary_node, Left as left_node, Binary as binary_node, Group as group_node, Member as member_node, Index as index_node, Slice as slice_node, Begin as begin_node, Item as item_node, Call as call_node, Items as items_node, Field as field_node, Entries as entries_node}

abbrev pub top : List ℕ → ℕ
top [] = 0
top (d ∷ ds) = d

abbrev pub below : List ℕ → List ℕ
below [] = []
below (d ∷ ds) = ds

-- of a side of a slice, if it is there
abbrev pub side_top : Bool → List ℕ → ℕ
side_top true ds = top ds
side_top false ds = 0

abbrev pub side_below : Bool → List ℕ → List ℕ
side_below true ds = below ds
side_below false ds = ds

abbrev pub deeper : ℕ → ℕ
deeper d = min (d + 1) 65

abbrev pub after_node : Node → List ℕ → List ℕ
after_node (number_node d) ds = 1 ∷ ds
after_node (text_node s) ds = 1 ∷ ds
after_node (literal_node l) ds = 1 ∷ ds
after_node (name_node n) ds = 1 ∷ ds
after_node (unary_node s) ds = deeper (top ds) ∷ below ds
after_node (left_node o) ds = top ds ∷ below ds
after_node (binary_node o) ds = deeper (max (top (below ds)) (top ds)) ∷ below (below ds)
after_node group_node ds = deeper (top ds) ∷ below ds
after_node (member_node n) ds = deeper (top ds) ∷ below ds
after_node index_node ds = deeper (max (top (below ds)) (top ds)) ∷ below (below ds)
after_node (slice_node f t) ds =
    let es = side_below t ds in
    let gs = side_below f es in
    deeper (max (top gs) (max (side_top f es) (side_top t ds))) ∷ below gs
after_node begin_node ds = 0 ∷ ds
after_node item_node ds = max (top (below ds)) (top ds) ∷ below (below ds)
after_node (call_node n) ds = deeper (top ds) ∷ below ds
after_node items_node ds = deeper (top ds) ∷ below ds
after_node (field_node k) ds = max (top (below ds)) (top ds) ∷ below (below ds)
after_node entries_node ds = deeper (top ds) ∷ below ds

abbrev pub after_nodes : List Node → List ℕ → List ℕ
after_nodes [] ds = ds
after_nodes (n ∷ ns) ds = after_nodes ns (after_node n ds)
