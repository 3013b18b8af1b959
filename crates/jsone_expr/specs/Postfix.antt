-- A tree as its nodes, each after its children.
use Rattle.std.specs.Prelude.{Bool, true, false, List, [], ◌∷◌, ◌++◌}
use Rattle.jsone_expr.specs.declared.nodes.Node.{Node}
use Rattle.jsone_expr.specs.declared.nodes.Node.TheVariants.{Number as number_node, Text as text_node, Literal as literal_node, Name as name_node, Unary as unary_node, Left as left_node, Binary as binary_node, Group as group_node, Member as member_node, Index as index_node, Slice as slice_node, Begin as begin_node, Item as item_node, Call as call_node, Items as items_node, Field as field_node, Entries as entries_node}
use Rattle.jsone_expr.specs.Trees.{Tree, number, text, literal, name, unary, binary, group, member, index, slice, call, items, entries, Side, absent, present, Trees, no_trees, tree, Fields, no_fields, field}

abbrev pub has_side : Side → Bool
has_side absent = false
has_side (present a) = true

abbrev mutual
  -- the nodes of a tree, its children first
  pub postfix : Tree → List Node
  postfix (number d) = number_node d ∷ []
  postfix (text s) = text_node s ∷ []
  postfix (literal l) = literal_node l ∷ []
  postfix (name n) = name_node n ∷ []
  postfix (unary s a) = postfix a ++ (unary_node s ∷ [])
  postfix (binary o a b) = postfix a ++ (left_node o ∷ (postfix b ++ (binary_node o ∷ [])))
  postfix (group a) = postfix a ++ (group_node ∷ [])
  postfix (member a n) = postfix a ++ (member_node n ∷ [])
  postfix (index a b) = postfix a ++ (postfix b ++ (index_node ∷ []))
  postfix (slice a f t) = postfix a ++ (side_postfix f ++ (side_postfix t ++ (slice_node (has_side f) (has_side t) ∷ [])))
  postfix (call n ts) = begin_node ∷ (each_postfix ts ++ (call_node n ∷ []))
  postfix (items ts) = begin_node ∷ (each_postfix ts ++ (items_node ∷ []))
  postfix (entries fs) = begin_node ∷ (fields_postfix fs ++ (entries_node ∷ []))

  pub side_postfix : Side → List Node
  side_postfix absent = []
  side_postfix (present a) = postfix a

  pub each_postfix : Trees → List Node
  each_postfix no_trees = []
  each_postfix (tree a ts) = postfix a ++ (item_node ∷ each_postfix ts)

  pub fields_postfix : Fields → List Node
  fields_postfix no_fields = []
  fields_postfix (field k a fs) = postfix a ++ (field_node k ∷ fields_postfix fs)
