-- The reading machine's nodes and frames are those of a state with trees, move by move.
use Rattle.std.proofs.Common.{◌≡◌, ℕ, Bool, true, false, cond, ltb, List, [], ◌∷◌, ◌++◌, Option, Some, None, option_map, reverse, refl, sym, ap, ◌∙◌, append_assoc, append-nil}
use Rattle.std.proofs.lemmas.List.{reverse-append, reverse-reverse}
use Rattle.jsone_expr.specs.declared.marks.Operator.{Operator}
use Rattle.jsone_expr.specs.declared.marks.Operator.TheVariants.{Plus, Minus}
use Rattle.jsone_expr.specs.declared.marks.Mark.{Mark}
use Rattle.jsone_expr.specs.declared.marks.Mark.TheVariants.{Bang, Dot, Comma, Colon, OpenRound, CloseRound, OpenSquare, CloseSquare, OpenCurly, CloseCurly, Unknown}
use Rattle.jsone_expr.specs.declared.tokens.Token.{Token}
use Rattle.jsone_expr.specs.declared.tokens.Token.TheVariants.{Word as word, Operator as operator, Mark as mark}
use Rattle.jsone_expr.specs.declared.tokens.Key.{Key}
use Rattle.jsone_expr.specs.declared.nodes.Node.{Node}
use Rattle.jsone_expr.specs.declared.nodes.Node.TheVariants.{Number as number_node, Text as text_node, Literal as literal_node, Name as name_node, Unary as unary_node, Left as left_node, Binary as binary_node, Group as group_node, Member as member_node, Index as index_node, Slice as slice_node, Begin as begin_node, Item as item_node, Call as call_node, Items as items_node, Field as field_node, Entries as entries_node}
use Rattle.jsone_expr.specs.declared.machine.Frame.{Frame as Kind}
use Rattle.jsone_expr.specs.declared.machine.Frame.TheVariants.{Beside as beside_frame, Signed as signed_frame, Group as group_frame, Index as index_frame, Slice as slice_frame, Call as call_frame, Items as items_frame, Entries as entries_frame}
use Rattle.jsone_expr.specs.declared.machine.Next.{Next}
use Rattle.jsone_expr.specs.declared.machine.Next.TheVariants.{Expression as expression_next, Operator as operator_next, Member as member_next, Key as key_next, Colon as colon_next}
use Rattle.jsone_expr.specs.Tokens.{is_function}
use Rattle.jsone_expr.specs.Grammar.{level, right_level}
use Rattle.jsone_expr.specs.Trees.{Tree, number, text, literal, name, unary, binary, group, member, index, slice, call, items, entries, Trees, no_trees, tree, Fields, no_fields, field}
use Rattle.jsone_expr.specs.Postfix.{has_side, postfix, side_postfix, each_postfix, fields_postfix}
use Rattle.jsone_expr.specs.Moves.{Flat, flat, Parts, closed, comma_move, colon_move, round_move, square_move, curly_move, open_move, have_mark_move, empty_round_move, empty_square_move, empty_colon_move, want_mark_move, want_operator_move, key_mark_move, move}
use Rattle.jsone_expr.proofs.States.{Frame, beside, signed, in_group, in_index, in_slice, in_call, in_items, in_entries, State, want, have, after_dot, want_key, after_key, push, put, Part, close, round_closed, square_closed, curly_closed, at_colon, at_comma, at_open, have_mark, empty_round, empty_square, empty_colon, want_mark, want_operator, key_mark, step}

abbrev pub none_yet : Trees → Bool
none_yet no_trees = true
none_yet (tree a ts) = false

abbrev pub first_key : Fields → Bool
first_key no_fields = true
first_key (field k a ts) = false

-- the nodes of the trees in the frames
abbrev pub open_nodes : List Frame → List Node
open_nodes [] = []
open_nodes (beside o a ∷ fs) = open_nodes fs ++ (postfix a ++ (left_node o ∷ []))
open_nodes (signed s ∷ fs) = open_nodes fs
open_nodes (in_group ∷ fs) = open_nodes fs
open_nodes (in_index a ∷ fs) = open_nodes fs ++ postfix a
open_nodes (in_slice a f ∷ fs) = open_nodes fs ++ (postfix a ++ side_postfix f)
open_nodes (in_call n ts ∷ fs) = open_nodes fs ++ (begin_node ∷ each_postfix ts)
open_nodes (in_items ts ∷ fs) = open_nodes fs ++ (begin_node ∷ each_postfix ts)
open_nodes (in_entries k ts ∷ fs) = open_nodes fs ++ (begin_node ∷ fields_postfix ts)

abbrev pub kind_of : Frame → Kind
kind_of (beside o a) = beside_frame o
kind_of (signed s) = signed_frame s
kind_of in_group = group_frame
kind_of (in_index a) = index_frame
kind_of (in_slice a f) = slice_frame (has_side f)
kind_of (in_call n ts) = call_frame n (none_yet ts)
kind_of (in_items ts) = items_frame (none_yet ts)
kind_of (in_entries k ts) = entries_frame k

abbrev pub kinds : List Frame → List Kind
kinds [] = []
kinds (f ∷ fs) = kind_of f ∷ kinds fs

abbrev pub flatten : State → Flat
flatten (want fs) = flat (open_nodes fs) (kinds fs) expression_next
flatten (have t fs) = flat (open_nodes fs ++ postfix t) (kinds fs) operator_next
flatten (after_dot t fs) = flat (open_nodes fs ++ postfix t) (kinds fs) member_next
flatten (want_key ts fs) = flat (open_nodes fs ++ (begin_node ∷ fields_postfix ts)) (kinds fs) (key_next (first_key ts))
flatten (after_key k ts fs) = flat (open_nodes fs ++ (begin_node ∷ fields_postfix ts)) (kinds fs) (colon_next k)

each_push : (ts : Trees) (a : Tree) → each_postfix (push ts a) ≡ each_postfix ts ++ (postfix a ++ (item_node ∷ []))
each_push no_trees a = refl
each_push (tree b ts) a = ap (λ l. postfix b ++ (item_node ∷ l)) (each_push ts a) ∙ sym (append_assoc (postfix b) (item_node ∷ each_postfix ts) (postfix a ++ (item_node ∷ [])))

none_push : (ts : Trees) (a : Tree) → none_yet (push ts a) ≡ false
none_push no_trees a = refl
none_push (tree b ts) a = refl

fields_put : (ts : Fields) (k : Key) (a : Tree) → fields_postfix (put ts k a) ≡ fields_postfix ts ++ (postfix a ++ (field_node k ∷ []))
fields_put no_fields k a = refl
fields_put (field l b ts) k a = ap (λ x. postfix b ++ (field_node l ∷ x)) (fields_put ts k a) ∙ sym (append_assoc (postfix b) (field_node l ∷ fields_postfix ts) (postfix a ++ (field_node k ∷ [])))

first_put : (ts : Fields) (k : Key) (a : Tree) → first_key (put ts k a) ≡ false
first_put no_fields k a = refl
first_put (field l b ts) k a = refl

-- what is open, and the nodes of a tree over it
abbrev pub parts_of : Part → Parts
parts_of p = (open_nodes p.1 ++ postfix p.0, kinds p.1)

pub closed_at : (n : ℕ) (t : Tree) (fs : List Frame) → closed n (open_nodes fs ++ postfix t) (kinds fs) ≡ parts_of (close n t fs)
closed_at n t [] = refl
closed_at n t (beside o a ∷ fs) = by_test (ltb n (right_level o)) (ap (λ l. closed n l (kinds fs)) (simp append_assoc) ∙ closed_at n (binary o a t) fs)
  where
    by_test : (c : Bool) → closed n (((open_nodes fs ++ (postfix a ++ (left_node o ∷ []))) ++ postfix t) ++ (binary_node o ∷ [])) (kinds fs) ≡ parts_of (close n (binary o a t) fs) → cond c (closed n (((open_nodes fs ++ (postfix a ++ (left_node o ∷ []))) ++ postfix t) ++ (binary_node o ∷ [])) (kinds fs)) ((open_nodes fs ++ (postfix a ++ (left_node o ∷ []))) ++ postfix t, beside_frame o ∷ kinds fs) ≡ parts_of (cond c (close n (binary o a t) fs) (t, beside o a ∷ fs))
    by_test true h = h
    by_test false h = refl
closed_at n t (signed s ∷ fs) = ap (λ l. closed n l (kinds fs)) (append_assoc (open_nodes fs) (postfix t) (unary_node s ∷ [])) ∙ closed_at n (unary s t) fs
closed_at n t (in_group ∷ fs) = refl
closed_at n t (in_index a ∷ fs) = refl
closed_at n t (in_slice a x ∷ fs) = refl
closed_at n t (in_call m ts ∷ fs) = refl
closed_at n t (in_items ts ∷ fs) = refl
closed_at n t (in_entries m ts ∷ fs) = refl

abbrev Same : Option State → Option Flat → Type 0
Same o f = f ≡ option_map flatten o

flat_nodes : (ns ms : List Node) (fs : List Kind) (x : Next) → ns ≡ ms → Some (flat ns fs x) ≡ Some (flat ms fs x)
flat_nodes ns ms fs x e = ap (λ l. Some (flat l fs x)) e

same_comma : (t : Tree) (fs : List Frame) → Same (at_comma t fs) (comma_move (open_nodes fs ++ postfix t) (kinds fs))
same_comma t (in_call m us ∷ fs) = simp (none_push us t, each_push us t, append_assoc)
same_comma t (in_items us ∷ fs) = simp (none_push us t, each_push us t, append_assoc)
same_comma t (in_entries k us ∷ fs) = simp (first_put us k t, fields_put us k t, append_assoc)
same_comma t _ = refl

same_colon : (t : Tree) (fs : List Frame) → Same (at_colon t fs) (colon_move (open_nodes fs ++ postfix t) (kinds fs))
same_colon t (in_index a ∷ fs) = simp append_assoc
same_colon t _ = refl

same_round : (t : Tree) (fs : List Frame) → Same (round_closed t fs) (round_move (open_nodes fs ++ postfix t) (kinds fs))
same_round t (in_group ∷ fs) = simp append_assoc
same_round t (in_call m us ∷ fs) = simp (each_push us t, append_assoc)
same_round t _ = refl

same_square : (t : Tree) (fs : List Frame) → Same (square_closed t fs) (square_move (open_nodes fs ++ postfix t) (kinds fs))
same_square t (in_index a ∷ fs) = simp append_assoc
same_square t (in_slice a f ∷ fs) = simp append_assoc
same_square t (in_items us ∷ fs) = simp (each_push us t, append_assoc)
same_square t _ = refl

same_curly : (t : Tree) (fs : List Frame) → Same (curly_closed t fs) (curly_move (open_nodes fs ++ postfix t) (kinds fs))
same_curly t (in_entries k us ∷ fs) = simp (fields_put us k t, append_assoc)
same_curly t _ = refl

-- the last node is the first from the back
from_back : (ns : List Node) (n : Node) → reverse (ns ++ (n ∷ [])) ≡ n ∷ reverse ns
from_back ns n = reverse-append ns (n ∷ [])

-- nodes that end with one that is no name
no_call : (ns ms : List Node) (n : Node) (fs : List Kind) → ns ≡ ms ++ (n ∷ []) → ((back : List Node) → open_move (n ∷ back) fs ≡ None) → open_move (reverse ns) fs ≡ None
no_call ns ms n fs e h = ap (λ l. open_move (reverse l) fs) e ∙ ap (λ l. open_move l fs) (from_back ms n) ∙ h (reverse ms)

same_open : (t : Tree) (fs : List Frame) → Same (at_open t fs) (open_move (reverse (open_nodes fs ++ postfix t)) (kinds fs))
same_open (name n) fs = ap (λ l. open_move l (kinds fs)) (from_back (open_nodes fs) (name_node n)) ∙ by_test (is_function n)
  where
    by_test : (c : Bool) → cond c (Some (flat (reverse (reverse (open_nodes fs)) ++ (begin_node ∷ [])) (call_frame n true ∷ kinds fs) expression_next)) None ≡ option_map flatten (cond c (Some (want (in_call n no_trees ∷ fs))) None)
    by_test true = flat_nodes _ _ _ _ (ap (λ l. l ++ (begin_node ∷ [])) (reverse-reverse (open_nodes fs)))
    by_test false = refl
same_open (number d) fs = no_call (open_nodes fs ++ postfix (number d)) (open_nodes fs) (number_node d) (kinds fs) refl (λ b. refl)
same_open (text s) fs = no_call (open_nodes fs ++ postfix (text s)) (open_nodes fs) (text_node s) (kinds fs) refl (λ b. refl)
same_open (literal l) fs = no_call (open_nodes fs ++ postfix (literal l)) (open_nodes fs) (literal_node l) (kinds fs) refl (λ b. refl)
same_open (unary s a) fs = no_call (open_nodes fs ++ postfix (unary s a)) (open_nodes fs ++ postfix a) (unary_node s) (kinds fs) (simp append_assoc) (λ b. refl)
same_open (binary o a b) fs = no_call (open_nodes fs ++ postfix (binary o a b)) (open_nodes fs ++ (postfix a ++ (left_node o ∷ postfix b))) (binary_node o) (kinds fs) (simp append_assoc) (λ b. refl)
same_open (group a) fs = no_call (open_nodes fs ++ postfix (group a)) (open_nodes fs ++ postfix a) group_node (kinds fs) (simp append_assoc) (λ b. refl)
same_open (member a n) fs = no_call (open_nodes fs ++ postfix (member a n)) (open_nodes fs ++ postfix a) (member_node n) (kinds fs) (simp append_assoc) (λ b. refl)
same_open (index a b) fs = no_call (open_nodes fs ++ postfix (index a b)) (open_nodes fs ++ (postfix a ++ postfix b)) index_node (kinds fs) (simp append_assoc) (λ b. refl)
same_open (slice a f t) fs = no_call (open_nodes fs ++ postfix (slice a f t)) (open_nodes fs ++ (postfix a ++ (side_postfix f ++ side_postfix t))) (slice_node (has_side f) (has_side t)) (kinds fs) (simp append_assoc) (λ b. refl)
same_open (call n ts) fs = no_call (open_nodes fs ++ postfix (call n ts)) (open_nodes fs ++ (begin_node ∷ each_postfix ts)) (call_node n) (kinds fs) (simp append_assoc) (λ b. refl)
same_open (items ts) fs = no_call (open_nodes fs ++ postfix (items ts)) (open_nodes fs ++ (begin_node ∷ each_postfix ts)) items_node (kinds fs) (simp append_assoc) (λ b. refl)
same_open (entries ts) fs = no_call (open_nodes fs ++ postfix (entries ts)) (open_nodes fs ++ (begin_node ∷ fields_postfix ts)) entries_node (kinds fs) (simp append_assoc) (λ b. refl)

same_have_mark : (t : Tree) (fs : List Frame) (m : Mark) → Same (have_mark t fs m) (have_mark_move (open_nodes fs ++ postfix t) (kinds fs) m)
same_have_mark t fs Dot = refl
same_have_mark t fs Comma = ap (λ (p : Parts). comma_move p.0 p.1) (closed_at 0 t fs) ∙ (let p = close 0 t fs in same_comma p.0 p.1)
same_have_mark t fs Colon = ap (λ (p : Parts). colon_move p.0 p.1) (closed_at 0 t fs) ∙ (let p = close 0 t fs in same_colon p.0 p.1)
same_have_mark t fs OpenRound = same_open t fs
same_have_mark t fs CloseRound = ap (λ (p : Parts). round_move p.0 p.1) (closed_at 0 t fs) ∙ (let p = close 0 t fs in same_round p.0 p.1)
same_have_mark t fs OpenSquare = refl
same_have_mark t fs CloseSquare = ap (λ (p : Parts). square_move p.0 p.1) (closed_at 0 t fs) ∙ (let p = close 0 t fs in same_square p.0 p.1)
same_have_mark t fs CloseCurly = ap (λ (p : Parts). curly_move p.0 p.1) (closed_at 0 t fs) ∙ (let p = close 0 t fs in same_curly p.0 p.1)
same_have_mark t fs Bang = refl
same_have_mark t fs OpenCurly = refl
same_have_mark t fs Unknown = refl

same_empty_round : (fs : List Frame) → Same (empty_round fs) (empty_round_move (open_nodes fs) (kinds fs))
same_empty_round (in_call m no_trees ∷ fs) = flat_nodes _ _ _ _ (append_assoc (open_nodes fs) (begin_node ∷ []) _)
same_empty_round (in_call m (tree a ts) ∷ fs) = refl
same_empty_round _ = refl

same_empty_square : (fs : List Frame) → Same (empty_square fs) (empty_square_move (open_nodes fs) (kinds fs))
same_empty_square (in_items no_trees ∷ fs) = flat_nodes _ _ _ _ (append_assoc (open_nodes fs) (begin_node ∷ []) _)
same_empty_square (in_items (tree a ts) ∷ fs) = refl
same_empty_square (in_slice a f ∷ fs) = simp append_assoc
same_empty_square _ = refl

same_empty_colon : (fs : List Frame) → Same (empty_colon fs) (empty_colon_move (open_nodes fs) (kinds fs))
same_empty_colon (in_index a ∷ fs) = simp append-nil
same_empty_colon _ = refl

same_want_mark : (fs : List Frame) (m : Mark) → Same (want_mark fs m) (want_mark_move (open_nodes fs) (kinds fs) m)
same_want_mark fs CloseRound = same_empty_round fs
same_want_mark fs CloseSquare = same_empty_square fs
same_want_mark fs Colon = same_empty_colon fs
same_want_mark fs _ = refl

same_want_operator : (fs : List Frame) (o : Operator) → Same (want_operator fs o) (want_operator_move (open_nodes fs) (kinds fs) o)
same_want_operator fs Plus = refl
same_want_operator fs Minus = refl
same_want_operator fs _ = refl

same_key_mark : (ts : Fields) (fs : List Frame) (m : Mark) → Same (key_mark ts fs m) (key_mark_move (open_nodes fs ++ (begin_node ∷ fields_postfix ts)) (kinds fs) (first_key ts) m)
same_key_mark no_fields fs CloseCurly = flat_nodes _ _ _ _ (append_assoc (open_nodes fs) (begin_node ∷ []) _)
same_key_mark no_fields fs _ = refl
same_key_mark (field k a ts) fs _ = refl

-- the machine moves as its state steps
pub moves_along : (s : State) (x : Token) → move (flatten s) x ≡ option_map flatten (step s x)
moves_along (want fs) (operator o) = same_want_operator fs o
moves_along (want fs) (mark m) = same_want_mark fs m
moves_along (want fs) _ = refl
moves_along (have t fs) (operator o) =
    ap (λ (p : Parts). Some (flat (p.0 ++ (left_node o ∷ [])) (beside_frame o ∷ p.1) expression_next)) (closed_at (level o) t fs)
    ∙ (let p = close (level o) t fs in flat_nodes _ _ _ _ (append_assoc (open_nodes p.1) (postfix p.0) (left_node o ∷ [])))
moves_along (have t fs) (mark m) = same_have_mark t fs m
moves_along (have t fs) _ = refl
moves_along (after_dot t fs) (word n) = flat_nodes _ _ _ _ (append_assoc (open_nodes fs) (postfix t) (member_node n ∷ []))
moves_along (after_dot t fs) _ = refl
moves_along (want_key ts fs) (mark m) = same_key_mark ts fs m
moves_along (want_key ts fs) _ = refl
moves_along (after_key k ts fs) (mark Colon) = refl
moves_along (after_key k ts fs) _ = refl
