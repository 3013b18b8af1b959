-- The moves of the reading machine on its nodes, its frames (the innermost first) and what comes next.
use Rattle.std.specs.Prelude.{◌≡◌, ℕ, Bool, true, false, cond, nat_lt, List, [], ◌∷◌, ◌++◌, Option, Some, None, reverse}
use Rattle.jsone_expr.specs.declared.marks.Operator.{Operator}
use Rattle.jsone_expr.specs.declared.marks.Operator.TheVariants.{Plus, Minus}
use Rattle.jsone_expr.specs.declared.marks.Mark.{Mark}
use Rattle.jsone_expr.specs.declared.marks.Mark.TheVariants.{Bang, Dot, Comma, Colon, OpenRound, CloseRound, OpenSquare, CloseSquare, OpenCurly, CloseCurly}
use Rattle.jsone_expr.specs.declared.marks.Sign.TheVariants.{Denied, Negative, Positive}
use Rattle.jsone_expr.specs.declared.tokens.Token.{Token}
use Rattle.jsone_expr.specs.declared.tokens.Token.TheVariants.{Digits as digits, Quoted as quoted, Word as word, Literal as literal_word, Operator as operator, Mark as mark}
use Rattle.jsone_expr.specs.declared.tokens.Key.{Key}
use Rattle.jsone_expr.specs.declared.tokens.Key.TheVariants.{Plain as plain, InQuotes as in_quotes}
use Rattle.jsone_expr.specs.declared.nodes.Node.{Node}
use Rattle.jsone_expr.specs.declared.nodes.Node.TheVariants.{Number as number_node, Text as text_node, Literal as literal_node, Name as name_node, Unary as unary_node, Left as left_node, Binary as binary_node, Group as group_node, Member as member_node, Index as index_node, Slice as slice_node, Begin as begin_node, Item as item_node, Call as call_node, Items as items_node, Field as field_node, Entries as entries_node}
use Rattle.jsone_expr.specs.declared.machine.Frame.{Frame}
use Rattle.jsone_expr.specs.declared.machine.Frame.TheVariants.{Beside as beside_frame, Signed as signed_frame, Group as group_frame, Index as index_frame, Slice as slice_frame, Call as call_frame, Items as items_frame, Entries as entries_frame}
use Rattle.jsone_expr.specs.declared.machine.Next.{Next}
use Rattle.jsone_expr.specs.declared.machine.Next.TheVariants.{Expression as expression_next, Operator as operator_next, Member as member_next, Key as key_next, Colon as colon_next}
use Rattle.jsone_expr.specs.declared.machine.Reader.{Reader}
use Rattle.jsone_expr.specs.Tokens.{is_function}
use Rattle.jsone_expr.specs.Grammar.{level, right_level}

pub record Flat : Type 0 where
  pub nodes : List Node
  pub frames : List Frame
  pub next : Next

-- what a reader holds
abbrev pub flat_of : Reader → Flat
flat_of r = record { nodes = r.nodes.items; frames = reverse r.frames.items; next = r.next }

abbrev pub flat : List Node → List Frame → Next → Flat
flat ns fs next = record { nodes = ns; frames = fs; next = next }

abbrev pub Parts : Type 0
Parts = List Node × List Frame

-- the node that a frame closes with, where it binds tighter than the level
abbrev pub closing_node : Option Frame → ℕ → Option Node
closing_node None n = None
closing_node (Some (beside_frame o)) n = cond (nat_lt n (right_level o)) (Some (binary_node o)) None
closing_node (Some (signed_frame s)) n = Some (unary_node s)
closing_node (Some group_frame) n = None
closing_node (Some index_frame) n = None
closing_node (Some (slice_frame b)) n = None
closing_node (Some (call_frame w b)) n = None
closing_node (Some (items_frame b)) n = None
closing_node (Some (entries_frame k)) n = None

-- the frames that bind tighter than the level are closed
abbrev pub closed : ℕ → List Node → List Frame → Parts
closed n ns [] = (ns, [])
closed n ns (beside_frame o ∷ fs) = cond (nat_lt n (right_level o)) (closed n (ns ++ (binary_node o ∷ [])) fs) (ns, beside_frame o ∷ fs)
closed n ns (signed_frame s ∷ fs) = closed n (ns ++ (unary_node s ∷ [])) fs
closed n ns (group_frame ∷ fs) = (ns, group_frame ∷ fs)
closed n ns (index_frame ∷ fs) = (ns, index_frame ∷ fs)
closed n ns (slice_frame b ∷ fs) = (ns, slice_frame b ∷ fs)
closed n ns (call_frame w b ∷ fs) = (ns, call_frame w b ∷ fs)
closed n ns (items_frame b ∷ fs) = (ns, items_frame b ∷ fs)
closed n ns (entries_frame k ∷ fs) = (ns, entries_frame k ∷ fs)

abbrev pub comma_move : List Node → List Frame → Option Flat
comma_move ns (call_frame w b ∷ fs) = Some (flat (ns ++ (item_node ∷ [])) (call_frame w false ∷ fs) expression_next)
comma_move ns (items_frame b ∷ fs) = Some (flat (ns ++ (item_node ∷ [])) (items_frame false ∷ fs) expression_next)
comma_move ns (entries_frame k ∷ fs) = Some (flat (ns ++ (field_node k ∷ [])) fs (key_next false))
comma_move ns _ = None

abbrev pub colon_move : List Node → List Frame → Option Flat
colon_move ns (index_frame ∷ fs) = Some (flat ns (slice_frame true ∷ fs) expression_next)
colon_move ns _ = None

abbrev pub round_move : List Node → List Frame → Option Flat
round_move ns (group_frame ∷ fs) = Some (flat (ns ++ (group_node ∷ [])) fs operator_next)
round_move ns (call_frame w b ∷ fs) = Some (flat ((ns ++ (item_node ∷ [])) ++ (call_node w ∷ [])) fs operator_next)
round_move ns _ = None

abbrev pub square_move : List Node → List Frame → Option Flat
square_move ns (index_frame ∷ fs) = Some (flat (ns ++ (index_node ∷ [])) fs operator_next)
square_move ns (slice_frame b ∷ fs) = Some (flat (ns ++ (slice_node b true ∷ [])) fs operator_next)
square_move ns (items_frame b ∷ fs) = Some (flat ((ns ++ (item_node ∷ [])) ++ (items_node ∷ [])) fs operator_next)
square_move ns _ = None

abbrev pub curly_move : List Node → List Frame → Option Flat
curly_move ns (entries_frame k ∷ fs) = Some (flat ((ns ++ (field_node k ∷ [])) ++ (entries_node ∷ [])) fs operator_next)
curly_move ns _ = None

-- a bracket behind the last node, the nodes given from the last on
abbrev pub open_move : List Node → List Frame → Option Flat
open_move (name_node w ∷ back) fs = cond (is_function w) (Some (flat (reverse back ++ (begin_node ∷ [])) (call_frame w true ∷ fs) expression_next)) None
open_move _ fs = None

abbrev pub have_mark_move : List Node → List Frame → Mark → Option Flat
have_mark_move ns fs Dot = Some (flat ns fs member_next)
have_mark_move ns fs Comma = let p = closed 0 ns fs in comma_move p.0 p.1
have_mark_move ns fs Colon = let p = closed 0 ns fs in colon_move p.0 p.1
have_mark_move ns fs OpenRound = open_move (reverse ns) fs
have_mark_move ns fs CloseRound = let p = closed 0 ns fs in round_move p.0 p.1
have_mark_move ns fs OpenSquare = Some (flat ns (index_frame ∷ fs) expression_next)
have_mark_move ns fs CloseSquare = let p = closed 0 ns fs in square_move p.0 p.1
have_mark_move ns fs CloseCurly = let p = closed 0 ns fs in curly_move p.0 p.1
have_mark_move ns fs _ = None

abbrev pub empty_round_move : List Node → List Frame → Option Flat
empty_round_move ns (call_frame w true ∷ fs) = Some (flat (ns ++ (call_node w ∷ [])) fs operator_next)
empty_round_move ns _ = None

abbrev pub empty_square_move : List Node → List Frame → Option Flat
empty_square_move ns (items_frame true ∷ fs) = Some (flat (ns ++ (items_node ∷ [])) fs operator_next)
empty_square_move ns (slice_frame b ∷ fs) = Some (flat (ns ++ (slice_node b false ∷ [])) fs operator_next)
empty_square_move ns _ = None

abbrev pub empty_colon_move : List Node → List Frame → Option Flat
empty_colon_move ns (index_frame ∷ fs) = Some (flat ns (slice_frame false ∷ fs) expression_next)
empty_colon_move ns _ = None

abbrev pub want_mark_move : List Node → List Frame → Mark → Option Flat
want_mark_move ns fs Bang = Some (flat ns (signed_frame Denied ∷ fs) expression_next)
want_mark_move ns fs OpenRound = Some (flat ns (group_frame ∷ fs) expression_next)
want_mark_move ns fs OpenSquare = Some (flat (ns ++ (begin_node ∷ [])) (items_frame true ∷ fs) expression_next)
want_mark_move ns fs OpenCurly = Some (flat (ns ++ (begin_node ∷ [])) fs (key_next true))
want_mark_move ns fs CloseRound = empty_round_move ns fs
want_mark_move ns fs CloseSquare = empty_square_move ns fs
want_mark_move ns fs Colon = empty_colon_move ns fs
want_mark_move ns fs _ = None

abbrev pub want_operator_move : List Node → List Frame → Operator → Option Flat
want_operator_move ns fs Plus = Some (flat ns (signed_frame Positive ∷ fs) expression_next)
want_operator_move ns fs Minus = Some (flat ns (signed_frame Negative ∷ fs) expression_next)
want_operator_move ns fs _ = None

-- where an expression has to begin
abbrev pub want_move : List Node → List Frame → Token → Option Flat
want_move ns fs (digits d) = Some (flat (ns ++ (number_node d ∷ [])) fs operator_next)
want_move ns fs (quoted s) = Some (flat (ns ++ (text_node s ∷ [])) fs operator_next)
want_move ns fs (word n) = Some (flat (ns ++ (name_node n ∷ [])) fs operator_next)
want_move ns fs (literal_word l) = Some (flat (ns ++ (literal_node l ∷ [])) fs operator_next)
want_move ns fs (operator o) = want_operator_move ns fs o
want_move ns fs (mark m) = want_mark_move ns fs m

-- behind an expression
abbrev pub have_move : List Node → List Frame → Token → Option Flat
have_move ns fs (operator o) = let p = closed (level o) ns fs in Some (flat (p.0 ++ (left_node o ∷ [])) (beside_frame o ∷ p.1) expression_next)
have_move ns fs (mark m) = have_mark_move ns fs m
have_move ns fs _ = None

-- behind a dot
abbrev pub member_move : List Node → List Frame → Token → Option Flat
member_move ns fs (word n) = Some (flat (ns ++ (member_node n ∷ [])) fs operator_next)
member_move ns fs _ = None

abbrev pub key_mark_move : List Node → List Frame → Bool → Mark → Option Flat
key_mark_move ns fs true CloseCurly = Some (flat (ns ++ (entries_node ∷ [])) fs operator_next)
key_mark_move ns fs _ _ = None

-- where a key has to stand
abbrev pub key_move : List Node → List Frame → Bool → Token → Option Flat
key_move ns fs b (word n) = Some (flat ns fs (colon_next (plain n)))
key_move ns fs b (quoted s) = Some (flat ns fs (colon_next (in_quotes s)))
key_move ns fs b (mark m) = key_mark_move ns fs b m
key_move ns fs b _ = None

abbrev pub after_key_mark_move : List Node → List Frame → Key → Mark → Option Flat
after_key_mark_move ns fs k Colon = Some (flat ns (entries_frame k ∷ fs) expression_next)
after_key_mark_move ns fs k _ = None

-- behind a key
abbrev pub after_key_move : List Node → List Frame → Key → Token → Option Flat
after_key_move ns fs k (mark m) = after_key_mark_move ns fs k m
after_key_move ns fs k _ = None

abbrev pub move_by : List Node → List Frame → Next → Token → Option Flat
move_by ns fs expression_next x = want_move ns fs x
move_by ns fs operator_next x = have_move ns fs x
move_by ns fs member_next x = member_move ns fs x
move_by ns fs (key_next b) x = key_move ns fs b x
move_by ns fs (colon_next k) x = after_key_move ns fs k x

-- the machine after one more token, if that may come
abbrev pub move : Flat → Token → Option Flat
move s x = move_by s.nodes s.frames s.next x

-- whether the machine went on, and to where
abbrev pub Went : Option Flat → Bool → Flat → Type 0
Went (Some s) true t = t ≡ s
Went (Some s) false t = ⊥
Went None true t = ⊥
Went None false t = Unit {0}

-- the nodes, where no frame is left
abbrev pub left_open : List Node → List Frame → Option (List Node)
left_open ns [] = Some ns
left_open ns (f ∷ fs) = None

-- the nodes of the whole, where all that was begun has ended
abbrev pub ended_nodes : List Node → List Frame → Next → Option (List Node)
ended_nodes ns fs operator_next = let p = closed 0 ns fs in left_open p.0 p.1
ended_nodes ns fs _ = None
