-- One frame more is closed: the innermost of the code stands last.
use Rattle.std.proofs.Common.{◌≡◌, ℕ, ◌+◌, ◌-◌, ◌<◌, Bool, true, false, cond, nat_lt, List, [], ◌∷◌, ◌++◌, length, take, get_or, reverse, Option, Some, None, sym, ap, ◌∙◌, arith}
use Rattle.std.specs.List.{slice_get}
use Rattle.std.proofs.lemmas.List.{take_more, take_all, reverse-append}
use Rattle.std.proofs.lemmas.Option.{slice_get_within, get_or_from_slice_get}
use Rattle.jsone_expr.specs.declared.nodes.Node.{Node}
use Rattle.jsone_expr.specs.declared.nodes.Node.TheVariants.{Unary as unary_node, Binary as binary_node}
use Rattle.jsone_expr.specs.declared.machine.Frame.{Frame}
use Rattle.jsone_expr.specs.declared.machine.Frame.TheVariants.{Beside as beside_frame, Signed as signed_frame, Group as group_frame, Index as index_frame, Slice as slice_frame, Call as call_frame, Items as items_frame, Entries as entries_frame}
use Rattle.jsone_expr.specs.Grammar.{right_level}
use Rattle.jsone_expr.specs.Moves.{closed, closing_node}

closed_one : (n : ℕ) (x : Node) (ns : List Node) (f : Frame) (fs : List Frame) → closing_node (Some f) n ≡ Some x → closed n (ns ++ (x ∷ [])) fs ≡ closed n ns (f ∷ fs)
closed_one n x ns (beside_frame o) fs e = by_test (nat_lt n (right_level o)) e
  where
    by_test : (c : Bool) → cond c (Some (binary_node o)) None ≡ Some x → closed n (ns ++ (x ∷ [])) fs ≡ cond c (closed n (ns ++ (binary_node o ∷ [])) fs) (ns, beside_frame o ∷ fs)
    by_test true d = let same : x ≡ binary_node o = cc in ap (λ y. closed n (ns ++ (y ∷ [])) fs) same
    by_test false d = absurd (cc)
closed_one n x ns (signed_frame s) fs e = let same : x ≡ unary_node s = cc in ap (λ y. closed n (ns ++ (y ∷ [])) fs) same
closed_one n x ns group_frame fs e = absurd (cc)
closed_one n x ns index_frame fs e = absurd (cc)
closed_one n x ns (slice_frame b) fs e = absurd (cc)
closed_one n x ns (call_frame w b) fs e = absurd (cc)
closed_one n x ns (items_frame b) fs e = absurd (cc)
closed_one n x ns (entries_frame k) fs e = absurd (cc)

-- the last frame stands behind the others
last_behind : (fs : List Frame) (f : Frame) → slice_get fs (length fs - 1) ≡ Some f → fs ≡ take (length fs - 1) fs ++ (f ∷ [])
last_behind fs f e =
    let within : length fs - 1 < length fs = slice_get_within fs (length fs - 1) f e in
    let more = take_more fs (length fs - 1) f within in
    let whole : take (length fs - 1 + 1) fs ≡ fs = take_all _ fs (omega arith) in
    let item : get_or fs (length fs - 1) f ≡ f = get_or_from_slice_get fs _ f f e in
    sym whole ∙ more ∙ ap (λ y. take (length fs - 1) fs ++ (y ∷ [])) item

pub closes_last : (n : ℕ) (x : Node) (ns : List Node) (fs gs : List Frame) (o : Option Frame) → o ≡ slice_get fs (length fs - 1) → closing_node o n ≡ Some x → gs ≡ take (length fs - 1) fs → closed n (ns ++ (x ∷ [])) (reverse gs) ≡ closed n ns (reverse fs)
closes_last n x ns fs gs None h e g = absurd (cc)
closes_last n x ns fs gs (Some f) h e g =
    let turned : reverse fs ≡ f ∷ reverse (take (length fs - 1) fs) = ap reverse (last_behind fs f (sym h)) ∙ reverse-append (take (length fs - 1) fs) (f ∷ []) in
    ap (λ l. closed n (ns ++ (x ∷ [])) (reverse l)) g ∙ closed_one n x ns f (reverse (take (length fs - 1) fs)) e ∙ ap (closed n ns) (sym turned)
