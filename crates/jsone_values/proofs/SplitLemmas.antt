-- The pieces of a text, one after the other.
use Rattle.std.proofs.Common.{◌≡◌, ℕ, ◌<◌, ◌≤◌, List, [], ◌∷◌, ◌++◌, length, take, drop, map, refl, sym, ap, subst, ◌∙◌, arith, append_assoc}
use Rattle.std.proofs.lemmas.List.{take-append-drop}
use Rattle.std.specs.Str.Pattern.{LacksTextAt, HasTextAt}
use Rattle.jsone_values.specs.Splits.{IsFirstCut, IsSplit}

-- what is cut at the first separator
pub first_cut : (sep bs piece rest : List ℕ) (i j : ℕ) → ((k : ℕ) → k < i → LacksTextAt sep bs k) → HasTextAt sep bs i j → piece ≡ take i bs → rest ≡ drop j bs → length piece ≡ i → IsFirstCut sep bs piece rest
first_cut sep bs piece rest i j before has front behind size = record {
  spelled = sym (take-append-drop i bs) ∙ ap (λ l. l ++ drop i bs) (sym front) ∙ ap (λ l. piece ++ l) (has.split ∙ ap (λ l. sep ++ l) (sym behind));
  first = λ k less. before k (omega (arith, size));
}

-- one piece more, with what is left behind it
pub one_piece_more : (sep whole bs piece rest : List ℕ) (front : List (List ℕ)) → ((q : List ℕ) (qs : List (List ℕ)) → IsSplit sep bs (q ∷ qs) → IsSplit sep whole (front ++ (q ∷ qs))) → IsFirstCut sep bs piece rest
    → (q : List ℕ) (qs : List (List ℕ)) → IsSplit sep rest (q ∷ qs) → IsSplit sep whole ((front ++ piece ∷ []) ++ (q ∷ qs))
one_piece_more sep whole bs piece rest front leads cut q qs h =
    subst (λ l. IsSplit sep whole l) (sym (append_assoc front (piece ∷ []) (q ∷ qs))) (leads piece (q ∷ qs) (rest, cut, h))

-- the last piece is all that is left
pub last_piece : (sep whole bs : List ℕ) (front : List (List ℕ)) → ((q : List ℕ) (qs : List (List ℕ)) → IsSplit sep bs (q ∷ qs) → IsSplit sep whole (front ++ (q ∷ qs))) → ((i : ℕ) → i ≤ length bs → LacksTextAt sep bs i) → IsSplit sep whole (front ++ bs ∷ [])
last_piece sep whole bs front leads none = leads bs [] (refl, none)
