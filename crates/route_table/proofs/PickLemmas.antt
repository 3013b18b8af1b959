-- The parts of a path that stand for a route's parameters.
use Rattle.std.proofs.Common.{◌≡◌, ℕ, zero, suc, ◌+◌, ◌<◌, min, Bool, true, false, cond, List, [], ◌∷◌, ◌++◌, map, length, take, get_or, add-one, append-nil, append_assoc, refl, sym, ap, ◌∙◌, eqb, arith}
use Rattle.std.proofs.lemmas.List.{length-map}
use Rattle.route_table.specs.Segments.{word, parameter}
use Rattle.route_table.specs.Texts.{segment_in, is_parameter, picked, picked_one}

first_piece : (piece part : List ℕ) (pieces parts : List (List ℕ)) → picked (map segment_in (piece ∷ pieces)) (part ∷ parts) ≡ picked_one (is_parameter piece) part ++ picked (map segment_in pieces) parts
first_piece [] part pieces parts = refl
first_piece (b ∷ piece) part pieces parts = by (eqb b 123)
  where
    by : (begins : Bool) → picked ((cond begins parameter (word (b ∷ piece))) ∷ map segment_in pieces) (part ∷ parts) ≡ picked_one begins part ++ picked (map segment_in pieces) parts
    by true = refl
    by false = refl

pick_next : (pieces parts : List (List ℕ)) (n : ℕ) → n < length pieces → n < length parts → picked (map segment_in (take (suc n) pieces)) (take (suc n) parts) ≡ picked (map segment_in (take n pieces)) (take n parts) ++ picked_one (is_parameter (get_or pieces n [])) (get_or parts n [])
pick_next [] parts n less fewer = absurd (omega arith)
pick_next (piece ∷ pieces) [] n less fewer = absurd (omega arith)
pick_next (piece ∷ pieces) (part ∷ parts) zero less fewer = first_piece piece part [] [] ∙ append-nil (picked_one (is_parameter piece) part)
pick_next (piece ∷ pieces) (part ∷ parts) (suc n) less fewer =
    first_piece piece part (take (suc n) pieces) (take (suc n) parts)
    ∙ ap (λ rest. picked_one (is_parameter piece) part ++ rest) (pick_next pieces parts n (omega arith) (omega arith))
    ∙ sym (append_assoc (picked_one (is_parameter piece) part) (picked (map segment_in (take n pieces)) (take n parts)) (picked_one (is_parameter (get_or pieces n [])) (get_or parts n [])))
    ∙ ap (λ front. front ++ picked_one (is_parameter (get_or pieces n [])) (get_or parts n [])) (sym (first_piece piece part (take n pieces) (take n parts)))

pub picked_more : (pieces parts : List (List ℕ)) (n : ℕ) → n < length pieces → n < length parts → picked (map segment_in (take (n + 1) pieces)) (take (n + 1) parts) ≡ picked (map segment_in (take n pieces)) (take n parts) ++ picked_one (is_parameter (get_or pieces n [])) (get_or parts n [])
picked_more pieces parts n less fewer = rw (add-one) (pick_next pieces parts n less fewer)

pub picked_all : (pieces parts : List (List ℕ)) (n : ℕ) → n ≡ min (length pieces) (length parts) → picked (map segment_in (take n pieces)) (take n parts) ≡ picked (map segment_in pieces) parts
picked_all [] parts zero is = refl
picked_all [] parts (suc n) is = refl
picked_all (piece ∷ pieces) [] zero is = refl
picked_all (piece ∷ pieces) [] (suc n) is = refl
picked_all (piece ∷ pieces) (part ∷ parts) zero is = absurd (omega arith)
picked_all (piece ∷ pieces) (part ∷ parts) (suc n) is =
    first_piece piece part (take n pieces) (take n parts)
    ∙ ap (λ rest. picked_one (is_parameter piece) part ++ rest) (picked_all pieces parts n (omega arith))
    ∙ sym (first_piece piece part pieces parts)

at_place : {A : Type 0} (f : A → List ℕ) (xs : List A) (n : ℕ) (x : A) → n < length xs → x ≡ get_or xs n x → get_or (map f xs) n [] ≡ f x
at_place f [] n x less is = absurd (omega arith)
at_place f (y ∷ xs) zero x less is = ap f (sym is)
at_place f (y ∷ xs) (suc n) x less is = at_place f xs n x (omega arith) is

-- one part more
pub picked_on : {A : Type 0} (f : A → List ℕ) (pieces parts : List A) (found : List (List ℕ)) (n : ℕ) (piece part : A) → n < length pieces → n < length parts → piece ≡ get_or pieces n piece → part ≡ get_or parts n part
    → found ≡ picked (map segment_in (take n (map f pieces))) (take n (map f parts)) → found ++ picked_one (is_parameter (f piece)) (f part) ≡ picked (map segment_in (take (n + 1) (map f pieces))) (take (n + 1) (map f parts))
picked_on f pieces parts found n piece part less fewer here there is =
    let one : n < length (map f pieces) = omega (arith, length-map pieces f) in
    let other : n < length (map f parts) = omega (arith, length-map parts f) in
    ap (λ front. front ++ picked_one (is_parameter (f piece)) (f part)) is
    ∙ sym (picked_more (map f pieces) (map f parts) n one other ∙ rw (at_place f pieces n piece less here, at_place f parts n part fewer there) refl)

pub picked_end : {A : Type 0} (f : A → List ℕ) (pieces parts : List A) (n : ℕ) → n ≡ min (length pieces) (length parts) → picked (map segment_in (take n (map f pieces))) (take n (map f parts)) ≡ picked (map segment_in (map f pieces)) (map f parts)
picked_end f pieces parts n is = picked_all (map f pieces) (map f parts) n (rw (length-map pieces f, length-map parts f) is)
