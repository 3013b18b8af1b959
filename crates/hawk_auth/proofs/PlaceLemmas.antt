-- Places in a list, seen as plain data.
use Rattle.std.proofs.Common.{◌≡◌, ℕ, ◌+◌, ◌<◌, ◌≤◌, List, [], ◌∷◌, ◌++◌, length, take, map, get_or, Some, option_map, refl, sym, ap, ◌∙◌, subst, arith, length-take-le}
use Rattle.std.proofs.lemmas.List.{length-map, get_or-map, take_more, take_all, get_or-take}
use Rattle.std.proofs.lemmas.List.Elements.{All-more}
use Rattle.std.proofs.lemmas.List.Quantifiers.{all_pairs_push}
use Rattle.std.proofs.lemmas.Option.{slice_get-map, slice_get_read, slice_get_within, slice_get-get_or, get_or_from_slice_get}
use Rattle.std.specs.List.{All, AllPairs, slice_get}

module _ {K D : Type 0} (f : K → D) (xs : List K) where
  module _ (i : ℕ) (x : K) (lt : i < length xs) (is : x ≡ get_or xs i x) where
    pub get_mapped : slice_get (map f xs) i ≡ Some (f x)
    get_mapped = slice_get-map f xs i ∙ ap (option_map f) (slice_get_read xs (length xs) i x refl lt is)

    pub within : i < length (map f xs)
    within = omega (arith, length-map xs f)

    pub at : (d : D) → get_or (map f xs) i d ≡ f x
    at d = get_or-map f xs i x d lt ∙ ap f (sym is)

    pub All_more : (P : D → Type 0) → All P (take i (map f xs)) → P (f x) → All P (take (i + 1) (map f xs))
    All_more P h p = All-more P (map f xs) i (f x) within h (subst P (sym (at (f x))) p)

    pub AllPairs_more : (R : D → D → Type 0) → AllPairs R (take i (map f xs)) → All (λ y. R y (f x)) (take i (map f xs)) → AllPairs R (take (i + 1) (map f xs))
    AllPairs_more R h all =
        let split : take (i + 1) (map f xs) ≡ take i (map f xs) ++ f x ∷ [] = take_more (map f xs) i (f x) within ∙ ap (λ (y : D). take i (map f xs) ++ y ∷ []) (at (f x)) in
        subst (λ (t : List D). AllPairs R t) (sym split) (all_pairs_push R (take i (map f xs)) (f x) h all)

  pub whole : (i : ℕ) → length xs ≤ i → take i (map f xs) ≡ map f xs
  whole i h = take_all i (map f xs) (omega (arith, length-map xs f))

-- what is found in a front stands in the whole list
pub get_in_front : {D : Type 0} (ys : List D) (n k : ℕ) (y : D) → slice_get (take n ys) k ≡ Some y → n ≤ length ys → (k < n) × (slice_get ys k ≡ Some y)
get_in_front ys n k y e fits =
    let lt : k < length (take n ys) = slice_get_within (take n ys) k y e in
    let low : k < n = omega (arith, length-take-le n ys fits) in
    (low, slice_get-get_or ys k y (omega arith) ∙ ap (λ z. Some z) (sym (get_or-take n ys k y low) ∙ get_or_from_slice_get (take n ys) k y y e))
