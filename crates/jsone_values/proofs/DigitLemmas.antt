-- More digits write no lesser number.
use Rattle.std.proofs.Common.{◌≡◌, ℕ, ◌+◌, ◌-◌, ◌*◌, ◌^◌, ◌<◌, ◌≤◌, List, [], ◌∷◌, drop, get_or, length, suc, sym, ap, ◌∙◌, arith, drop-cons}
use Rattle.std.proofs.lemmas.List.{drop_all}
use Rattle.jsone_values.specs.Numbers.{digits_from}

pub no_less : (n : ℕ) (ds : List ℕ) → n ≤ digits_from n ds
no_less n [] = omega arith
no_less n (d ∷ ds) = omega (arith, no_less (n * 10 + (d - 48)) ds)

too_great : (n d : ℕ) (ds : List ℕ) → (n * 10 + (d - 48) < 2 ^ 64 → ⊥) → digits_from n (d ∷ ds) < 2 ^ 64 → ⊥
too_great n d ds h f = let more = no_less (n * 10 + (d - 48)) ds in h (omega arith)

pub whole_too_great : (n i : ℕ) (ds : List ℕ) → i < length ds → digits_from n (drop i ds) ≡ digits_from 0 ds → (n * 10 + (get_or ds i 0 - 48) < 2 ^ 64 → ⊥) → digits_from 0 ds < 2 ^ 64 → ⊥
whole_too_great n i ds lt e h f =
    let split = ap (digits_from n) (drop-cons ds i 0 lt) in
    too_great n (get_or ds i 0) (drop (suc i) ds) h (omega (arith, e, split, f))

pub whole_is : (n i : ℕ) (ds : List ℕ) → length ds ≤ i → digits_from n (drop i ds) ≡ digits_from 0 ds → n ≡ digits_from 0 ds
whole_is n i ds h e = sym (ap (digits_from n) (drop_all i ds h)) ∙ e
