-- The order of scopes by bytes, and what is left of a list that is sorted.
use Rattle.std.proofs.Common.{◌≡◌, ℕ, List, [], ◌∷◌, sym, ap, ◌∙◌, Contains, arith, Equal, nat_cmp, nat_eq}
use Rattle.std.proofs.lemmas.Cmp.{nat_list_cmp_total, tied_itself}
use Rattle.std.proofs.lemmas.List.Filters.{dedup_is}
use Rattle.std.proofs.lemmas.List.Sorted.{Contains-permutation, IsPermutation-sym}
use Rattle.std.proofs.lemmas.List.Elements.{All-from_recursion}
use Rattle.std.proofs.lemmas.List.Kept.{AllPairs-cons, IsStrictlySortedBy-dedup, Contains-dedup, Contains-from_dedup}
use Rattle.std.proofs.lemmas.Map.Text.{is_eq-slice_cmp}
use Rattle.std.proofs.lemmas.Slice.Eq.{bytes_eq-Decides}
use Rattle.std.specs.Cmp.Lexicographic.{slice_cmp, pointwise, texts_ties, nat_list_eq_equiv}
use Rattle.std.specs.List.{dedup}
use Rattle.std.specs.List.Retain.{IsFiltered, DiffersFromLast}
use Rattle.std.specs.List.Sorted.{IsSorted, IsStrictlySortedBy, IsPermutation}
use Rattle.std.specs.Ordering.{is_eq}
use Rattle.scope_sets.specs.Scopes.{IsRising, IsBefore}

pub same_from_Equal : (xs ys : List ℕ) → slice_cmp nat_cmp xs ys ≡ Equal → xs ≡ ys
same_from_Equal xs ys e = (bytes_eq-Decides xs ys).0 (sym (is_eq-slice_cmp xs ys) ∙ ap is_eq e)

pub Equal-itself : (xs : List ℕ) → slice_cmp nat_cmp xs xs ≡ Equal
Equal-itself xs = tied_itself nat_list_cmp_total xs

IsRising-from_strict : (set : List (List ℕ)) → IsStrictlySortedBy (slice_cmp nat_cmp) set → IsRising set
unfolding IsStrictlySortedBy
IsRising-from_strict [] h = λ i j d lt in_range. absurd (omega arith)
IsRising-from_strict (x ∷ set) h = AllPairs-cons IsBefore x set (All-from_recursion (IsBefore x) set h.0) (IsRising-from_strict set h.1)

-- what a sort and a `dedup` leave is strictly sorted, and has the same members
module _ (xs ys zs : List (List ℕ)) (moved : IsPermutation xs ys) (kept : IsFiltered (DiffersFromLast (pointwise nat_eq)) [] ys zs) where
  is : zs ≡ dedup (pointwise nat_eq) ys
  is = dedup_is _ _ _ kept

  pub rises_from_list : IsSorted (slice_cmp nat_cmp) ys → IsRising zs
  rises_from_list sorted = rw is (IsRising-from_strict _ (IsStrictlySortedBy-dedup nat_list_cmp_total texts_ties ys sorted))

  pub keeps_from_list : (s : List ℕ) → Contains xs s → Contains zs s
  keeps_from_list s h = rw is (Contains-dedup nat_list_eq_equiv (λ x y. (bytes_eq-Decides x y).0) ys s (Contains-permutation _ _ s moved h))

  pub adds_none_from_list : (s : List ℕ) → Contains zs s → Contains xs s
  adds_none_from_list s h = Contains-permutation _ _ s (IsPermutation-sym _ _ moved) (Contains-from_dedup _ _ s (rw is at h))
