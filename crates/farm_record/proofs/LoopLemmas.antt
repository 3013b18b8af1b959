-- Reading names one after the other, as a loop does.
use Rattle.std.proofs.Common.{◌≡◌, ℕ, suc, ◌-◌, ◌+◌, ◌≤◌, ◌<◌, true, false, eqb, List, [], ◌∷◌, ◌++◌, length, Option, Some, None, refl, sym, ap, ◌∙◌, append_assoc, arith}
use Rattle.std.proofs.lemmas.List.{append-nil}
use Rattle.task_types.specs.declared.change.RunName.{RunName}
use Rattle.farm_record.specs.declared.unread.Unread.{Unread}
use Rattle.farm_record.specs.declared.unread.Unread.TheVariants.{NotARecord, NoMemory}
use Rattle.farm_record.specs.Reading.{◌>>=◌, Fails, all_of, run_at, names_at}

-- what was read before, and what is still read
abbrev pub with_front : List RunName → Option (List RunName × List ℕ) → Option (List RunName × List ℕ)
with_front front read = read >>= λ x. Some (front ++ x.0, x.1)

regroup : (front : List RunName) (n : RunName) (read : Option (List RunName × List ℕ)) → with_front front (read >>= λ x. Some (n ∷ x.0, x.1)) ≡ with_front (front ++ n ∷ []) read
regroup front n (Some x) = ap (λ (ns : List RunName). Some (ns, x.1)) (sym (append_assoc front (n ∷ []) x.0))
regroup front n None = refl

pub goes_on : (front : List RunName) (count i : ℕ) (bytes : List ℕ) (n : RunName) (after : List ℕ) (total : Option (List RunName × List ℕ)) → i < count → run_at bytes ≡ Some (n, after)
    → with_front front (names_at (count - i) bytes) ≡ total → with_front (front ++ n ∷ []) (names_at (count - (i + 1)) after) ≡ total
unfolding names_at
goes_on front count i bytes n after total lt h so_far =
    let k : count - i ≡ suc (count - (i + 1)) = omega arith in
    let one : with_front front (names_at (count - i) bytes) ≡ with_front (front ++ n ∷ []) (names_at (count - (i + 1)) after) = rw (k, h) (regroup front n (names_at (count - (i + 1)) after)) in
    sym one ∙ so_far

pub ends : (e : Unread) (front : List RunName) (count i : ℕ) (bytes : List ℕ) (total : Option (List RunName × List ℕ)) → i < count → Fails e (run_at bytes)
    → with_front front (names_at (count - i) bytes) ≡ total → Fails e (all_of total)
unfolding names_at
ends NoMemory front count i bytes total lt h so_far = _
ends NotARecord front count i bytes total lt h so_far =
    let k : count - i ≡ suc (count - (i + 1)) = omega arith in
    let one : with_front front (names_at (count - i) bytes) ≡ None = rw (k, h) refl in
    ap (λ (r : Option (List RunName × List ℕ)). all_of r) (sym so_far ∙ one)

is_done : (front : List RunName) (count i : ℕ) (bytes : List ℕ) (total : Option (List RunName × List ℕ)) → count ≤ i → with_front front (names_at (count - i) bytes) ≡ total → total ≡ Some (front, bytes)
unfolding names_at
is_done front count i bytes total le so_far =
    let k : count - i ≡ 0 = omega arith in
    let one : with_front front (names_at (count - i) bytes) ≡ Some (front, bytes) = rw k (ap (λ (ns : List RunName). Some (ns, bytes)) (append-nil front)) in
    sym so_far ∙ one

pub ends_whole : (front : List RunName) (count i : ℕ) (bytes : List ℕ) (total : Option (List RunName × List ℕ)) → count ≤ i → with_front front (names_at (count - i) bytes) ≡ total
    → eqb (length bytes) 0 ≡ true → all_of total ≡ Some front
ends_whole front count i bytes total le so_far nothing =
    ap (λ (r : Option (List RunName × List ℕ)). all_of r) (is_done front count i bytes total le so_far) ∙ rw nothing refl

pub ends_before : (front : List RunName) (count i : ℕ) (bytes : List ℕ) (total : Option (List RunName × List ℕ)) → count ≤ i → with_front front (names_at (count - i) bytes) ≡ total
    → eqb (length bytes) 0 ≡ false → all_of total ≡ None
ends_before front count i bytes total le so_far something =
    ap (λ (r : Option (List RunName × List ℕ)). all_of r) (is_done front count i bytes total le so_far) ∙ rw something refl
