-- The lists that a plan brings, taken one by one for the tasks that one waits for.
use Rattle.std.proofs.Common.{◌≡◌, ℕ, zero, suc, ◌+◌, ◌<◌, Bool, true, List, [], ◌∷◌, ◌++◌, length, map, take, drop, get_or, refl, sym, ◌∙◌, ap, subst, arith}
use Rattle.std.specs.List.{list_all, AllZip}
use Rattle.std.proofs.lemmas.Bool.{and_parts}
use Rattle.std.proofs.lemmas.List.{take_more}
use Rattle.run_states.specs.Rows.{Row}
use Rattle.task_index.specs.declared.lists.TaskList.TheVariants.{Dependants}
use Rattle.task_index.specs.Plans.{HasRoomOn}

record IsNext (xs : List (List ℕ)) (k : ℕ) (x d : List ℕ) (rest : List (List ℕ)) : Type 0 where
  less : k < length xs
  here : get_or xs k d ≡ x
  left : drop (suc k) xs ≡ rest

drop-cons : (xs : List (List ℕ)) (k : ℕ) (x d : List ℕ) (rest : List (List ℕ)) → drop k xs ≡ x ∷ rest → IsNext xs k x d rest
drop-cons [] zero x d rest is = cc
drop-cons [] (suc k) x d rest is = cc
drop-cons (y ∷ xs) zero x d rest is = record { less = omega arith; here = (let same : y ≡ x = cc in same); left = (let same : xs ≡ rest = cc in same) }
drop-cons (y ∷ xs) (suc k) x d rest is = let next = drop-cons xs k x d rest is in record { less = (let less = next.less in omega arith); here = next.here; left = next.left }

all-next : (p : List ℕ → Bool) (xs : List (List ℕ)) (k : ℕ) (d : List ℕ) → list_all p xs ≡ true → k < length xs → p (get_or xs k d) ≡ true
all-next p [] k d all less = absurd (omega arith)
all-next p (x ∷ xs) zero d all less = (and_parts (p x) (list_all p xs) all).0
all-next p (x ∷ xs) (suc k) d all less = all-next p xs k d (and_parts (p x) (list_all p xs) all).1 (omega arith)

-- one is taken: it is for the task at that place among the named
pub record IsTaken (rows : List Row) (named : List (List ℕ)) (count spare : ℕ) (left : List ℕ) (id : List ℕ) : Type 0 where
  pub less : count < length named
  pub here : HasRoomOn rows (Dependants id) spare
  pub rest : AllZip (HasRoomOn rows) (map Dependants (drop (count + 1) named)) left
  pub more : take (count + 1) named ≡ take count named ++ id ∷ []

pub taken : (rows : List Row) (named : List (List ℕ)) (count spare : ℕ) (items left : List ℕ) (id : List ℕ) → AllZip (HasRoomOn rows) (map Dependants (drop count named)) items → items ≡ spare ∷ left → id ≡ get_or named count id
    → IsTaken rows named count spare left id
taken rows named count spare items left id all is at = by (drop count named) refl (subst (λ (ys : List ℕ). AllZip (HasRoomOn rows) (map Dependants (drop count named)) ys) is all) where
  by : (ds : List (List ℕ)) → drop count named ≡ ds → AllZip (HasRoomOn rows) (map Dependants ds) (spare ∷ left) → IsTaken rows named count spare left id
  by [] none all_ = absurd all_
  by (d ∷ ds) here all_ =
      let next = drop-cons named count d id ds here in
      let same : d ≡ id = sym next.here ∙ sym at in
      let one : count + 1 ≡ suc count = omega arith in
      let end : drop (count + 1) named ≡ ds = ap (λ n. drop n named) one ∙ next.left in
      record {
        less = next.less;
        here = subst (λ (i : List ℕ). HasRoomOn rows (Dependants i) spare) same all_.0;
        rest = subst (λ (es : List (List ℕ)). AllZip (HasRoomOn rows) (map Dependants es) left) (sym end) all_.1;
        more = take_more named count id next.less ∙ ap (λ (i : List ℕ). take count named ++ i ∷ []) (sym at);
      }

-- the named one passes what all pass
pub named-passes : (p : List ℕ → Bool) (named : List (List ℕ)) (count : ℕ) (id : List ℕ) → list_all p named ≡ true → count < length named → id ≡ get_or named count id → p id ≡ true
named-passes p named count id all less at = ap p at ∙ all-next p named count id all less

-- where none is left, all were taken
pub all-taken : (rows : List Row) (named : List (List ℕ)) (count : ℕ) → AllZip (HasRoomOn rows) (map Dependants (drop count named)) [] → take count named ≡ named
all-taken rows [] zero all = refl
all-taken rows [] (suc count) all = refl
all-taken rows (d ∷ named) zero all = absurd all
all-taken rows (d ∷ named) (suc count) all = ap (λ (ds : List (List ℕ)). d ∷ ds) (all-taken rows named count all)

-- room on each list that is brought, one more
pub brought : (rows : List Row) (named : List (List ℕ)) (count spare : ℕ) (so_far : List ℕ) (id : List ℕ) → count < length named → id ≡ get_or named count id → AllZip (HasRoomOn rows) (map Dependants (take count named)) so_far → HasRoomOn rows (Dependants id) spare
    → AllZip (HasRoomOn rows) (map Dependants (take (count + 1) named)) (so_far ++ spare ∷ [])
brought rows named count spare so_far id less at all here =
    subst (λ (ds : List (List ℕ)). AllZip (HasRoomOn rows) (map Dependants ds) (so_far ++ spare ∷ [])) (sym (take_more named count id less ∙ ap (λ (i : List ℕ). take count named ++ i ∷ []) (sym at)))
    (push (take count named) so_far all)
  where
    push : (ds : List (List ℕ)) (ys : List ℕ) → AllZip (HasRoomOn rows) (map Dependants ds) ys → AllZip (HasRoomOn rows) (map Dependants (ds ++ id ∷ [])) (ys ++ spare ∷ [])
    push [] [] all_ = (here, tt)
    push [] (y ∷ ys) all_ = absurd all_
    push (d ∷ ds) [] all_ = absurd all_
    push (d ∷ ds) (y ∷ ys) all_ = (all_.0, push ds ys all_.1)
