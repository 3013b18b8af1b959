-- What falls due first of some tasks, with one task more.
use Rattle.std.proofs.Common.{◌≡◌, ℕ, ◌<◌, ◌+◌, min, List, [], ◌∷◌, ◌++◌, length, Option, Some, refl, ap, sym, ◌∙◌, append-nil, take, get_or}
use Rattle.std.specs.List.{reduce}
use Rattle.std.specs.Option.{option_to_list}
use Rattle.std.proofs.lemmas.List.Concat.{flat_map-append}
use Rattle.std.proofs.lemmas.List.Sums.{fold-append}
use Rattle.std.proofs.lemmas.List.{take_more}
use Rattle.run_states.specs.Rows.{Row, due_moments}
use Rattle.task_index.specs.Due.{all_due_moments}

reduce-join : (xs ys : List ℕ) → reduce min (option_to_list (reduce min xs) ++ ys) ≡ reduce min (xs ++ ys)
reduce-join [] ys = refl
reduce-join (x ∷ xs) ys = ap Some (sym (fold-append min x xs ys))

pub soonest-more : (rows : List Row) (row : Row) → reduce min (all_due_moments (rows ++ row ∷ [])) ≡ reduce min (option_to_list (reduce min (all_due_moments rows)) ++ due_moments row)
soonest-more rows row =
    let all : all_due_moments (rows ++ row ∷ []) ≡ all_due_moments rows ++ due_moments row =
    flat_map-append due_moments rows (row ∷ []) ∙ ap (λ (ds : List ℕ). all_due_moments rows ++ ds) (append-nil (due_moments row)) in
    ap (reduce min) all ∙ sym (reduce-join (all_due_moments rows) (due_moments row))

more-rows : (rows : List Row) (i : ℕ) (item : Row) → i < length rows → item ≡ get_or rows i item → take (i + 1) rows ≡ take i rows ++ item ∷ []
more-rows rows i item lt is = take_more rows i item lt ∙ ap (λ (r : Row). take i rows ++ r ∷ []) (sym is)

pub soonest-step : (rows : List Row) (i : ℕ) (item : Row) (so_far then : Option ℕ) → i < length rows → so_far ≡ reduce min (all_due_moments (take i rows)) → then ≡ reduce min (option_to_list so_far ++ due_moments item) → item ≡ get_or rows i item
    → then ≡ reduce min (all_due_moments (take (i + 1) rows))
soonest-step rows i item so_far then lt is earlier here =
    earlier ∙ (ap (λ (o : Option ℕ). reduce min (option_to_list o ++ due_moments item)) is ∙ (sym (soonest-more (take i rows) item) ∙ ap (λ (rs : List Row). reduce min (all_due_moments rs)) (sym (more-rows rows i item lt here))))
