-- Whether runs are the first of their queue, by the place of the first one's task.
use Rattle.std.proofs.Common.{◌≡◌, ℕ, Bool, false, List, [], ◌∷◌, Option, Some, None, sym, ap, ◌∙◌, subst, slice_get, get_or}
use Rattle.std.specs.Option.{IfSome, option_map_or}
use Rattle.std.specs.List.{position}
use Rattle.std.proofs.lemmas.Option.{slice_get-get_or}
use Rattle.run_states.specs.Rows.{Row}
use Rattle.task_types.specs.declared.change.RunName.{RunName}
use Rattle.task_index.specs.Changes.{has_id, are_first}
use Rattle.task_index.specs.Contents.{row_with}
use Rattle.task_index.specs.Picks.{are_picks}
use Rattle.task_index.proofs.PlaceLemmas.{place-found, place-within, place-lost}

-- the task at the place of an id
placed-row : (id : List ℕ) (rows : List Row) (place : ℕ) (P : Row → Type 0) → position (has_id id) rows ≡ Some place → IfSome (slice_get rows place) P → (row : Row) × (row_with id rows ≡ Some row) × P row
placed-row id [] place P found is = absurd (cc)
placed-row id (first ∷ rows) place P found is =
    let row = get_or (first ∷ rows) place first in
    let within = (place-within (has_id id) (first ∷ rows) place first found).0 in
    (row, place-found (has_id id) (first ∷ rows) place first found, subst (λ (o : Option Row). IfSome o P) (slice_get-get_or (first ∷ rows) place first within) is)

pub first-at : (names : List RunName) (rows : List Row) (first : RunName) (place : ℕ) (result : Bool) → slice_get names 0 ≡ Some first → position (has_id first.id) rows ≡ Some place
    → IfSome (slice_get rows place) (λ row. result ≡ are_picks row.definition.queue names rows) → result ≡ are_first names rows
first-at [] rows first place result here found is = absurd (cc)
first-at (name ∷ names) rows first place result here found is =
    let same : name ≡ first = cc in
    let row = placed-row first.id rows place (λ row. result ≡ are_picks row.definition.queue (name ∷ names) rows) found is in
    row.2 ∙ sym (ap (λ (n : RunName). option_map_or (λ (r : Row). are_picks r.definition.queue (name ∷ names) rows) (row_with n.id rows) false) same ∙ ap (λ (o : Option Row). option_map_or (λ (r : Row). are_picks r.definition.queue (name ∷ names) rows) o false) row.1)

pub first-lost : (names : List RunName) (rows : List Row) (first : RunName) → slice_get names 0 ≡ Some first → position (has_id first.id) rows ≡ None → false ≡ are_first names rows
first-lost [] rows first here lost = absurd (cc)
first-lost (name ∷ names) rows first here lost =
    let same : name ≡ first = cc in
    sym (ap (λ (n : RunName). option_map_or (λ (r : Row). are_picks r.definition.queue (name ∷ names) rows) (row_with n.id rows) false) same ∙ ap (λ (o : Option Row). option_map_or (λ (r : Row). are_picks r.definition.queue (name ∷ names) rows) o false) (place-lost (has_id first.id) rows lost))
