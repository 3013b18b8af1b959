-- The pages of lists of tasks, member by member.
use Rattle.std.proofs.Common.{◌≡◌, ℕ, Bool, true, false, if◌then◌else◌, List, [], ◌∷◌, length, ◌-◌, map, Option, Some, None, option_copied, is_some, MatchOption, Bor, refl, sym, ap, ◌∙◌, subst}
use Rattle.std.specs.List.{list_any, last_or, slice_get}
use Rattle.run_states.specs.Rows.{Row}
use Rattle.run_states.proofs.RunLemmas.{get-last}
use Rattle.task_index.specs.Changes.{kept_scheduler}
use Rattle.task_index.specs.Lists.{is_listed, listed, names_listed, page_rows, has_more}
use Rattle.task_index.specs.declared.lists.Page.{Page}
use Rattle.task_index.specs.declared.lists.TaskList.{TaskList}
use Rattle.task_index.specs.declared.lists.TaskList.TheVariants.{Group}
use Rattle.farm_asks.specs.declared.question.PageRequest.{PageRequest}
use Rattle.farm_machine.specs.Pages.{page_doc, token_behind, page_body}

-- what is behind a reference is there where the reference is
pub some-copied : {A : Type 0} (o : Option (Bor A)) → is_some o ≡ is_some (option_copied o)
some-copied None = refl
some-copied (Some x) = refl

-- a group has a scheduler where a task is of it
pub has-scheduler : (group : List ℕ) (rows : List Row) → is_some (kept_scheduler group rows) ≡ list_any (is_listed (Group group)) rows
has-scheduler group [] = refl
has-scheduler group (row ∷ rows) = by (has-scheduler group rows) (is_listed (Group group) row) refl where
  by : is_some (kept_scheduler group rows) ≡ list_any (is_listed (Group group)) rows → (b : Bool) → is_listed (Group group) row ≡ b → is_some (kept_scheduler group (row ∷ rows)) ≡ list_any (is_listed (Group group)) (row ∷ rows)
  by rest true is = rw is refl
  by rest false is = rw is rest

-- ---- the last of a page

last-from : {A B : Type 0} (f : A → B) (x : A) (xs : List A) (y : A) → last_or (Some x) xs ≡ Some y → last_or (Some (f x)) (map f xs) ≡ Some (f y)
last-from f x [] y is = let same : x ≡ y = cc in ap (λ z. Some (f z)) same
last-from f x (z ∷ zs) y is = last-from f z zs y is

-- the last of what is told of each, where there is a last
last-map : {A B : Type 0} (f : A → B) (other : Option B) (xs : List A) (y : A) → last_or None xs ≡ Some y → last_or other (map f xs) ≡ Some (f y)
last-map f other [] y is = cc
last-map f other (x ∷ xs) y is = last-from f x xs y is

-- the same of what is told in two steps, by its place
pub last-told : {A B C : Type 0} (f : A → B) (g : B → C) (other : Option C) (xs : List A) (y : A) → slice_get xs (length xs - 1) ≡ Some y → last_or other (map g (map f xs)) ≡ Some (g (f y))
last-told f g other xs y is = last-map g other (map f xs) (f y) (last-map f None xs y (sym (get-last xs) ∙ is))

-- the token of a page that has a last task
pub token-some : (more : Bool) (after : Option (List ℕ)) (items xs : List (Bor Row)) (row : Bor Row) (id : List ℕ) → xs ≡ items → more ≡ true → Some row ≡ slice_get xs (length xs - 1) → id ≡ row.now.id
    → Some id ≡ (if more then last_or after (map (λ r. r.id) (map (λ r. r.now) items)) else None)
token-some false after items xs row id here follows found is = cc
token-some true after items xs row id here follows found is =
    let there : slice_get items (length items - 1) ≡ Some row = subst (λ (ys : List (Bor Row)). slice_get ys (length ys - 1) ≡ Some row) here (sym found) in
    ap Some is ∙ sym (last-told (λ (r : Bor Row). r.now) (λ (r : Row). r.id) after items row there)

-- ---- a page that is read

pub read-same : (list : TaskList) (page : PageRequest) (rows : List Row) (found : Option Page) (shown : Page) (slice : List (Bor Row)) (token : Option (List ℕ)) → found ≡ Some shown
    → MatchOption found (names_listed list page.after rows ≡ false) (λ p. (names_listed list page.after rows ≡ true) × (map (λ row. row.now) p.rows.items ≡ page_rows page.after page.limit (listed list rows)) × (p.more ≡ has_more page.after page.limit (listed list rows)))
    → slice ≡ shown.rows.items → token ≡ (if shown.more then last_or page.after (map (λ r. r.id) (map (λ r. r.now) shown.rows.items)) else None)
    → page_doc list token (map (λ r. r.now) slice) ≡ page_body list page rows
read-same list page rows None shown slice token is facts here there = cc
read-same list page rows (Some p) shown slice token is facts here there =
    let same : p ≡ shown = cc in
    let shown_is : map (λ (r : Bor Row). r.now) shown.rows.items ≡ page_rows page.after page.limit (listed list rows) = subst (λ (q : Page). map (λ (r : Bor Row). r.now) q.rows.items ≡ page_rows page.after page.limit (listed list rows)) same facts.1 in
    let more_is : shown.more ≡ has_more page.after page.limit (listed list rows) = subst (λ (q : Page). q.more ≡ has_more page.after page.limit (listed list rows)) same facts.2 in
    let token_is : token ≡ token_behind page (listed list rows) = there ∙ rw (more_is, shown_is) refl in
    rw (token_is, here, shown_is) refl
