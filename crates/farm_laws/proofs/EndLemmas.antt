-- A change that may be made comes before the end of each claim.
use Rattle.std.proofs.Common.{◌≡◌, ℕ, ◌<◌, Bool, true, false, not, ◌&&◌, ◌||◌, cond, List, [], ◌∷◌, find, Option, Some, refl, ap, sym, ◌∙◌, nat_le, bytes_eq}
use Rattle.std.specs.List.{list_any}
use Rattle.std.specs.Option.{option_to_list}
use Rattle.std.proofs.lemmas.Bool.{leb-false, and_parts}
use Rattle.std.proofs.lemmas.List.Folds.{list_any-append}
use Rattle.farm_text.specs.declared.moment.TheConstants.{LAST_TOLD_MOMENT}
use Rattle.run_states.specs.Rows.{Row, claim_due, due_moments}
use Rattle.run_states.proofs.ClaimLemmas.{claim-open, open-due}
use Rattle.task_types.specs.declared.change.Change.{Change}
use Rattle.task_index.specs.Contents.{Contents, row_with}
use Rattle.task_index.specs.Due.{all_due_moments, is_due}
use Rattle.task_index.specs.Changes.{may_be, may_apply}
use Rattle.task_index.proofs.DueLemmas.{any_none}

-- where nothing is due, nothing is due of a task that is found
found-open : (test : Row → Bool) (at : ℕ) (rows : List Row) (row : Row) → find test rows ≡ Some row → list_any (λ due. nat_le due at) (all_due_moments rows) ≡ false → list_any (λ due. nat_le due at) (due_moments row) ≡ false
found-open test at [] row is none = cc
found-open test at (first ∷ rows) row is none = by (found-open test at rows row) (test first) refl where
  parts : (list_any (λ due. nat_le due at) (due_moments first) ≡ false) × (list_any (λ due. nat_le due at) (all_due_moments rows) ≡ false)
  parts =
      any_none (list_any (λ due. nat_le due at) (due_moments first)) (list_any (λ due. nat_le due at) (all_due_moments rows))
      (sym (list_any-append (λ due. nat_le due at) (due_moments first) (all_due_moments rows)) ∙ none)

  by : (find test rows ≡ Some row → list_any (λ due. nat_le due at) (all_due_moments rows) ≡ false → list_any (λ due. nat_le due at) (due_moments row) ≡ false) → (b : Bool) → test first ≡ b
      → list_any (λ due. nat_le due at) (due_moments row) ≡ false
  by rest true here =
      let same : Some first ≡ Some row = sym (ap (λ b. cond b (Some first) (find test rows)) here) ∙ is in
      let e : first ≡ row = cc in
      sym (ap (λ (r : Row). list_any (λ due. nat_le due at) (due_moments r)) e) ∙ parts.0
  by rest false here = rest (sym (ap (λ b. cond b (Some first) (find test rows)) here) ∙ is) parts.1

none-is : (b : Bool) → not b ≡ true → b ≡ false
none-is true e = cc
none-is false e = refl

pub before-end : (contents : Contents) (change : Change) (id : List ℕ) (row : Row) (end : ℕ) → may_apply contents change ≡ true → row_with id contents.rows ≡ Some row → claim_due row ≡ Some end → change.at < end
before-end contents change id row end may stands claim =
    let at = change.at in
    let later = (and_parts (nat_le contents.last at) (nat_le at LAST_TOLD_MOMENT && (not (is_due contents at) && may_be contents at change.kind)) may).1 in
    let told = (and_parts (nat_le at LAST_TOLD_MOMENT) (not (is_due contents at) && may_be contents at change.kind) later).1 in
    let idle = none-is (is_due contents at) (and_parts (not (is_due contents at)) (may_be contents at change.kind) told).0 in
    let none = found-open (λ (r : Row). bytes_eq r.id id) at contents.rows row stands idle in
    let due : due_moments row ≡ row.definition.deadline ∷ end ∷ [] = open-due row (claim-open row end claim) ∙ ap (λ (o : Option ℕ). row.definition.deadline ∷ option_to_list o) claim in
    let two : (nat_le row.definition.deadline at || (nat_le end at || false)) ≡ false = sym (ap (list_any (λ d. nat_le d at)) due) ∙ none in
    let last = any_none (nat_le end at) false (any_none (nat_le row.definition.deadline at) (nat_le end at || false) two).1 in
    leb-false end at last.0
