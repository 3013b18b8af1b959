-- What is held of tasks tells what falls due first, and where.
use Rattle.std.proofs.Common.{◌≡◌, ℕ, zero, suc, ◌+◌, ◌≤◌, ◌<◌, ◌==◌, ◌⊎◌, inl, inr, min, Bool, true, false, not, ◌||◌, cond, List, [], ◌∷◌, ◌++◌, length, filter, Option, Some, None, IfSome, option_map, option_and_then, unwrap_or, nat_le, nat_lt, slice_get, refl, ap, sym, ◌∙◌, arith}
use Rattle.std.specs.List.{list_any, list_all, reduce, position, position_or_len, prefix_len}
use Rattle.std.specs.Option.{option_to_list}
use Rattle.std.proofs.lemmas.Bool.{leb-true, leb-false, le-leb, lt-leb, lt-ltb, le-ltb, eqb-true, eq-eqb}
use Rattle.std.proofs.Math.Bool.{or-true}
use Rattle.std.proofs.lemmas.List.Folds.{list_any-append, list_all-append}
use Rattle.std.proofs.lemmas.Option.{slice_get_within}
use Rattle.claim_queue.specs.Dues.{Dues as RowDues, first_due_of}
use Rattle.claim_queue.specs.Firsts.{IsHeld, IsFirstDue}
use Rattle.claim_queue.proofs.LeastLemmas.{first-due-is}
use Rattle.run_states.specs.Rows.{Row, is_resolved, claim_due, loses_claim, due_moments}
use Rattle.task_index.specs.Due.{all_due_moments, meets_deadline}
use Rattle.task_index.specs.declared.dues.Dues.{Dues}
use Rattle.task_index.specs.Dated.{deadline_of, AreHeld, AreDues, earlier_of, place_at}
use Rattle.task_index.proofs.DueLemmas.{meets, loses}
use Rattle.task_index.proofs.LeastLemmas.{first-is, least-is, none-first}

-- ---- what is held is what falls due of a task

held-is : (o : Option (Option ℕ)) (x : ℕ) → unwrap_or o None ≡ Some x → o ≡ Some (Some x)
held-is None x is = cc
held-is (Some o) x is = ap Some is

entry-held : (due : Row → Option ℕ) (dues : RowDues) (rows : List Row) (place : ℕ) (row : Row) (x : ℕ) → AreHeld due dues rows → slice_get rows place ≡ Some row → due row ≡ Some x → IsHeld dues.rows place x
entry-held due dues rows place row x held here is =
    held-is (slice_get dues.rows place) x (held place ∙ (ap (λ (o : Option Row). option_and_then due o) here ∙ is))

record Entry (due : Row → Option ℕ) (rows : List Row) (place x : ℕ) : Type 0 where
  row : Row
  here : slice_get rows place ≡ Some row
  is : due row ≡ Some x

held-entry : (due : Row → Option ℕ) (dues : RowDues) (rows : List Row) (place x : ℕ) → AreHeld due dues rows → IsHeld dues.rows place x → Entry due rows place x
held-entry due dues rows place x held is = by (slice_get rows place) refl where
  shown : option_and_then due (slice_get rows place) ≡ Some x
  shown = sym (held place) ∙ ap (λ (o : Option (Option ℕ)). unwrap_or o None) is

  by : (o : Option Row) → slice_get rows place ≡ o → Entry due rows place x
  by None here = let no_ : None ≡ Some x = sym (ap (λ (o : Option Row). option_and_then due o) here) ∙ shown in cc
  by (Some row) here = record { row = row; here = here; is = sym (ap (λ (o : Option Row). option_and_then due o) here) ∙ shown }

-- what falls due of each task does so after a moment
abbrev AreLater : (Row → Option ℕ) → List Row → ℕ → Type 0
AreLater due rows moment = (place : ℕ) (row : Row) (x : ℕ) → slice_get rows place ≡ Some row → due row ≡ Some x → moment < x

-- what falls due of the task at a place does so at a moment; and of no other sooner, or at the same moment where that stands before it
record IsSoonest (due : Row → Option ℕ) (rows : List Row) (at place : ℕ) : Type 0 where
  entry : Entry due rows place at
  least : (other : ℕ) (row : Row) (x : ℕ) → slice_get rows other ≡ Some row → due row ≡ Some x → (at ≤ x) × (x ≡ at → place ≤ other)

-- the first that falls due up to a moment
abbrev Tells : (Row → Option ℕ) → List Row → ℕ → Option (ℕ × ℕ) → Type 0
Tells due rows moment None = AreLater due rows moment
Tells due rows moment (Some first) = (first.0 ≤ moment) × IsSoonest due rows first.0 first.1

first-tells : (due : Row → Option ℕ) (dues : RowDues) (rows : List Row) (moment : ℕ) → AreHeld due dues rows → Tells due rows moment (first_due_of moment dues)
first-tells due dues rows moment held = by (first_due_of moment dues) (first-due-is moment dues) where
  by : (first : Option (ℕ × ℕ)) → IsFirstDue moment dues.rows first → Tells due rows moment first
  by None is = λ place row x here falls. is place x (entry-held due dues rows place row x held here falls)
  by (Some first) is = (
    is.1,
    record {
      entry = held-entry due dues rows first.1 first.0 held is.0;
      least = λ other row x here falls. is.2 other x (entry-held due dues rows other row x held here falls);
    },
  )

-- ---- the place of the first that passes a test

prefix-at : (test : Row → Bool) (rows : List Row) (place : ℕ) (row : Row) → slice_get rows place ≡ Some row → test row ≡ true → ((other : ℕ) (r : Row) → other < place → slice_get rows other ≡ Some r → test r ≡ false) → prefix_len (λ r. not (test r)) rows ≡ place
prefix-at test [] place row here passes before = cc
prefix-at test (r ∷ rows) zero row here passes before =
    let same : r ≡ row = cc in
    ap (λ b. cond (not b) (1 + prefix_len (λ r. not (test r)) rows) 0) (ap test same ∙ passes)
prefix-at test (r ∷ rows) (suc place) row here passes before =
    let rest = prefix-at test rows place row here passes (λ other s less there. before (suc other) s (omega arith) there) in
    let fails : test r ≡ false = before zero r (omega arith) refl in
    ap (λ b. cond (not b) (1 + prefix_len (λ r. not (test r)) rows) 0) fails ∙ omega arith

position-at : (test : Row → Bool) (rows : List Row) (place : ℕ) (row : Row) → slice_get rows place ≡ Some row → test row ≡ true → ((other : ℕ) (r : Row) → other < place → slice_get rows other ≡ Some r → test r ≡ false) → Some place ≡ position test rows
position-at test rows place row here passes before =
    let is : position_or_len test rows ≡ place = prefix-at test rows place row here passes before in
    let within : nat_lt (position_or_len test rows) (length rows) ≡ true = ap (λ n. nat_lt n (length rows)) is ∙ lt-ltb place (length rows) (slice_get_within rows place row here) in
    sym (ap (λ b. cond b (Some (position_or_len test rows)) None) within ∙ ap Some is)

prefix-none : (test : Row → Bool) (rows : List Row) → ((other : ℕ) (r : Row) → slice_get rows other ≡ Some r → test r ≡ false) → prefix_len (λ r. not (test r)) rows ≡ length rows
prefix-none test [] fail = refl
prefix-none test (r ∷ rows) fail =
    ap (λ b. cond (not b) (1 + prefix_len (λ r. not (test r)) rows) 0) (fail zero r refl)
    ∙ (let rest = prefix-none test rows (λ other s there. fail (suc other) s there) in omega arith)

position-none : (test : Row → Bool) (rows : List Row) → ((other : ℕ) (r : Row) → slice_get rows other ≡ Some r → test r ≡ false) → None ≡ position test rows
position-none test rows fail =
    let is : position_or_len test rows ≡ length rows = prefix-none test rows fail in
    let past : nat_lt (position_or_len test rows) (length rows) ≡ false = le-ltb (position_or_len test rows) (length rows) (omega arith) in
    sym (ap (λ b. cond b (Some (position_or_len test rows)) None) past)

-- a test passes where what falls due of a task does so at a moment, and only where it does so up to it
record Reads (due : Row → Option ℕ) (test : Row → Bool) (at : ℕ) : Type 0 where
  passes : (row : Row) → due row ≡ Some at → test row ≡ true
  comes : (row : Row) → test row ≡ true → (x : ℕ) × (due row ≡ Some x) × (x ≤ at)

fails : (b : Bool) → (b ≡ true → ⊥) → b ≡ false
fails true no_ = absurd (no_ refl)
fails false no_ = refl

place-told : (due : Row → Option ℕ) (test : Row → Bool) (dues : RowDues) (rows : List Row) (at : ℕ) → Reads due test at → AreHeld due dues rows → IfSome (place_at at (first_due_of at dues)) (λ place. place ≡ position test rows)
place-told due test dues rows at reads held = by (first_due_of at dues) (first-tells due dues rows at held) where
  none : AreLater due rows at → (other : ℕ) (r : Row) → slice_get rows other ≡ Some r → test r ≡ true → ⊥
  none later other r there passes = let come = reads.comes r passes in let late = later other r come.0 there come.1 in let early = come.2 in omega arith

  first-here : (moment place : ℕ) → moment ≡ at → IsSoonest due rows moment place → Some place ≡ position test rows
  first-here moment place same first =
      position-at test rows place first.entry.row first.entry.here (reads.passes first.entry.row (first.entry.is ∙ ap Some same))
      (λ other r less there. fails (test r) (λ passes.
      let come = reads.comes r passes in
      let low = first.least other r come.0 there come.1 in
      let early = come.2 in
      let least = low.0 in
      let same_ : come.0 ≡ moment = omega arith in
      let behind = low.1 same_ in
      omega arith))

  by : (first : Option (ℕ × ℕ)) → Tells due rows at first → IfSome (place_at at first) (λ place. place ≡ position test rows)
  by None later = position-none test rows (λ other r there. fails (test r) (none later other r there))
  by (Some first) tells = told (first.0 == at) refl where
    told : (b : Bool) → (first.0 == at) ≡ b → IfSome (cond b (Some (Some first.1)) None) (λ place. place ≡ position test rows)
    told true same = first-here first.0 first.1 (eqb-true first.0 at same) tells.1
    told false apart = tt

deadline-is : (row : Row) (b : Bool) (x : ℕ) → is_resolved row ≡ b → deadline_of row ≡ Some x → (is_resolved row ≡ false) × (row.definition.deadline ≡ x)
deadline-is row true x is falls = let no_ : None ≡ Some x = sym (ap (λ b. cond b None (Some row.definition.deadline)) is) ∙ falls in cc
deadline-is row false x is falls =
    let some_ : Some row.definition.deadline ≡ Some x = sym (ap (λ b. cond b None (Some row.definition.deadline)) is) ∙ falls in
    let same : row.definition.deadline ≡ x = cc in (is, same)

reads-deadline : (at : ℕ) → Reads deadline_of (meets_deadline at) at
reads-deadline at = record {
  passes = λ row falls. let open_ = deadline-is row (is_resolved row) at refl falls in rw (open_.0, eq-eqb row.definition.deadline at open_.1) refl;
  comes =
      λ row is. let met = meets at row is in
      let falls : deadline_of row ≡ Some row.definition.deadline = ap (λ b. cond b None (Some row.definition.deadline)) met.0 in
      let same = met.1 in
      (row.definition.deadline, falls, omega arith);
}

reads-claim : (at : ℕ) → Reads claim_due (loses_claim at) at
reads-claim at = record {
  passes = λ row falls. rw falls (le-leb at at (omega arith));
  comes = λ row is. let l = loses at row is in (l.due, l.claim, leb-true l.due at l.reached);
}

pub deadline-told : (dues : Dues) (rows : List Row) (at : ℕ) → AreDues dues rows → IfSome (place_at at (first_due_of at dues.deadlines)) (λ place. place ≡ position (meets_deadline at) rows)
deadline-told dues rows at held = place-told deadline_of (meets_deadline at) dues.deadlines rows at (reads-deadline at) held.deadlines

pub lease-told : (dues : Dues) (rows : List Row) (at : ℕ) → AreDues dues rows → IfSome (place_at at (first_due_of at dues.leases)) (λ place. place ≡ position (loses_claim at) rows)
lease-told dues rows at held = place-told claim_due (loses_claim at) dues.leases rows at (reads-claim at) held.leases

-- ---- the first moment

-- what falls due of a task: its deadline, and the end of its claim
two-due : (row : Row) → due_moments row ≡ option_to_list (deadline_of row) ++ option_to_list (claim_due row)
two-due row = by (is_resolved row) refl where
  by : (b : Bool) → is_resolved row ≡ b → due_moments row ≡ option_to_list (deadline_of row) ++ option_to_list (claim_due row)
  by true is = rw is refl
  by false is = rw is refl

all-one : (P : ℕ → Bool) (o : Option ℕ) → ((x : ℕ) → o ≡ Some x → P x ≡ true) → list_all P (option_to_list o) ≡ true
all-one P None each = refl
all-one P (Some x) each = rw (each x refl) refl

all-due : (P : ℕ → Bool) (rows : List Row) → ((place : ℕ) (row : Row) (x : ℕ) → slice_get rows place ≡ Some row → deadline_of row ≡ Some x → P x ≡ true)
    → ((place : ℕ) (row : Row) (x : ℕ) → slice_get rows place ≡ Some row → claim_due row ≡ Some x → P x ≡ true) → list_all P (all_due_moments rows) ≡ true
all-due P [] deadlines claims = refl
all-due P (row ∷ rows) deadlines claims =
    let rest = all-due P rows (λ place r x here falls. deadlines (suc place) r x here falls) (λ place r x here falls. claims (suc place) r x here falls) in
    let first = all-one P (deadline_of row) (λ x falls. deadlines zero row x refl falls) in
    let second = all-one P (claim_due row) (λ x falls. claims zero row x refl falls) in
    let here : list_all P (due_moments row) ≡ true =
    ap (list_all P) (two-due row)
    ∙ (list_all-append P (option_to_list (deadline_of row)) (option_to_list (claim_due row)) ∙ rw (first, second) refl) in
    list_all-append P (due_moments row) (all_due_moments rows) ∙ rw (here, rest) refl

none-one : (P : ℕ → Bool) (o : Option ℕ) → ((x : ℕ) → o ≡ Some x → P x ≡ false) → list_any P (option_to_list o) ≡ false
none-one P None each = refl
none-one P (Some x) each = rw (each x refl) refl

none-due : (P : ℕ → Bool) (rows : List Row) → ((place : ℕ) (row : Row) (x : ℕ) → slice_get rows place ≡ Some row → deadline_of row ≡ Some x → P x ≡ false)
    → ((place : ℕ) (row : Row) (x : ℕ) → slice_get rows place ≡ Some row → claim_due row ≡ Some x → P x ≡ false) → list_any P (all_due_moments rows) ≡ false
none-due P [] deadlines claims = refl
none-due P (row ∷ rows) deadlines claims =
    let rest = none-due P rows (λ place r x here falls. deadlines (suc place) r x here falls) (λ place r x here falls. claims (suc place) r x here falls) in
    let first = none-one P (deadline_of row) (λ x falls. deadlines zero row x refl falls) in
    let second = none-one P (claim_due row) (λ x falls. claims zero row x refl falls) in
    let here : list_any P (due_moments row) ≡ false =
    ap (list_any P) (two-due row)
    ∙ (list_any-append P (option_to_list (deadline_of row)) (option_to_list (claim_due row)) ∙ rw (first, second) refl) in
    list_any-append P (due_moments row) (all_due_moments rows) ∙ rw (here, rest) refl

some-here : (P : ℕ → Bool) (row : Row) (x : ℕ) → P x ≡ true → (deadline_of row ≡ Some x) ⊎ (claim_due row ≡ Some x) → list_any P (due_moments row) ≡ true
some-here P row x passes falls = ap (list_any P) (two-due row) ∙ (list_any-append P (option_to_list (deadline_of row)) (option_to_list (claim_due row)) ∙ by falls) where
  one : list_any P (x ∷ []) ≡ true
  one = rw passes refl

  by : (deadline_of row ≡ Some x) ⊎ (claim_due row ≡ Some x) → (list_any P (option_to_list (deadline_of row)) || list_any P (option_to_list (claim_due row))) ≡ true
  by (inl is) = ap (λ b. b || list_any P (option_to_list (claim_due row))) (ap (λ (o : Option ℕ). list_any P (option_to_list o)) is ∙ one)
  by (inr is) = ap (λ b. list_any P (option_to_list (deadline_of row)) || b) (ap (λ (o : Option ℕ). list_any P (option_to_list o)) is ∙ one) ∙ or-true (list_any P (option_to_list (deadline_of row)))

some-due : (P : ℕ → Bool) (rows : List Row) (place : ℕ) (row : Row) (x : ℕ) → slice_get rows place ≡ Some row → P x ≡ true → (deadline_of row ≡ Some x) ⊎ (claim_due row ≡ Some x) → list_any P (all_due_moments rows) ≡ true
some-due P [] place row x here passes falls = cc
some-due P (r ∷ rows) zero row x here passes falls =
    let same : r ≡ row = cc in
    list_any-append P (due_moments r) (all_due_moments rows)
    ∙ ap (λ b. b || list_any P (all_due_moments rows)) (ap (λ (s : Row). list_any P (due_moments s)) same ∙ some-here P row x passes falls)
some-due P (r ∷ rows) (suc place) row x here passes falls =
    list_any-append P (due_moments r) (all_due_moments rows)
    ∙ (ap (λ b. list_any P (due_moments r) || b) (some-due P rows place row x here passes falls) ∙ or-true (list_any P (due_moments r)))

-- the first moment at which something falls due, of those up to this one
abbrev first_in : List Row → ℕ → Option ℕ
first_in rows moment = reduce min (filter (λ due. nat_le due moment) (all_due_moments rows))

none-in : (rows : List Row) (moment : ℕ) → AreLater deadline_of rows moment → AreLater claim_due rows moment → None ≡ first_in rows moment
none-in rows moment deadlines claims =
    sym (none-first moment (all_due_moments rows)
    (none-due (λ due. nat_le due moment) rows (λ place row x here falls. lt-leb x moment (deadlines place row x here falls)) (λ place row x here falls. lt-leb x moment (claims place row x here falls))))

-- it is the moment of a task, where what falls due of each does so no earlier
abbrev NoneBefore : (Row → Option ℕ) → List Row → ℕ → Type 0
NoneBefore due rows at = (place : ℕ) (row : Row) (x : ℕ) → slice_get rows place ≡ Some row → due row ≡ Some x → at ≤ x

some-in : (rows : List Row) (moment at place : ℕ) (row : Row) → slice_get rows place ≡ Some row → (deadline_of row ≡ Some at) ⊎ (claim_due row ≡ Some at) → at ≤ moment → NoneBefore deadline_of rows at → NoneBefore claim_due rows at
    → Some at ≡ first_in rows moment
some-in rows moment at place row here falls early deadlines claims =
    let each = all-due (nat_le at) rows (λ p r x there is. le-leb at x (deadlines p r x there is)) (λ p r x there is. le-leb at x (claims p r x there is)) in
    let some_ = some-due (λ due. nat_le due at) rows place row at here (le-leb at at (omega arith)) falls in
    sym (first-is moment at (all_due_moments rows) (least-is at (all_due_moments rows) each some_) (le-leb at moment early))

both-in : (rows : List Row) (moment : ℕ) (one other : Option (ℕ × ℕ)) → Tells deadline_of rows moment one → Tells claim_due rows moment other → earlier_of (option_map (λ first. first.0) one) (option_map (λ first. first.0) other) ≡ first_in rows moment
both-in rows moment None None deadlines claims = none-in rows moment deadlines claims
both-in rows moment None (Some c) deadlines claims =
    let first = claims.1 in
    let early = claims.0 in
    some-in rows moment c.0 c.1 first.entry.row first.entry.here (inr first.entry.is) early
    (λ p r x there is. let late = deadlines p r x there is in omega arith) (λ p r x there is. (first.least p r x there is).0)
both-in rows moment (Some d) None deadlines claims =
    let first = deadlines.1 in
    let early = deadlines.0 in
    some-in rows moment d.0 d.1 first.entry.row first.entry.here (inl first.entry.is) early
    (λ p r x there is. (first.least p r x there is).0) (λ p r x there is. let late = claims p r x there is in omega arith)
both-in rows moment (Some d) (Some c) deadlines claims = by (nat_le d.0 c.0) refl where
  deadline : IsSoonest deadline_of rows d.0 d.1
  deadline = deadlines.1

  claim : IsSoonest claim_due rows c.0 c.1
  claim = claims.1

  by : (b : Bool) → nat_le d.0 c.0 ≡ b → Some (min d.0 c.0) ≡ first_in rows moment
  by true is =
      let le : d.0 ≤ c.0 = leb-true d.0 c.0 is in
      let same : min d.0 c.0 ≡ d.0 = omega arith in
      ap Some same ∙ some-in rows moment d.0 d.1 deadline.entry.row deadline.entry.here (inl deadline.entry.is) deadlines.0
      (λ p r x there is. (deadline.least p r x there is).0) (λ p r x there is. let late = (claim.least p r x there is).0 in omega arith)
  by false is =
      let lt : c.0 < d.0 = leb-false d.0 c.0 is in
      let same : min d.0 c.0 ≡ c.0 = omega arith in
      ap Some same ∙ some-in rows moment c.0 c.1 claim.entry.row claim.entry.here (inr claim.entry.is) claims.0
      (λ p r x there is. let late = (deadline.least p r x there is).0 in omega arith) (λ p r x there is. (claim.least p r x there is).0)

pub first-told : (dues : Dues) (rows : List Row) (moment : ℕ) → AreDues dues rows
    → earlier_of (option_map (λ first. first.0) (first_due_of moment dues.deadlines)) (option_map (λ first. first.0) (first_due_of moment dues.leases)) ≡ reduce min (filter (λ due. nat_le due moment) (all_due_moments rows))
first-told dues rows moment held =
    both-in rows moment (first_due_of moment dues.deadlines) (first_due_of moment dues.leases) (first-tells deadline_of dues.deadlines rows moment held.deadlines) (first-tells claim_due dues.leases rows moment held.leases)
