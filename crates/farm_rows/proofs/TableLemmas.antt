-- What the tables keep: a tick, and a task more.
use Rattle.std.proofs.Common.{◌≡◌, ℕ, ◌≤◌, ◌<◌, ◌+◌, min, max, true, false, ◌&&◌, List, [], ◌∷◌, ◌++◌, length, Option, Some, None, refl, ap, sym, ◌∙◌, subst, arith, append-nil, take, get_or}
use Rattle.std.specs.List.{reduce, list_any, list_all, AllZip}
use Rattle.std.specs.Option.{option_to_list}
use Rattle.std.proofs.lemmas.Bool.{ltb-true, leb-true}
use Rattle.std.proofs.lemmas.List.Concat.{flat_map-append}
use Rattle.std.proofs.lemmas.List.Sums.{fold-append, sum_by_push}
use Rattle.std.proofs.lemmas.List.Folds.{list_all-append}
use Rattle.std.proofs.lemmas.List.{take_more}
use Rattle.std.proofs.Math.ListN.{length-append}
use Rattle.farm_text.specs.declared.moment.TheConstants.{LAST_TOLD_MOMENT}
use Rattle.run_states.specs.Rows.{Row, new_row, due_moments}
use Rattle.task_types.specs.declared.change.Creation.{Creation}
use Rattle.task_index.specs.Contents.{Contents, row_with, HaveOwnIds}
use Rattle.task_index.specs.Ready.{is_ready, settled_row}
use Rattle.task_index.proofs.Settling.{one_if}
use Rattle.task_index.specs.Due.{all_due_moments, is_due, advance}
use Rattle.task_index.specs.Changes.{creating, applied}
use Rattle.task_index.specs.Plans.{Room, room_for, HasRoomOn, lists_of, IsPlanOn}
use Rattle.farm_rows.specs.Deeds.{planned_of}
use Rattle.farm_rows.specs.declared.plan.Deed.TheVariants.{Create}
use Rattle.task_index.specs.Sweep.{numbered, all_turns, runs_made, fits, IsKept}
use Rattle.task_index.proofs.AdvanceLemmas.{advance-is}
use Rattle.farm_rows.proofs.CreateLemmas.{new-is, created-applied}
use Rattle.task_index.specs.Dependencies.{ids_of, depends_on_these}
use Rattle.task_index.proofs.ComingLemmas.{well-stand}
use Rattle.task_index.proofs.IdLemmas.{may-create, may-wait, created-stands, created-ids}
use Rattle.task_index.proofs.RoomLemmas.{room-enough, greater-room}
use Rattle.task_index.proofs.TurnLemmas.{with_last, idle-first, all-idle, all-last, all-keeps}

-- the contents of these parts
abbrev pub contents_of : List Row → ℕ → ℕ → Contents
contents_of rows last next = record { rows = rows; last = last; next = next }

-- ---- a tick

-- where nothing is due, all turns leave the contents
pub turns-idle : (contents : Contents) (moment : ℕ) → is_due contents moment ≡ false → contents ≡ all_turns contents moment
turns-idle contents moment none = sym (all-idle contents moment (idle-first contents moment none))

-- all turns of the tasks and the next number are all turns of the contents
pub turns-numbered : (contents : Contents) (rows : List Row) (last next moment : ℕ) (new : List Row) (drawn : ℕ) → contents_of rows last next ≡ contents → all_turns (numbered rows next) moment ≡ numbered new drawn
    → contents_of new last drawn ≡ all_turns contents moment
turns-numbered contents rows last next moment new drawn same turns =
    sym (sym (ap (λ (c : Contents). all_turns c moment) same) ∙ (all-last (numbered rows next) moment last ∙ ap (with_last last) turns))

-- all turns, and then the moment, are an advance
pub tick-advances : (before after : Contents) (moment reached : ℕ) → after ≡ all_turns before moment → reached ≡ max after.last moment → contents_of after.rows reached after.next ≡ advance before moment
tick-advances before after moment reached turns is =
    let last : after.last ≡ before.last = ap (λ (c : Contents). c.last) turns ∙ all-keeps before moment in
    let max_is : reached ≡ max before.last moment = is ∙ ap (λ l. max l moment) last in
    ap (λ (c : Contents). contents_of c.rows reached c.next) turns
    ∙ (ap (λ l. contents_of (all_turns before moment).rows l (all_turns before moment).next) max_is ∙ sym (advance-is before moment))

-- ---- a task more

-- what a plan of a creation tells
pub record Fits (rows : List Row) (at had brought : ℕ) : Type 0 where
  pub room : length rows < max had brought
  pub kept : room_for (length rows + 1) ≤ max had brought
  pub few : length rows < 1_000_000
  pub told : at ≤ LAST_TOLD_MOMENT

pub plan-fits : (contents : Contents) (rows : List Row) (at had brought : ℕ) (room : Room) (row : Row) → IsPlanOn contents (planned_of at (Create row) [] room) → room.tasks ≤ brought → rows ≡ contents.rows → room_for (length rows) ≤ had → Fits rows at had brought
plan-fits contents rows at had brought room row planned enough_ same keeps =
    let creation : Creation = record { id = row.id; definition = row.definition } in
    let may = may-create contents at creation planned.lawful in
    let told = leb-true at LAST_TOLD_MOMENT may.0 in
    let len : length rows ≡ length contents.rows = ap length same in
    let few : length contents.rows < 1_000_000 = ltb-true (length contents.rows) 1_000_000 may.2 in
    let few_rows : length rows < 1_000_000 = omega arith in
    let P : ℕ → Type 0 = λ n. room_for (n + 1) ≤ max (room_for n) brought in
    let has : P (length rows) = subst P (sym len) (greater-room (length contents.rows) room.tasks brought planned.room.0 enough_) in
    let enough : length rows + 1 ≤ room_for (length rows + 1) = room-enough (length rows + 1) (omega arith) in
    record { room = omega arith; kept = omega arith; few = few_rows; told = told }

-- what the tables keep, with one task more
pub kept-more : (rows new : List Row) (row : Row) (last at next : ℕ) (had brought capacity : ℕ) → IsKept rows last next had → Fits rows at had brought → new ≡ rows ++ row ∷ [] → fits row ≡ true → list_any (is_ready new) new ≡ false → row_with row.id rows ≡ None
    → max had brought ≤ capacity → IsKept new at (next + length row.runs) capacity
kept-more rows new row last at next had brought capacity kept fit_ is row_fits unready unknown made =
    let len : length new ≡ length rows + 1 = ap length is ∙ (length-append rows (row ∷ []) ∙ refl) in
    let P : ℕ → Type 0 = λ n. room_for n ≤ capacity in
    let room : room_for (length rows + 1) ≤ capacity = (let h = fit_.kept in omega arith) in
    let sum : runs_made new ≡ runs_made rows + length row.runs = ap runs_made is ∙ sum_by_push (λ (r : Row). length r.runs) rows row in
    record {
      told = fit_.told;
      few = (let h = fit_.few in omega arith);
      own = subst HaveOwnIds (sym is) (created-ids rows row kept.own unknown);
      none = unready;
      fit = ap (list_all fits) is ∙ (list_all-append fits rows (row ∷ []) ∙ (ap (λ b. b && (fits row && true)) kept.fit ∙ ap (λ b. b && true) row_fits));
      drawn = (let h = kept.drawn in omega arith);
      room = subst P (sym len) room;
    }

-- the task of a plan is the new one, as it stands once it has settled
pub named : (contents : Contents) (rows : List Row) (last next at : ℕ) (room : Room) (row : Row) → contents_of rows last next ≡ contents → list_any (is_ready rows) rows ≡ false → IsPlanOn contents (planned_of at (Create row) [] room)
    → row ≡ settled_row (contents_of rows last next) at (new_row row.id row.definition)
named contents rows last next at room row same none planned =
    let here : IsPlanOn (contents_of rows last next) (planned_of at (Create row) [] room) = rw same planned in
    let creation : Creation = record { id = row.id; definition = row.definition } in
    let stands = created-stands (contents_of rows last next) at creation none here.lawful in
    let made : row ∷ [] ≡ settled_row (contents_of rows last next) at (new_row row.id row.definition) ∷ [] = here.shows ∙ ap (λ (o : Option Row). option_to_list o ++ []) stands in
    cc

-- no task has its id
pub planned-unknown : (contents : Contents) (rows : List Row) (last next at : ℕ) (room : Room) (row : Row) → contents_of rows last next ≡ contents → IsPlanOn contents (planned_of at (Create row) [] room) → row_with row.id rows ≡ None
planned-unknown contents rows last next at room row same planned =
    let here : IsPlanOn (contents_of rows last next) (planned_of at (Create row) [] room) = rw same planned in
    (may-create (contents_of rows last next) at (record { id = row.id; definition = row.definition }) here.lawful).1

-- each task that it waits for stands, or is the task itself
pub planned-stand : (contents : Contents) (rows : List Row) (last next at : ℕ) (room : Room) (row : Row) → contents_of rows last next ≡ contents → IsPlanOn contents (planned_of at (Create row) [] room) → depends_on_these (ids_of rows ++ row.id ∷ []) row ≡ true
planned-stand contents rows last next at room row same planned =
    let here : IsPlanOn (contents_of rows last next) (planned_of at (Create row) [] room) = rw same planned in
    let creation : Creation = record { id = row.id; definition = row.definition } in
    well-stand creation rows (may-wait (contents_of rows last next) at creation here.lawful)

-- there is room on its lists
pub planned-lists : (contents : Contents) (rows : List Row) (last next at : ℕ) (room : Room) (row : Row) → contents_of rows last next ≡ contents → IsPlanOn contents (planned_of at (Create row) [] room)
    → AllZip (HasRoomOn rows) (lists_of (record { id = row.id; definition = row.definition })) room.lists
planned-lists contents rows last next at room row same planned =
    let here : IsPlanOn (contents_of rows last next) (planned_of at (Create row) [] room) = rw same planned in
    here.room.1

-- a task that was planned is created
pub applied-made : (contents : Contents) (rows new : List Row) (last next at : ℕ) (row : Row) → contents_of rows last next ≡ contents → list_any (is_ready rows) rows ≡ false → new ≡ rows ++ row ∷ []
    → row ≡ settled_row (contents_of rows last next) at (new_row row.id row.definition) → contents_of new at (next + length row.runs) ≡ applied contents (creating at (record { id = row.id; definition = row.definition }))
applied-made contents rows new last next at row same none made is =
    let creation : Creation = record { id = row.id; definition = row.definition } in
    let here : Contents = contents_of rows last next in
    let count : length row.runs ≡ one_if (is_ready rows (new_row row.id row.definition)) = ap (λ (r : Row). length r.runs) is ∙ (new-is here at row.id row.definition).runs in
    ap (λ (rs : List Row). contents_of rs at (next + length row.runs)) (made ∙ ap (λ (r : Row). rows ++ r ∷ []) is)
    ∙ (ap (λ n. contents_of (rows ++ settled_row here at (new_row row.id row.definition) ∷ []) at (next + n)) count
    ∙ (sym (created-applied here at creation none) ∙ ap (λ (c : Contents). applied c (creating at creation)) same))
