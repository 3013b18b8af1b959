-- A task is created once, and a createTask of it that comes again is answered with its status.
use Rattle.std.proofs.Common.{◌≡◌, ℕ, ◌+◌, ◌≤◌, Bool, true, false, IsTrue, List, [], ◌∷◌, ◌++◌, length, Option, Some, None, is_some, bytes_eq, if◌then◌else◌, refl, sym, ap, ◌∙◌, subst, inl, arith}
use Rattle.std.proofs.lemmas.List.Folds.{find-append}
use Rattle.std.proofs.lemmas.Slice.Eq.{bytes_eq-Decides}
use Rattle.history.specs.Histories.{IsLegal, end_state}
use Rattle.history.proofs.HistoriesLemmas.{end_state-append, IsLegal-back}
use Rattle.scope_sets.specs.Expressions.{Expression, holds, missing}
use Rattle.call_rules.specs.Policy.{create_policy}
use Rattle.farm_text.specs.Document.{document_text}
use Rattle.task_types.specs.declared.change.Change.{Change}
use Rattle.task_types.specs.declared.change.Creation.{Creation}
use Rattle.run_states.specs.Rows.{Row, new_row}
use Rattle.run_states.specs.Later.{RowsLater}
use Rattle.run_states.proofs.LaterLemmas.{RowsLater-refl, RowsLater-trans}
use Rattle.task_index.specs.Contents.{Contents, row_with}
use Rattle.task_index.specs.Changes.{creating, created, applied}
use Rattle.task_index.specs.Ready.{settled}
use Rattle.task_index.proofs.AdvanceLemmas.{advance-stays}
use Rattle.task_index.proofs.IdLemmas.{applied-stays}
use Rattle.task_index.proofs.ReadyLemmas.{settled-stays}
use Rattle.farm_asks.specs.declared.question.Call.{Call}
use Rattle.farm_asks.specs.declared.question.Call.TheVariants.{CreateTask}
use Rattle.farm_asks.specs.Access.{Has, HasAccess}
use Rattle.farm_machine.specs.Calls.CreateTask.{standing, create_task}
use Rattle.farm_machine.specs.Case.{Rule, IsFirstRule}
use Rattle.farm_machine.specs.Changes.{changed, moment_of}
use Rattle.farm_asks.specs.Questions.{Asking}
use Rattle.farm_machine.specs.Entry.{Entry, tick, call, finished, out_of_memory, disk_failed, was_halted}
use Rattle.farm_machine.specs.Judgement.{Judgement, only_answer}
use Rattle.farm_machine.specs.Laws.{Finished, setting_behind, created_by, has_id, creations, Stands}
use Rattle.farm_machine.specs.Order.{IsFirst, in_order}
use Rattle.farm_asks.specs.Replies.{ok, status_body}
use Rattle.farm_machine.specs.State.{State}
use Rattle.farm_machine.specs.Step.{lawful, after, farm_rules}
use Rattle.farm_machine.specs.Verdict.{form_of, setting_of, IsVerdict}
use Rattle.farm_machine.proofs.ChangeLemmas.{Creates, verdict-creates}
use Rattle.farm_machine.proofs.OrderLemmas.{asks-ruled, in_order-one}

-- ---- each task stays, and the configuration too

pub changed-stays : (contents : Contents) (moment : ℕ) (change : Option Change) → RowsLater contents.rows (changed contents moment change).rows
changed-stays contents moment None = RowsLater-refl contents.rows
changed-stays contents moment (Some change) = applied-stays contents change

pub entry-stays : (state : State) (entry : Entry) → RowsLater state.contents.rows (after state entry).contents.rows
entry-stays state (tick moment) = advance-stays state.contents moment
entry-stays state (call asking out_of_memory) = RowsLater-refl state.contents.rows
entry-stays state (call asking disk_failed) = RowsLater-refl state.contents.rows
entry-stays state (call asking was_halted) = RowsLater-refl state.contents.rows
entry-stays state (call asking (finished judgement)) = changed-stays state.contents (moment_of state.contents asking) judgement.change

pub entries-stay : (state : State) (entries : List Entry) → RowsLater state.contents.rows (end_state farm_rules state entries).contents.rows
unfolding farm_rules
entries-stay state [] = RowsLater-refl state.contents.rows
entries-stay state (entry ∷ rest) = RowsLater-trans _ _ _ (entry-stays state entry) (entries-stay (after state entry) rest)

entry-config : (state : State) (entry : Entry) → (after state entry).config ≡ state.config
entry-config state (tick moment) = refl
entry-config state (call asking out_of_memory) = refl
entry-config state (call asking disk_failed) = refl
entry-config state (call asking was_halted) = refl
entry-config state (call asking (finished judgement)) = refl

pub entries-config : (state : State) (entries : List Entry) → (end_state farm_rules state entries).config ≡ state.config
unfolding farm_rules
entries-config state [] = refl
entries-config state (entry ∷ rest) = entries-config (after state entry) rest ∙ entry-config state entry

-- a task is found later, with its definition
pub found-later : (id : List ℕ) (rows later : List Row) (row : Row) → RowsLater rows later → row_with id rows ≡ Some row → (found : Row) × (row_with id later ≡ Some found) × (found.definition ≡ row.definition)
found-later id [] later row stays is = cc
found-later id (r ∷ rows) [] row stays is = absurd stays
found-later id (r ∷ rows) (s ∷ later) row stays is = by (found-later id rows later row stays.1) (bytes_eq r.id id) refl where
  by : (row_with id rows ≡ Some row → (found : Row) × (row_with id later ≡ Some found) × (found.definition ≡ row.definition)) → (test : Bool) → bytes_eq r.id id ≡ test → (found : Row) × (row_with id (s ∷ later) ≡ Some found) × (found.definition ≡ row.definition)
  by rest true same =
      let first : Some r ≡ Some row = rw same at is in
      let one : r ≡ row = cc in
      (s, rw (stays.0.id, same) refl, stays.0.definition ∙ ap (λ (x : Row). x.definition) one)
  by rest false other =
      let found = rest (rw other at is) in
      (found.0, rw (stays.0.id, other) found.1, found.2)

-- ---- what a creation leaves

bytes_eq-refl : (bs : List ℕ) → bytes_eq bs bs ≡ true
bytes_eq-refl bs = (bytes_eq-Decides bs bs).1 refl

-- a task that is created stands, with its definition
pub created-found : (contents : Contents) (at : ℕ) (creation : Creation) → row_with creation.id contents.rows ≡ None → Stands (applied contents (creating at creation)) creation
unfolding applied
created-found contents at creation unknown =
    let new = new_row creation.id creation.definition in
    let made = created contents at creation in
    let there : row_with creation.id made.rows ≡ Some new =
    find-append (λ (row : Row). bytes_eq row.id creation.id) contents.rows (new ∷ []) ∙ rw (unknown, bytes_eq-refl creation.id) refl in
    found-later creation.id made.rows (settled made at).rows new (settled-stays made at) there

-- an entry that created a task is a finished call
pub record Created (state : State) (entry : Entry) (creation : Creation) : Type 0 where
  pub asking : Asking
  pub judgement : Judgement
  pub is : entry ≡ call asking (finished judgement)
  pub creates : Creates (setting_of state asking) asking.call judgement creation
  pub found : Stands (after state entry).contents creation

entry-creates : (state : State) (entry : Entry) (creation : Creation) → lawful state entry → created_by entry ≡ Some creation → Created state entry creation
entry-creates state (tick moment) creation may is = cc
entry-creates state (call asking out_of_memory) creation may is = cc
entry-creates state (call asking disk_failed) creation may is = cc
entry-creates state (call asking was_halted) creation may is = cc
entry-creates state (call asking (finished judgement)) creation may is =
    let creates = verdict-creates state asking judgement creation may.became.verdict is in
    record {
      asking = asking;
      judgement = judgement;
      is = refl;
      creates = creates;
      found = rw creates.change (created-found state.contents (moment_of state.contents asking) creation creates.unknown);
    }

-- ---- at most one creation

-- a task of the id stands
abbrev stands : List ℕ → State → Bool
stands id state = is_some (row_with id state.contents.rows)

-- how many creations there may be, where a task stands or does not
abbrev most : Bool → ℕ
most true = 0
most false = 1

stands-is : (row : Option Row) → is_some row ≡ true → (r : Row) × (row ≡ Some r)
stands-is None is = cc
stands-is (Some r) is = (r, refl)

stands-later : (id : List ℕ) (state : State) (entry : Entry) → stands id state ≡ true → stands id (after state entry) ≡ true
stands-later id state entry is =
    let some = stands-is (row_with id state.contents.rows) is in
    let found = found-later id state.contents.rows (after state entry).contents.rows some.0 (entry-stays state entry) some.1 in
    ap is_some found.1

-- what has the id is a creation of it
creation-of : (id : List ℕ) (creation : Option Creation) → has_id id creation ≡ true → (c : Creation) × (creation ≡ Some c) × (c.id ≡ id)
creation-of id None is = cc
creation-of id (Some c) is = (c, refl, (bytes_eq-Decides c.id id).0 is)

creation-new : (id : List ℕ) (state : State) (entry : Entry) → lawful state entry → has_id id (created_by entry) ≡ true → (stands id state ≡ false) × (stands id (after state entry) ≡ true)
creation-new id state entry may is =
    let some = creation-of id (created_by entry) is in
    let made = entry-creates state entry some.0 may some.1 in
    let before : stands some.0.id state ≡ false = ap is_some made.creates.unknown in
    let behind : stands some.0.id (after state entry) ≡ true = ap is_some made.found.1 in
    (subst (λ (i : List ℕ). stands i state ≡ false) some.2 before, subst (λ (i : List ℕ). stands i (after state entry) ≡ true) some.2 behind)

most-one : (test : Bool) → most test ≤ 1
most-one true = omega arith
most-one false = omega arith

fewer : (id : List ℕ) (state : State) (entry : Entry) → most (stands id (after state entry)) ≤ most (stands id state)
fewer id state entry = by (stands id state) refl where
  by : (test : Bool) → stands id state ≡ test → most (stands id (after state entry)) ≤ most (stands id state)
  by true is = let later = stands-later id state entry is in rw (is, later) (omega arith)
  by false is = rw is (most-one (stands id (after state entry)))

creations-few : (id : List ℕ) (state : State) (history : List Entry) → IsLegal farm_rules state history → length (creations id history) ≤ most (stands id state)
unfolding farm_rules
creations-few id state [] legal = omega arith
creations-few id state (entry ∷ rest) legal = by (creations-few id (after state entry) rest legal.1) (has_id id (created_by entry)) refl where
  by : length (creations id rest) ≤ most (stands id (after state entry)) → (test : Bool) → has_id id (created_by entry) ≡ test → length (creations id (entry ∷ rest)) ≤ most (stands id state)
  by others true is =
      let new = creation-new id state entry legal.0 is in
      let none : length (creations id rest) ≤ 0 = rw new.1 at others in
      rw (is, new.0) (omega (arith, none))
  by others false is = let few = fewer id state entry in rw is (omega (arith, others, few))

pub created-once : (opening : State) (history : List Entry) (id : List ℕ) → IsLegal farm_rules opening history
    → (if is_some (row_with id opening.contents.rows) then 1 else 0) + length (creations id history) ≤ 1
created-once opening history id legal = by (stands id opening) (creations-few id opening history legal) where
  by : (test : Bool) → length (creations id history) ≤ most test → (if test then 1 else 0) + length (creations id history) ≤ 1
  by true few = omega (arith, few)
  by false few = omega (arith, few)

-- ---- a task that was created stands

-- the entry at a place of a legal history may come there
pub entry-may : (opening : State) (before after : List Entry) (entry : Entry) → IsLegal farm_rules opening (before ++ entry ∷ after) → lawful (end_state farm_rules opening before) entry
unfolding farm_rules
entry-may opening before after entry legal = (IsLegal-back farm_rules opening before (entry ∷ after) legal).0

pub created-stands : (opening : State) (before later : List Entry) (first : Entry) (creation : Creation) → IsLegal farm_rules opening (before ++ first ∷ later) → created_by first ≡ Some creation
    → Stands (end_state farm_rules opening (before ++ first ∷ later)).contents creation
unfolding farm_rules
created-stands opening before later first creation legal creates =
    let state = end_state farm_rules opening before in
    let now = end_state farm_rules opening (before ++ first ∷ later) in
    let made = entry-creates state first creation (entry-may opening before later first legal) creates in
    let stays : RowsLater (after state first).contents.rows now.contents.rows =
    rw (end_state-append farm_rules opening before (first ∷ later)) (entries-stay (after state first) later) in
    let found = found-later creation.id (after state first).contents.rows now.contents.rows made.found.0 stays made.found.1 in
    (found.0, found.1, found.2 ∙ made.found.2)

-- ---- an equal createTask that comes again

missing-none : (scopes : List (List ℕ)) (policy : Expression) → IsTrue (holds scopes policy) → missing scopes policy ≡ None
missing-none scopes policy held = rw held refl

-- where an equal task stands, its status is the answer
again-ruled : (row : Option Row) (r : Row) (creation : Creation) (rules : List Rule) → row ≡ Some r → r.definition ≡ creation.definition → IsFirstRule (standing creation.definition row ++ rules) (Some (ok (document_text (status_body r))))
again-ruled None r creation rules is same = cc
again-ruled (Some x) r creation rules is same =
    let one : x ≡ r = cc in
    inl (ap (λ (y : Row). y.definition) one ∙ same, ap (λ (y : Row). Some (ok (document_text (status_body y)))) (sym one))

again-first : (state : State) (asking : Asking) (creation : Creation) (judgement : Judgement) (scopes : List (List ℕ)) (row : Row) → asking.call ≡ CreateTask creation → HasAccess state.config (setting_of state asking).moment asking.caller (Has scopes) → IsTrue (holds scopes (create_policy creation.definition)) → row_with creation.id state.contents.rows ≡ Some row → row.definition ≡ creation.definition → IsVerdict state asking judgement → judgement ≡ only_answer (ok (document_text (status_body row)))
unfolding IsVerdict
again-first state asking creation judgement scopes row called has held found same verdict =
    let at = setting_of state asking in
    let answer = ok (document_text (status_body row)) in
    let ruled = asks-ruled at asking.caller (create_task creation) scopes answer has refl refl (missing-none scopes (create_policy creation.definition) held) (again-ruled (row_with creation.id state.contents.rows) row creation _ found same) in
    let judged : IsFirst (in_order at asking.caller (form_of (CreateTask creation))) judgement = subst (λ (c : Call). IsFirst (in_order at asking.caller (form_of c)) judgement) called verdict in
    in_order-one at asking.caller (form_of (CreateTask creation)) judgement (only_answer answer) tt judged ruled

pub answers-again : (opening : State) (before later : List Entry) (creation : Creation) (row : Row) (asking : Asking) (judgement : Judgement) (scopes : List (List ℕ))
    → row_with creation.id (end_state farm_rules opening before).contents.rows ≡ Some row → row.definition ≡ creation.definition
    → Finished opening before later asking judgement → asking.call ≡ CreateTask creation
    → HasAccess opening.config (setting_behind opening before asking).moment asking.caller (Has scopes) → IsTrue (holds scopes (create_policy creation.definition))
    → judgement ≡ only_answer (ok (document_text (status_body row)))
answers-again opening before later creation row asking judgement scopes found same is called has held =
    let now = end_state farm_rules opening before in
    let may = entry-may opening before later (call asking (finished judgement)) is.legal in
    let access : HasAccess now.config (setting_of now asking).moment asking.caller (Has scopes) = rw (entries-config opening before) has in
    again-first now asking creation judgement scopes row called access held found same may.became.verdict
