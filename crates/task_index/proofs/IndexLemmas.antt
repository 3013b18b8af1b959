-- What is kept beside tasks, where one of them changes or comes.
use Rattle.std.proofs.Common.{◌≡◌, ◌≢◌, ℕ, zero, suc, ◌<◌, Bool, List, [], ◌∷◌, ◌++◌, length, Option, Some, slice_get, slice_set, get_or, refl, ap, sym, ◌∙◌, subst, arith}
use Rattle.std.specs.List.{position}
use Rattle.std.proofs.lemmas.Bool.{eqb-false}
use Rattle.std.proofs.lemmas.List.{length-set}
use Rattle.claim_queue.proofs.TableLemmas.{get-set-other}
use Rattle.run_states.specs.Rows.{Row}
use Rattle.run_states.specs.Later.{RowLater, RowsLater}
use Rattle.run_states.proofs.LaterLemmas.{RowLater-refl, RowsLater-refl}
use Rattle.dep_graph.specs.Nodes.{TaskGraph}
use Rattle.task_index.specs.declared.dues.Dues.{Dues}
use Rattle.task_index.specs.declared.index.Index.{Index}
use Rattle.task_index.specs.declared.queues.Queues.{Queues}
use Rattle.task_index.specs.Dated.{MayBeDue, IsPutAt}
use Rattle.task_index.specs.Dependencies.{MayBeDependencies, MayBeDependenciesBut}
use Rattle.task_index.specs.Queues.{MayBeQueues, MayBeQueuesBut}
use Rattle.task_index.specs.Indexed.{IsIndexOf, IsIndexBut}
use Rattle.task_index.proofs.QueueChangeLemmas.{later-queues}
use Rattle.task_index.proofs.DependencyLemmas.{may-change}
use Rattle.task_index.proofs.MemberLemmas.{members-later}
use Rattle.task_index.proofs.PlaceLemmas.{place-within}
use Rattle.task_index.proofs.PlacedLemmas.{ids_of, placed-same}

-- ---- one task changes

later-set : (rows : List Row) (place : ℕ) (item row : Row) → RowLater (get_or rows place item) row → RowsLater rows (slice_set rows place row)
later-set [] place item row later = tt
later-set (r ∷ rows) zero item row later = (later, RowsLater-refl rows)
later-set (r ∷ rows) (suc place) item row later = (RowLater-refl r, later-set rows place item row later)

-- what is kept beside tasks is right but for the one that changed
pub index-but : (index : Index) (rows : List Row) (place : ℕ) (item row : Row) (f : Row → Row) → IsIndexOf index rows → ((r : Row) → RowLater r (f r)) → row ≡ f (get_or rows place item) → IsIndexBut place index (slice_set rows place row)
index-but index rows place item row f right later is = record {
  before = rows;
  right = right;
  later = record {
    stay = later-set rows place item row (subst (RowLater (get_or rows place item)) (sym is) (later (get_or rows place item)));
    long = length-set rows place row;
    others = λ other apart. get-set-other rows place other row (eqb-false other place apart);
  };
}

-- a place that was found is one of the tasks, also once one has changed
pub set-within : (test : Row → Bool) (rows : List Row) (place : ℕ) (item row : Row) → Some place ≡ position test rows → place < length (slice_set rows place row)
set-within test rows place item row found =
    let within = (place-within test rows place item (sym found)).0 in
    let long : length (slice_set rows place row) ≡ length rows = length-set rows place row in
    omega arith

ids-later : (rows new : List Row) → RowsLater rows new → length new ≡ length rows → ids_of new ≡ ids_of rows
ids-later [] [] later long = refl
ids-later [] (r ∷ new) later long = absurd (omega arith)
ids-later (r ∷ rows) [] later long = absurd later
ids-later (r ∷ rows) (s ∷ new) later long =
    ap (λ (id : List ℕ). id ∷ ids_of new) later.0.id ∙ ap (λ (ids : List (List ℕ)). r.id ∷ ids) (ids-later rows new later.1 (omega arith))

-- a graph of the tasks before is right but for the one that changed
pub graph-but : (index : Index) (rows : List Row) (place : ℕ) → IsIndexBut place index rows → MayBeDependenciesBut place index.graph rows
graph-but index rows place but =
    may-change index.graph place but.before rows (record { stay = but.later.stay; long = but.later.long; others = but.later.others }) but.right.waiting

-- and so are queues
pub queues-but : (index : Index) (rows : List Row) (place : ℕ) → IsIndexBut place index rows → MayBeQueuesBut place index.queues rows
queues-but index rows place but = later-queues place index.queues but.before rows but.later.stay but.later.long but.later.others but.right.queued

-- once what falls due of that task is held, the graph has it as it is, and its queue how it waits, all is right
pub index-changed : (index : Index) (dues : Option Dues) (graph : Option TaskGraph) (queues : Option Queues) (rows : List Row) (place : ℕ) (row : Row) → IsIndexBut place index rows → slice_get rows place ≡ Some row
    → ((before rs : List Row) → IsPutAt place row before rs → MayBeDue index.dues before → MayBeDue dues rs) → MayBeDependencies graph rows → MayBeQueues queues rows
    → IsIndexOf (record index { dues = dues; graph = graph; queues = queues }) rows
index-changed index dues graph queues rows place row but here put waiting queued =
    let later = but.later in
    let right = but.right in
    let ids = ids-later but.before rows later.stay later.long in
    record {
      placed = placed-same index.places but.before rows ids right.placed;
      members = members-later index.members but.before rows later.stay later.long right.members;
      due = put but.before rows (record { here = here; others = later.others }) right.due;
      waiting = waiting;
      queued = queued;
    }

-- ---- one task comes

last-here : (rows : List Row) (row : Row) → slice_get (rows ++ row ∷ []) (length rows) ≡ Some row
last-here [] row = refl
last-here (r ∷ rows) row = last-here rows row

others-there : (rows : List Row) (row : Row) (other : ℕ) → other ≢ length rows → slice_get (rows ++ row ∷ []) other ≡ slice_get rows other
others-there [] row zero apart = absurd (apart refl)
others-there [] row (suc other) apart = refl
others-there (r ∷ rows) row zero apart = refl
others-there (r ∷ rows) row (suc other) apart = others-there rows row other (λ same. apart (ap suc same))

pub put-behind : (rows : List Row) (row : Row) (place : ℕ) → place ≡ length rows → IsPutAt place row rows (rows ++ row ∷ [])
put-behind rows row place long = record {
  here = ap (slice_get (rows ++ row ∷ [])) long ∙ last-here rows row;
  others = λ other apart. others-there rows row other (λ same. eqb-false other place apart (same ∙ sym long));
}
