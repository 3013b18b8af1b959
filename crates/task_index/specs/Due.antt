-- What falls due, and in which order it is resolved (the queue service of the Taskcluster reference; the order is this project's own).
use Rattle.std.specs.Prelude.{ℕ, zero, suc, ◌+◌, min, max, Bool, not, ◌&&◌, ◌==◌, nat_le, nat_lt, List, [], ◌∷◌, length, filter, find, Option, Some, None, is_some, if◌then◌else◌}
use Rattle.std.specs.List.{list_any, flat_map, reduce}
use Rattle.run_states.specs.declared.reasons.ReasonResolved.{ReasonResolved}
use Rattle.run_states.specs.declared.reasons.ReasonResolved.TheVariants.{ClaimExpired}
use Rattle.run_states.specs.Reasons.{retry_after}
use Rattle.run_states.specs.Rows.{Row, is_resolved, loses_claim, exceeded, due_moments}
use Rattle.run_states.specs.Moves.{expired}
use Rattle.task_index.specs.Contents.{Contents}
use Rattle.task_index.specs.Ready.{settled}

-- the moments at which something falls due, task by task: deadlines, and ends of claims
abbrev pub all_due_moments : List Row → List ℕ
all_due_moments rows = flat_map due_moments rows

-- something is due at this moment: it fell due then or before
abbrev pub is_due : Contents → ℕ → Bool
is_due contents moment = list_any (λ due. nat_le due moment) (all_due_moments contents.rows)

-- the first moment at which something fell due, of those up to this one
abbrev pub first_due : Contents → ℕ → Option ℕ
first_due contents moment = reduce min (filter (λ due. nat_le due moment) (all_due_moments contents.rows))

-- the task is not resolved, and its deadline is at this very moment
abbrev pub meets_deadline : ℕ → Row → Bool
meets_deadline at row = not (is_resolved row) && (row.definition.deadline == at)

-- the first of a list that passes a test is changed
abbrev pub change_first : {A : Type 0} → (A → Bool) → (A → A) → List A → List A
change_first test change [] = []
change_first test change (x ∷ xs) = if test x then change x ∷ xs else x ∷ change_first test change xs

-- how many numbers a task draws whose run ends for a reason: one, where a new run follows
abbrev pub draws : ReasonResolved → Option Row → ℕ
draws reason None = 0
draws reason (Some row) = if is_some (retry_after reason) && nat_lt 0 row.retries_left then 1 else 0

-- What falls due first does so at this moment, and is resolved: of the tasks whose deadline is then the one that was created first; and where
-- there is none, of those whose claim ends then the one that was created first, whose next run draws the next number.
abbrev pub resolved_at : Contents → ℕ → Contents
resolved_at contents at =
    if list_any (meets_deadline at) contents.rows
    then record contents { rows = change_first (meets_deadline at) (exceeded at) contents.rows }
    else record contents {
      rows = change_first (loses_claim at) (expired contents.next at) contents.rows;
      next = contents.next + draws ClaimExpired (find (loses_claim at) contents.rows);
    }

-- one turn: what falls due first is resolved at its own moment, and then the tasks settle at it
abbrev pub after_first : Contents → Option ℕ → Contents
after_first contents None = contents
after_first contents (Some at) = settled (resolved_at contents at) at

abbrev pub turn : ℕ → Contents → Contents
turn moment contents = after_first contents (first_due contents moment)

-- so many turns
abbrev pub turns : ℕ → ℕ → Contents → Contents
turns zero moment contents = contents
turns (suc count) moment contents = turns count moment (turn moment contents)

-- All that is due at the moment is resolved, and the last moment does not fall. There is a turn for each moment at which something falls
-- due, and no turn adds one: so there are enough, and those left over change nothing.
unfoldable pub advance : Contents → ℕ → Contents
advance contents moment =
    record (turns (length (all_due_moments contents.rows)) moment contents) { last = max contents.last moment }
