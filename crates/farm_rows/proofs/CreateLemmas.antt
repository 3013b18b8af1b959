-- A task that is created: as it stands once it has settled.
use Rattle.std.proofs.Common.{◌≡◌, ℕ, ◌+◌, Bool, true, false, cond, List, [], ◌∷◌, ◌++◌, length, count_by, refl, ap, sym, ◌∙◌, arith}
use Rattle.std.proofs.lemmas.List.Sums.{sum_by_push}
use Rattle.task_types.specs.declared.task_def.TaskDef.{TaskDef}
use Rattle.run_states.specs.Rows.{Row, new_row, scheduled}
use Rattle.task_types.specs.declared.change.Creation.{Creation}
use Rattle.task_index.specs.Contents.{Contents}
use Rattle.task_index.specs.Ready.{is_ready, has_ready, settled_row, settled}
use Rattle.task_index.specs.Changes.{creating, applied}
use Rattle.task_index.proofs.Settling.{one_if}
use Rattle.task_index.specs.Sweep.{fits}
use Rattle.farm_rows.proofs.FitLemmas.{fits-of}
use Rattle.task_index.proofs.ReadyLemmas.{ready-more, count-same, count-none, settled-more}

-- what fits of a new task, and how many runs it has
pub record NewRow (contents : Contents) (at : ℕ) (id : List ℕ) (definition : TaskDef) : Type 0 where
  pub fit : fits (settled_row contents at (new_row id definition)) ≡ true
  pub runs : length (settled_row contents at (new_row id definition)).runs ≡ one_if (is_ready contents.rows (new_row id definition))

pub new-is : (contents : Contents) (at : ℕ) (id : List ℕ) (definition : TaskDef) → NewRow contents at id definition
new-is contents at id definition = by (is_ready contents.rows (new_row id definition)) refl where
  row : Row
  row = new_row id definition

  stands : (b : Bool) → is_ready contents.rows row ≡ b → settled_row contents at row ≡ cond b (scheduled contents.next at row) row
  stands b is = ap (λ b. cond b (scheduled contents.next at row) row) is

  by : (b : Bool) → is_ready contents.rows (new_row id definition) ≡ b → NewRow contents at id definition
  by true is = record {
    fit = ap fits (stands true is) ∙ fits-of (scheduled contents.next at (new_row id definition)) (omega arith) (omega arith);
    runs = ap (λ (r : Row). length r.runs) (stands true is) ∙ sym (ap one_if is);
  }
  by false is = record {
    fit = ap fits (stands false is) ∙ fits-of (new_row id definition) (omega arith) (omega arith);
    runs = ap (λ (r : Row). length r.runs) (stands false is) ∙ sym (ap one_if is);
  }

-- as many numbers are drawn
settled-drawn : (contents : Contents) (last at : ℕ) (id : List ℕ) (definition : TaskDef) → has_ready contents ≡ false
    → (settled (record contents { rows = contents.rows ++ new_row id definition ∷ []; last = last }) at).next ≡ contents.next + one_if (is_ready contents.rows (new_row id definition))
unfolding settled
settled-drawn contents last at id definition none =
    let row : Row = new_row id definition in
    let rows : List Row = contents.rows ++ row ∷ [] in
    let same : count_by (is_ready rows) rows ≡ count_by (is_ready contents.rows) rows = count-same (is_ready rows) (is_ready contents.rows) (ready-more contents.rows row refl) rows in
    let more : count_by (is_ready contents.rows) rows ≡ count_by (is_ready contents.rows) contents.rows + one_if (is_ready contents.rows row) = sum_by_push (λ (r : Row). one_if (is_ready contents.rows r)) contents.rows row in
    let before = count-none (is_ready contents.rows) contents.rows none in
    omega arith

-- the tables with it are what the creation leaves
pub created-applied : (contents : Contents) (at : ℕ) (creation : Creation) → has_ready contents ≡ false
    → applied contents (creating at creation)
    ≡ record {
      rows = contents.rows ++ settled_row contents at (new_row creation.id creation.definition) ∷ [];
      last = at;
      next = contents.next + one_if (is_ready contents.rows (new_row creation.id creation.definition));
    }
unfolding applied settled
created-applied contents at creation none =
    ap (λ (rs : List Row). let c : Contents = record { rows = rs; last = at; next = (settled (record contents { rows = contents.rows ++ new_row creation.id creation.definition ∷ []; last = at }) at).next } in c) (settled-more contents at at (new_row creation.id creation.definition) none refl)
    ∙ ap (λ n. let c : Contents = record { rows = contents.rows ++ settled_row contents at (new_row creation.id creation.definition) ∷ []; last = at; next = n } in c) (settled-drawn contents at at creation.id creation.definition none)
