-- What all turns leave, in code.
use Rattle.std.proofs.Common.{◌≡◌, ℕ, false, map, bytes_eq, ap, sym, ◌∙◌, subst}
use Rattle.std.specs.List.{IsDistinct}
use Rattle.task_index.specs.Contents.{Contents, HaveOwnIds}
use Rattle.task_index.specs.Ready.{has_ready}
use Rattle.task_index.specs.Sweep.{all_turns}
use Rattle.task_index.proofs.TurnLemmas.{all-ids, all-none}

-- all turns leave each task its id
pub all-own : (before after : Contents) (moment : ℕ) → all_turns before moment ≡ after → HaveOwnIds before.rows → HaveOwnIds after.rows
all-own before after moment turns own =
    let same : map (λ row. row.id) after.rows ≡ map (λ row. row.id) before.rows = ap (λ (c : Contents). map (λ row. row.id) c.rows) (sym turns) ∙ all-ids before moment in
    subst (IsDistinct bytes_eq) (sym same) own

-- and none ready, where none was
pub all-unready : (before after : Contents) (moment : ℕ) → all_turns before moment ≡ after → has_ready before ≡ false → has_ready after ≡ false
all-unready before after moment turns none = sym (ap has_ready turns) ∙ all-none before moment none
