-- What a worker is told of the run that it takes.
use Rattle.std.proofs.Common.{◌≡◌, ℕ, codes, [], ◌∷◌, Option, Some, ap, ◌∙◌}
use Rattle.run_states.specs.declared.run.Claim.{Claim}
use Rattle.run_states.specs.Rows.{Row}
use Rattle.task_statuses.specs.Statuses.{definition_of}
use Rattle.farm_asks.specs.Works.{held_run, held_by, claim_at, last_number, taken_doc}

-- it is the last run, and has a claim
pub taken-whole : (row : Row) (last : ℕ) (claim : Claim) → Some claim ≡ claim_at last row → last ≡ last_number row → held_run last row claim ((codes "task", definition_of row.definition) ∷ []) ≡ taken_doc row
taken-whole row last claim is last_is =
    ap (λ (o : Option Claim). held_by last row o ((codes "task", definition_of row.definition) ∷ [])) is
    ∙ ap (λ (n : ℕ). held_by n row (claim_at n row) ((codes "task", definition_of row.definition) ∷ [])) last_is
