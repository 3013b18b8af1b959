-- The members of bodies part by part, as the code writes them; for private clauses.
use Rattle.std.specs.Prelude.{ℕ, pos, List, [], ◌∷◌, codes, Option, option_map}
use Rattle.farm_text.specs.Document.{Document, whole, text, object, members_of}
use Rattle.farm_text.specs.Slug.{slug_text}
use Rattle.run_states.specs.declared.run.Claim.{Claim}
use Rattle.run_states.specs.Rows.{Row}
use Rattle.task_statuses.specs.Statuses.{where_some, moment_doc, status_of}

-- the token of a page, where there is one
abbrev pub token_members : Option (List ℕ) → List (List ℕ × Document)
token_members token = where_some (codes "continuationToken") (option_map (λ id. text (slug_text id)) token)

-- what a worker is told of a run before the task's definition
abbrev pub run_members : ℕ → Row → Claim → List (List ℕ × Document)
run_members run row claim =
    (codes "runId", whole (pos run)) ∷ (codes "status", status_of row) ∷ (codes "takenUntil", moment_doc claim.taken_until) ∷ []

-- which rule the state of a task breaks, and its status
abbrev pub conflict_details : ℕ → Row → Document
conflict_details rule row = object (members_of ((codes "rule", whole (pos rule)) ∷ (codes "status", status_of row) ∷ []))

-- the body of the answer where the state of a task forbids it
abbrev pub conflict_body : ℕ → Row → Document
conflict_body rule row =
    object (members_of (
    (codes "code", text (codes "RequestConflict"))
    ∷ (codes "details", conflict_details rule row)
    ∷ (codes "message", text (codes "the state forbids it"))
    ∷ []))
