-- What a path names for a run, as the code has it; for private clauses.
use Rattle.std.specs.Prelude.{ℕ, List, Option, Some, None}
use Rattle.farm_asks.specs.declared.question.Parameter.TheVariants.{TaskId, RunId}
use Rattle.api_routes.specs.declared.parts.Named.{Named}
use Rattle.api_routes.specs.declared.parts.Named.TheVariants.{Run, Bad}

-- the run, by the id of its task and its number
abbrev pub named_of : Option (List ℕ) → Option ℕ → Named
named_of None run = Bad TaskId
named_of (Some id) None = Bad RunId
named_of (Some id) (Some run) = Run (record { id = id; run = run })
