-- What a body is, as the code reads it; for private clauses.
use Rattle.std.specs.Prelude.{ℕ, pos, codes, bytes_eq, List, [], ◌∷◌, Option, Some, None}
use Rattle.std.specs.Map.{lookup}
use Rattle.farm_text.specs.Doc.{document as document_of}
use Rattle.farm_text.specs.Document.{Document as AnyDocument, whole, text}
use Rattle.task_types.specs.declared.change.Report.{Report}
use Rattle.task_types.specs.declared.change.Report.TheVariants.{Superseded, WorkerShutdown, MalformedPayload, ResourceUnavailable, InternalError, IntermittentTask}
use Rattle.farm_asks.specs.declared.question.BodyFault.{BodyFault}
use Rattle.farm_asks.specs.declared.question.BodyFault.TheVariants.{NotJson, NotWhole}
use Rattle.api_routes.specs.declared.bodies.Said.{Said}
use Rattle.api_routes.specs.declared.bodies.Said.TheVariants.{Document, Fault}
use Rattle.api_routes.specs.declared.requests.Wanted.{Wanted}
use Rattle.api_routes.specs.declared.requests.Wanted.TheVariants as wanted
use Rattle.api_routes.specs.Bodies.{IsDocument, HasFault, worker_members}

-- it is no document, for this reason: whatever else a document may lack
abbrev pub IsIllegible : List ℕ → BodyFault → Type 0
IsIllegible body NotJson = HasFault (λ d fault. ⊥) body NotJson
IsIllegible body (NotWhole path) = HasFault (λ d fault. ⊥) body (NotWhole path)
IsIllegible body fault = ⊥

abbrev pub IsSaid : List ℕ → Said → Type 0
IsSaid body (Document doc) = IsDocument body (document_of doc)
IsSaid body (Fault fault) = IsIllegible body fault

-- the document that is wanted
abbrev pub wanted_of : Wanted → AnyDocument
wanted_of (wanted.Int n) = whole (pos n)
wanted_of (wanted.Text t) = text t.now

-- the members of a request for work: how many runs where it says so, and the worker
abbrev pub request_members : Option ℕ → List ℕ → List ℕ → List (List ℕ × AnyDocument)
request_members None group id = worker_members group id
request_members (Some tasks) group id = (codes "tasks", whole (pos tasks)) ∷ worker_members group id

-- the exceptions, by their names
abbrev pub exceptions : List (List ℕ × Report)
exceptions =
    (codes "superseded", Superseded) ∷ (codes "worker-shutdown", WorkerShutdown) ∷ (codes "malformed-payload", MalformedPayload)
    ∷ (codes "resource-unavailable", ResourceUnavailable) ∷ (codes "internal-error", InternalError)
    ∷ (codes "intermittent-task", IntermittentTask) ∷ []

-- the exception of a name
abbrev pub exception_of : List ℕ → Option Report
exception_of name = lookup (bytes_eq name) exceptions
