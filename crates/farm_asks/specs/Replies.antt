-- The bodies of replies, as JSON with its keys rising (RFC 8259), and their statuses (RFC 9110).
use Rattle.std.specs.Prelude.{ℕ, List, [], ◌∷◌, codes, true, pos}
use Rattle.scope_sets.specs.Expressions.{Expression}
use Rattle.farm_text.specs.Slug.{slug_text}
use Rattle.farm_text.specs.Document.{Document, boolean, whole, text, object, Members, no_members, members_of, document_text}
use Rattle.farm_asks.specs.Expressions.{document_of}
use Rattle.run_states.specs.Rows.{Row}
use Rattle.task_statuses.specs.Statuses.{status_of}
use Rattle.task_types.specs.Forms.{queue_name}
use Rattle.task_types.specs.declared.names.TaskQueue.{TaskQueue}
use Rattle.farm_asks.specs.declared.question.BodyFault.{BodyFault}
use Rattle.farm_asks.specs.declared.question.BodyFault.TheVariants.{NotJson, NotWhole, NoDefinition, NoWork, NoReason, NoPayload}
use Rattle.farm_asks.specs.declared.reply.Answer.{Answer}
use Rattle.farm_asks.specs.declared.reply.Reply.{Reply}
use Rattle.farm_asks.specs.declared.reply.Reply.TheVariants.{Answered, OutOfMemory, DiskFault, Halted}

-- the text of an object of these members
abbrev pub object_text : List (List ℕ × Document) → List ℕ
object_text members = document_text (object (members_of members))

-- the body of an error
abbrev pub error_text : List ℕ → Members → List ℕ → List ℕ
error_text code details message =
    object_text ((codes "code", text code) ∷ (codes "details", object details) ∷ (codes "message", text message) ∷ [])

-- a call is done
abbrev pub ok : List ℕ → Answer
ok body = record { status = 200; body = body }

-- the farm is there
abbrev pub alive : Document
alive = object (members_of ((codes "alive", boolean true) ∷ []))

-- nothing of this kind has that name
abbrev pub not_found : List ℕ → List ℕ → Answer
not_found kind name =
    record {
      status = 404;
      body = error_text (codes "ResourceNotFound") (members_of ((codes "kind", text kind) ∷ (codes "name", text name) ∷ [])) (codes "nothing has that name");
    }

-- the request breaks a rule, which these members tell
abbrev pub input_error : List (List ℕ × Document) → Answer
input_error details =
    record { status = 400; body = error_text (codes "InputError") (members_of details) (codes "the request breaks a rule") }

-- a parameter of the target is off its form
abbrev pub bad_parameter : List ℕ → Answer
bad_parameter name = input_error ((codes "name", text name) ∷ (codes "rule", whole (pos 22)) ∷ [])

-- a body is no JSON, or has a number that is not whole, or is no definition, no request for work, no reason, or no payload of a hook
abbrev pub bad_body : BodyFault → Answer
bad_body NotJson = input_error ((codes "rule", whole (pos 20)) ∷ [])
bad_body (NotWhole path) = input_error ((codes "path", text path) ∷ (codes "rule", whole (pos 21)) ∷ [])
bad_body (NoDefinition fault) = input_error ((codes "key", text fault.key) ∷ (codes "rule", whole (pos fault.rule)) ∷ [])
bad_body NoWork = input_error ((codes "rule", whole (pos 23)) ∷ [])
bad_body NoReason = input_error ((codes "rule", whole (pos 24)) ∷ [])
bad_body NoPayload = input_error ((codes "rule", whole (pos 25)) ∷ [])

-- the template of a hook has this fault of the table of faults, at this place
abbrev pub template_fault : ℕ → List ℕ → Answer
template_fault fault path =
    input_error ((codes "fault", whole (pos fault)) ∷ (codes "path", text path) ∷ (codes "rule", whole (pos 18)) ∷ [])

-- the template of a hook costs too much
abbrev pub too_costly : Answer
too_costly = input_error ((codes "rule", whole (pos 19)) ∷ [])

-- the deadline of a task that is to be made has come
abbrev pub too_late : Answer
too_late = input_error ((codes "rule", whole (pos 15)) ∷ [])

-- a task that a new one waits for breaks this rule
abbrev pub bad_dependency : ℕ → List ℕ → Answer
bad_dependency rule id = input_error ((codes "name", text (slug_text id)) ∷ (codes "rule", whole (pos rule)) ∷ [])

-- the status of a task, as the body of an answer
abbrev pub status_body : Row → Document
status_body row = object (members_of ((codes "status", status_of row) ∷ []))

-- the status of a task is answered
abbrev pub tells_status : Row → Answer
tells_status row = ok (document_text (status_body row))

-- how many tasks wait in a queue
abbrev pub pending_body : TaskQueue → ℕ → Document
pending_body queue count =
    object (members_of (
    (codes "pendingTasks", whole (pos count))
    ∷ (codes "provisionerId", text queue.provisioner_id)
    ∷ (codes "taskQueueId", text (queue_name queue.provisioner_id queue.worker_type))
    ∷ (codes "workerType", text queue.worker_type)
    ∷ []))

-- the state of this task forbids it
abbrev pub conflict : ℕ → Row → Answer
conflict rule row =
    record {
      status = 409;
      body = error_text (codes "RequestConflict") (members_of ((codes "rule", whole (pos rule)) ∷ (codes "status", status_of row) ∷ [])) (codes "the state forbids it");
    }

-- the tasks of the group have this scheduler, and not the new task's
abbrev pub other_scheduler : List ℕ → Answer
other_scheduler kept =
    record {
      status = 409;
      body = error_text (codes "RequestConflict") (members_of ((codes "rule", whole (pos 2)) ∷ (codes "schedulerId", text kept) ∷ [])) (codes "the state forbids it");
    }

-- the farm has as many tasks as it takes
abbrev pub farm_full : ℕ → Answer
farm_full count =
    record { status = 507; body = error_text (codes "FarmFull") (members_of ((codes "count", whole (pos count)) ∷ [])) (codes "the farm is full") }

-- the caller is not who it says, as these members tell
abbrev pub authentication_failed : List (List ℕ × Document) → Answer
authentication_failed details =
    record { status = 401; body = error_text (codes "AuthenticationFailed") (members_of details) (codes "the caller is not who it says") }

-- for this reason alone
abbrev pub not_authentic : List ℕ → Answer
not_authentic reason = authentication_failed ((codes "reason", text reason) ∷ [])

-- the header's seconds are too far from those of the farm
abbrev pub skewed : ℕ → ℕ → Answer
skewed ts now =
    authentication_failed ((codes "now", whole (pos now)) ∷ (codes "reason", text (codes "Skew")) ∷ (codes "ts", whole (pos ts)) ∷ [])

-- the client asks for more than it has
abbrev pub overstepping : Expression → Answer
overstepping missing =
    authentication_failed ((codes "missing", document_of missing) ∷ (codes "reason", text (codes "Oversteps")) ∷ [])

-- too many scopes are derivable, for the caller or for the hook
abbrev pub expansion_limit : Answer
expansion_limit =
    record {
      status = 403;
      body = error_text (codes "ExpansionLimit") (members_of ((codes "limit", whole (pos 10000)) ∷ [])) (codes "too many scopes are derivable");
    }

-- the caller lacks scopes, and this is missing
abbrev pub insufficient_scopes : Expression → Answer
insufficient_scopes missing =
    record {
      status = 403;
      body = error_text (codes "InsufficientScopes") (members_of ((codes "missing", document_of missing) ∷ [])) (codes "scopes are missing");
    }

-- the scopes of the hook do not hold what its task asks for, and this is missing
abbrev pub hook_insufficient_scopes : Expression → Answer
hook_insufficient_scopes missing =
    record {
      status = 403;
      body = error_text (codes "HookInsufficientScopes") (members_of ((codes "missing", document_of missing) ∷ [])) (codes "the hook's scopes are missing");
    }

-- memory ran out
abbrev pub no_memory : Answer
no_memory = record { status = 503; body = error_text (codes "OutOfMemory") no_members (codes "no memory") }

-- a call of the disk failed
abbrev pub disk_fault : Answer
disk_fault = record { status = 500; body = error_text (codes "DiskFault") no_members (codes "the disk failed") }

-- one failed earlier
abbrev pub halted_earlier : Answer
halted_earlier = record { status = 500; body = error_text (codes "Halted") no_members (codes "the disk failed earlier") }

-- what a reply tells
abbrev pub answer_of : Reply → Answer
answer_of (Answered answer) = answer
answer_of OutOfMemory = no_memory
answer_of DiskFault = disk_fault
answer_of Halted = halted_earlier
