-- The requests of the load, as bytes of HTTP/1.1 (RFC 9112), to the queue service of the Taskcluster reference. Which tasks they make is this
-- project's own.
use Rattle.std.specs.Prelude.{ℕ, ◌-◌, ◌%◌, List, [], ◌∷◌, ◌++◌, length, codes, decimal, ◌==◌, ◌&&◌, nat_lt, if◌then◌else◌}
use Rattle.std.specs.Int.{w32, to_be_bytes}
use Rattle.farm_text.specs.Slug.{slug_text}
use Rattle.load_requests.specs.declared.requests.ClaimedRun.{ClaimedRun}

-- a request with this method and target, and this body
unfoldable pub request_text : List ℕ → List ℕ → List ℕ
request_text front body =
    front ++ (codes " HTTP/1.1\r\nHost: localhost\r\nContent-Length: " ++ (decimal (length body) ++ (codes "\r\n\r\n" ++ body)))

-- ---- creations

-- the id of the task of a number: UUID 00000000-0000-4000-8000-0000 and then the number, in four bytes
abbrev pub task_uuid : ℕ → List ℕ
task_uuid number = 0 ∷ 0 ∷ 0 ∷ 0 ∷ 0 ∷ 0 ∷ 64 ∷ 0 ∷ 128 ∷ 0 ∷ 0 ∷ 0 ∷ to_be_bytes w32 number

-- its slugid
unfoldable pub task_id : ℕ → List ℕ
task_id number = slug_text (task_uuid number)

-- the priority of a task, by what was drawn for it
unfoldable pub priority_text : ℕ → List ℕ
priority_text draw =
    if draw % 7 == 0 then codes "highest"
    else if draw % 7 == 1 then codes "very-high"
    else if draw % 7 == 2 then codes "high"
    else if draw % 7 == 3 then codes "medium"
    else if draw % 7 == 4 then codes "low"
    else if draw % 7 == 5 then codes "very-low"
    else codes "lowest"

-- what a task waits for: where a number that three divides was drawn, for the task before it, which all but the first have
unfoldable pub dependencies_text : ℕ → ℕ → List ℕ
dependencies_text number draw =
    if nat_lt 0 number && (draw % 3 == 0) then codes "\"" ++ (task_id (number - 1) ++ codes "\"") else []

-- the definition of a task
unfoldable pub definition_text : ℕ → ℕ → List ℕ
definition_text number draw =
    codes "{\"created\":\"2024-01-01T00:00:00.000Z\",\"deadline\":\"2024-01-02T00:00:00.000Z\",\"dependencies\":["
    ++ (dependencies_text number draw
    ++ (codes "],\"metadata\":{\"description\":\"d\",\"name\":\"n\",\"owner\":\"o@example.com\",\"source\":\"https://example.com/\"},\"payload\":{},\"priority\":\""
    ++ (priority_text draw ++ codes "\",\"retries\":1,\"taskQueueId\":\"bulk/w\"}")))

-- the request that makes a task
unfoldable pub creation_text : ℕ → ℕ → List ℕ
creation_text number draw = request_text (codes "PUT /api/queue/v1/task/" ++ task_id number) (definition_text number draw)

-- ---- work

-- the request for one run, by the worker `w` of the group `g`
unfoldable pub claim_text : List ℕ
claim_text = request_text (codes "POST /api/queue/v1/claim-work/bulk/w") (codes "{\"workerGroup\":\"g\",\"workerId\":\"w\"}")

-- how a run ends, by what was drawn for it: the last part of the path of its report
unfoldable pub outcome_text : ℕ → List ℕ
outcome_text draw =
    if draw % 4 == 2 then codes "failed"
    else if draw % 4 == 3 then codes "exception"
    else codes "completed"

-- and the body of its report
unfoldable pub reason_text : ℕ → List ℕ
reason_text draw = if draw % 4 == 3 then codes "{\"reason\":\"worker-shutdown\"}" else []

-- the request that reports how a run ended
unfoldable pub report_text : ClaimedRun → ℕ → List ℕ
report_text run draw =
    request_text (codes "POST /api/queue/v1/task/" ++ (run.task ++ (codes "/runs/" ++ (decimal run.number ++ (codes "/" ++ outcome_text draw))))) (reason_text draw)
