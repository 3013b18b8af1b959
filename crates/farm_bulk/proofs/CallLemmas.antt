-- A message makes one call.
use Rattle.std.proofs.Common.{◌≡◌, ◌⊎◌, inl, inr, ℕ, codes, bytes_eq, List, [], ◌∷◌, Option, Some, None, refl, sym, ◌∙◌, ap, subst, subst₂, if◌then◌else◌}
use Rattle.serde_json.specs.Data.{Data}
use Rattle.farm_text.specs.Document.{Document, object, data_of}
use Rattle.farm_text.specs.Reading.{IsJson, unwhole}
use Rattle.farm_text.specs.Slug.{slug_of}
use Rattle.call_rules.specs.declared.hook_names.HookName.{HookName}
use Rattle.task_defs.specs.Definitions.{Says, rules}
use Rattle.task_types.specs.Forms.{queue_name}
use Rattle.task_defs.specs.declared.fault.DefFault.{DefFault}
use Rattle.task_types.specs.declared.names.TaskQueue.{TaskQueue}
use Rattle.task_defs.proofs.OneLemmas.{fault_one, no_fault}
use Rattle.task_types.proofs.QueueNameLemmas.{queue_name_same}
use Rattle.run_states.specs.Reasons.{resolved_name}
use Rattle.task_index.specs.Changes.{reason_of}
use Rattle.task_types.specs.declared.change.Creation.{Creation}
use Rattle.task_types.specs.declared.change.Report.{Report}
use Rattle.task_types.specs.declared.change.Report.TheVariants.{Completed, Failed, Superseded, WorkerShutdown, MalformedPayload, ResourceUnavailable, InternalError, IntermittentTask}
use Rattle.task_types.specs.declared.change.Resolution.{Resolution}
use Rattle.task_types.specs.declared.change.RunName.{RunName}
use Rattle.farm_asks.specs.declared.question.BodyFault.{BodyFault}
use Rattle.farm_asks.specs.declared.question.BodyFault.TheVariants.{NotJson, NotWhole, NoDefinition, NoWork, NoReason, NoPayload}
use Rattle.farm_asks.specs.declared.question.Call.{Call}
use Rattle.farm_asks.specs.declared.question.Call.TheVariants.{BadBody, Task, Status, ListTaskGroup, ListDependentTasks, CreateTask, ClaimWork, ReportRun, ScheduleTask, RerunTask, CancelTask, TriggerHook}
use Rattle.farm_asks.specs.declared.question.Trigger.{Trigger}
use Rattle.farm_asks.specs.declared.question.WorkRequest.{WorkRequest}
use Rattle.farm_asks.specs.declared.question.Parameter.{Parameter}
use Rattle.farm_asks.specs.declared.question.PageRequest.{PageRequest}
use Rattle.farm_asks.specs.declared.question.Parameter.TheVariants.{TaskId, TaskGroupId}
use Rattle.route_table.specs.Fits.{NoTwoFit}
use Rattle.route_table.specs.Routes.{path_of as path_form, segments_of}
use Rattle.route_table.specs.Segments.{parameters_in, parts_of}
use Rattle.route_table.specs.declared.route.Route.{Route}
use Rattle.route_table.specs.declared.route.Route.TheVariants as routes
use Rattle.http_wire.specs.declared.message.Message.{Message}
use Rattle.api_routes.specs.Bodies.{IsDocument, HasFault, IsNoTask, IsTaskBody, IsCreateCall, AsksFor, SaysWork, IsNoWork, IsWorkBody, SaysReason, IsNoReason, IsReasonBody, IsNoPayload, IsTriggerBody}
use Rattle.api_routes.specs.Calls.{Request, Calls, CallsCreate, CallsTask, CallsRunOr, CallsRun, CallsQueue, CallsOfQueue, CallsList, CallsHookOf, CallsHook, Reclaims, Reports, Counts, run_of}
use Rattle.api_routes.specs.Routes.{IsCallOf, path_of, request_of}
use Rattle.farm_bulk.proofs.DefinitionLemmas.{Says-one}

-- a text is of one document
abbrev pub OneDocument : Type 0
OneDocument = (bytes : List ℕ) (a b : Document) → IsJson bytes (data_of a) → IsJson bytes (data_of b) → a ≡ b

-- what is called so is one
abbrev pub IsOne : {A : Type 0} → (A → Type 0) → Type 0
IsOne {A = A} P = (a b : A) → P a → P b → a ≡ b

some_same : {A : Type 0} (a b : A) → Some a ≡ Some b → a ≡ b
some_same a b e = cc

data_one : (bytes : List ℕ) (d e : Data) → IsJson bytes d → IsJson bytes e → d ≡ e
data_one bytes d e x y = some_same d e (sym x.1 ∙ y.1)

first_same : (p q : List ℕ) (ps qs : List (List ℕ)) → p ∷ ps ≡ q ∷ qs → p ≡ q
first_same p q ps qs e = cc

some_none : (p : List ℕ) (ps : List (List ℕ)) → p ∷ ps ≡ [] → ⊥
some_none p ps e = cc

-- ---- faults of bodies

-- why a body has a fault: it is no JSON, or has a number that is not whole, or its document is ill
abbrev Cause : (Document → BodyFault → Type 0) → List ℕ → BodyFault → Type 0
Cause IsIll body fault =
    ((fault ≡ NotJson) × ((d : Data) → ¬ IsJson body d))
    ⊎ (((path : List ℕ) × (fault ≡ NotWhole path) × ((d : Data) × IsJson body d × ((more : List (List ℕ)) × (unwhole d ≡ path ∷ more))))
    ⊎ ((d : Document) × IsDocument body d × IsIll d fault))

cause_of : (IsIll : Document → BodyFault → Type 0) (body : List ℕ) (fault : BodyFault) → HasFault IsIll body fault → Cause IsIll body fault
cause_of IsIll body NotJson has = inl (refl, has)
cause_of IsIll body (NotWhole path) has = inr (inl (path, refl, has))
cause_of IsIll body (NoDefinition fault) has = inr (inr has)
cause_of IsIll body NoWork has = inr (inr has)
cause_of IsIll body NoReason has = inr (inr has)
cause_of IsIll body NoPayload has = inr (inr has)

-- a body of a document in which each number is whole has no fault but of that document
ill_of : OneDocument → (IsIll : Document → BodyFault → Type 0) (body : List ℕ) (d : Document) (fault : BodyFault) → IsDocument body d → Cause IsIll body fault → IsIll d fault
ill_of one IsIll body d fault is (inl x) = absurd (x.1 (data_of d) is.json)
ill_of one IsIll body d fault is (inr (inl x)) =
    let same = data_one body x.2.0 (data_of d) x.2.1 is.json in
    absurd (some_none x.0 x.2.2.0 (sym x.2.2.1 ∙ (ap unwhole same ∙ is.whole)))
ill_of one IsIll body d fault is (inr (inr x)) = subst (λ (e : Document). IsIll e fault) (one body x.0 d x.1.json is.json) x.2

cause_one : OneDocument → (IsIll : Document → BodyFault → Type 0) (body : List ℕ) → ((d : Document) → IsOne (IsIll d)) → (f g : BodyFault) → Cause IsIll body f → Cause IsIll body g → f ≡ g
cause_one one IsIll body ill f g (inr (inr x)) y = ill x.0 f g x.2 (ill_of one IsIll body x.0 g x.1 y)
cause_one one IsIll body ill f g (inl x) (inl y) = x.0 ∙ sym y.0
cause_one one IsIll body ill f g (inl x) (inr (inl y)) = absurd (x.1 y.2.0 y.2.1)
cause_one one IsIll body ill f g (inl x) (inr (inr y)) = absurd (x.1 (data_of y.0) y.1.json)
cause_one one IsIll body ill f g (inr (inl x)) (inl y) = absurd (y.1 x.2.0 x.2.1)
cause_one one IsIll body ill f g (inr (inl x)) (inr (inl y)) =
    let same = data_one body x.2.0 y.2.0 x.2.1 y.2.1 in
    let paths = first_same x.0 y.0 x.2.2.0 y.2.2.0 (sym x.2.2.1 ∙ (ap unwhole same ∙ y.2.2.1)) in
    x.1 ∙ (ap (λ path. NotWhole path) paths ∙ sym y.1)
cause_one one IsIll body ill f g (inr (inl x)) (inr (inr y)) =
    let same = data_one body x.2.0 (data_of y.0) x.2.1 y.1.json in
    absurd (some_none x.0 x.2.2.0 (sym x.2.2.1 ∙ (ap unwhole same ∙ y.1.whole)))

-- A body says one thing, or has one fault: what it says is told of its document, which then is not ill.
abbrev Body : {A : Type 0} → (A → Call) → (Document → A → Type 0) → (Document → BodyFault → Type 0) → List ℕ → Call → Type 0
Body {A = A} made Says IsIll body call =
    ((a : A) × (call ≡ made a) × ((d : Document) × IsDocument body d × Says d a))
    ⊎ ((fault : BodyFault) × (call ≡ BadBody fault) × HasFault IsIll body fault)

body_one : {A : Type 0} (made : A → Call) (Says : Document → A → Type 0) (IsIll : Document → BodyFault → Type 0) (body : List ℕ) → OneDocument
    → ((d : Document) → IsOne (Says d)) → ((d : Document) → IsOne (IsIll d)) → ((d : Document) (a : A) (fault : BodyFault) → Says d a → ¬ IsIll d fault)
    → IsOne (Body made Says IsIll body)
body_one made Says IsIll body one said ill apart a b (inl x) (inl y) =
    let same = one body x.2.0 y.2.0 x.2.1.json y.2.1.json in
    x.1 ∙ (ap made (said y.2.0 x.0 y.0 (subst (λ (d : Document). Says d x.0) same x.2.2) y.2.2) ∙ sym y.1)
body_one made Says IsIll body one said ill apart a b (inl x) (inr y) =
    absurd (apart x.2.0 x.0 y.0 x.2.2 (ill_of one IsIll body x.2.0 y.0 x.2.1 (cause_of IsIll body y.0 y.2)))
body_one made Says IsIll body one said ill apart a b (inr x) (inl y) =
    absurd (apart y.2.0 y.0 x.0 y.2.2 (ill_of one IsIll body y.2.0 x.0 y.2.1 (cause_of IsIll body x.0 x.2)))
body_one made Says IsIll body one said ill apart a b (inr x) (inr y) =
    x.1 ∙ (ap (λ fault. BadBody fault) (cause_one one IsIll body ill x.0 y.0 (cause_of IsIll body x.0 x.2) (cause_of IsIll body y.0 y.2)) ∙ sym y.1)

-- ---- createTask

task_body : (id body : List ℕ) (call : Call) → IsTaskBody body id call → Body CreateTask (λ d creation. (creation.id ≡ id) × Says d creation.id creation.definition) (IsNoTask id) body call
task_body id body (CreateTask creation) x = inl (creation, refl, (x.1.0, x.1.1, (x.0, x.1.2)))
task_body id body (BadBody fault) x = inr (fault, refl, x)
task_body id body _ x = absurd x

creation_of_parts : (a b : Creation) → a.id ≡ b.id → a.definition ≡ b.definition → a ≡ b
creation_of_parts a b i d = rw (i, d) refl

creation_one : (id : List ℕ) (d : Document) → IsOne (λ (creation : Creation). (creation.id ≡ id) × Says d creation.id creation.definition)
creation_one id d a b x y =
    let ids = x.0 ∙ sym y.0 in
    creation_of_parts a b ids (Says-one d b.id a.definition b.definition (subst (λ (i : List ℕ). Says d i a.definition) ids x.1) y.1)

no_task_one : (id : List ℕ) (d : Document) → IsOne (IsNoTask id d)
no_task_one id d (NoDefinition f) (NoDefinition g) x y = ap (λ (fault : DefFault). NoDefinition fault) (fault_one (rules d id) f g x y)
no_task_one id d (NoDefinition f) _ x y = absurd y
no_task_one id d _ g x y = absurd x

no_task_apart : (id : List ℕ) (d : Document) (creation : Creation) (fault : BodyFault) → (creation.id ≡ id) × Says d creation.id creation.definition → ¬ IsNoTask id d fault
no_task_apart id d creation (NoDefinition f) x = λ ill. no_fault (rules d id) f (subst (λ (i : List ℕ). Says d i creation.definition) x.0 x.1).sound ill
no_task_apart id d creation _ x = λ ill. ill

task_body_one : OneDocument → (body id : List ℕ) → IsOne (IsTaskBody body id)
task_body_one one body id a b x y =
    body_one CreateTask (λ d creation. (creation.id ≡ id) × Says d creation.id creation.definition) (IsNoTask id) body one (creation_one id) (no_task_one id) (no_task_apart id) a b (task_body id body a x) (task_body id body b y)

create_one : OneDocument → (body : List ℕ) (id : Option (List ℕ)) → IsOne (IsCreateCall body id)
create_one one body None a b x y = x ∙ sym y
create_one one body (Some id) a b x y = task_body_one one body id a b x y

-- ---- claimWork

work_body : (queue : TaskQueue) (body : List ℕ) (call : Call) → IsWorkBody body queue call → Body ClaimWork (λ d work. (work.queue ≡ queue) × SaysWork d work) IsNoWork body call
work_body queue body (ClaimWork work) x = inl (work, refl, (x.1.0, x.1.1, (x.0, x.1.2)))
work_body queue body (BadBody fault) x = inr (fault, refl, x)
work_body queue body _ x = absurd x

work_of_parts : (a b : WorkRequest) → a.queue ≡ b.queue → a.worker_group ≡ b.worker_group → a.worker_id ≡ b.worker_id → a.tasks ≡ b.tasks → a ≡ b
work_of_parts a b q g i t = rw (q, g, i, t) refl

-- what two requests ask for, of one document
record SameAsks (m n : ℕ) (g h i j : List ℕ) : Type 0 where
  tasks : m ≡ n
  group : g ≡ h
  id : i ≡ j

asks_same : (m n : ℕ) (g h i j : List ℕ) (d : Document) → AsksFor m g i d → AsksFor n h j d → SameAsks m n g h i j
asks_same m n g h i j d (inl x) (inl y) = let e = sym x.0 ∙ y.0 in record { tasks = cc; group = cc; id = cc }
asks_same m n g h i j d (inl x) (inr y) = let e = sym x.0 ∙ y.0 in absurd cc
asks_same m n g h i j d (inr x) (inl y) = let e = sym x.0 ∙ y.0 in absurd cc
asks_same m n g h i j d (inr x) (inr y) = let e = sym x.0 ∙ y.0 in record { tasks = x.1 ∙ sym y.1; group = cc; id = cc }

work_one : (queue : TaskQueue) (d : Document) → IsOne (λ (work : WorkRequest). (work.queue ≡ queue) × SaysWork d work)
work_one queue d a b x y =
    let same = asks_same a.tasks b.tasks a.worker_group b.worker_group a.worker_id b.worker_id d x.1.is y.1.is in
    work_of_parts a b (x.0 ∙ sym y.0) same.group same.id same.tasks

no_work_one : (d : Document) → IsOne (IsNoWork d)
no_work_one d NoWork NoWork x y = refl
no_work_one d NoWork _ x y = absurd y
no_work_one d _ g x y = absurd x

no_work_apart : (queue : TaskQueue) (d : Document) (work : WorkRequest) (fault : BodyFault) → (work.queue ≡ queue) × SaysWork d work → ¬ IsNoWork d fault
no_work_apart queue d work NoWork x = λ ill. ill work x.1
no_work_apart queue d work _ x = λ ill. ill

work_body_one : OneDocument → (body : List ℕ) (queue : TaskQueue) → IsOne (IsWorkBody body queue)
work_body_one one body queue a b x y =
    body_one ClaimWork (λ d work. (work.queue ≡ queue) × SaysWork d work) IsNoWork body one (work_one queue) no_work_one (no_work_apart queue) a b (work_body queue body a x) (work_body queue body b y)

-- ---- reportException

reason_body : (name : RunName) (body : List ℕ) (call : Call) → IsReasonBody body name call → Body ReportRun (λ d report. (report.id ≡ name.id) × (report.run ≡ name.run) × SaysReason d report.reason) IsNoReason body call
reason_body name body (ReportRun report) x = inl (report, refl, (x.2.0, x.2.1, (x.0, x.1, x.2.2)))
reason_body name body (BadBody fault) x = inr (fault, refl, x)
reason_body name body _ x = absurd x

resolution_of_parts : (a b : Resolution) → a.id ≡ b.id → a.run ≡ b.run → a.reason ≡ b.reason → a ≡ b
resolution_of_parts a b i n r = rw (i, n, r) refl

-- the report of a name
named : List ℕ → Option Report
named name =
    if bytes_eq name (codes "completed") then Some Completed
    else if bytes_eq name (codes "failed") then Some Failed
    else if bytes_eq name (codes "superseded") then Some Superseded
    else if bytes_eq name (codes "worker-shutdown") then Some WorkerShutdown
    else if bytes_eq name (codes "malformed-payload") then Some MalformedPayload
    else if bytes_eq name (codes "resource-unavailable") then Some ResourceUnavailable
    else if bytes_eq name (codes "internal-error") then Some InternalError
    else Some IntermittentTask

named_back : (report : Report) → named (resolved_name (reason_of report)) ≡ Some report
unfolding named
named_back Completed = refl
named_back Failed = refl
named_back Superseded = refl
named_back WorkerShutdown = refl
named_back MalformedPayload = refl
named_back ResourceUnavailable = refl
named_back InternalError = refl
named_back IntermittentTask = refl

reason_same : (d : Document) → IsOne (SaysReason d)
reason_same d a b x y =
    let e = sym x.is ∙ y.is in
    let names : resolved_name (reason_of a) ≡ resolved_name (reason_of b) = cc in
    some_same a b (sym (named_back a) ∙ (ap named names ∙ named_back b))

report_one : (name : RunName) (d : Document) → IsOne (λ (report : Resolution). (report.id ≡ name.id) × (report.run ≡ name.run) × SaysReason d report.reason)
report_one name d a b x y = resolution_of_parts a b (x.0 ∙ sym y.0) (x.1 ∙ sym y.1) (reason_same d a.reason b.reason x.2 y.2)

no_reason_one : (d : Document) → IsOne (IsNoReason d)
no_reason_one d NoReason NoReason x y = refl
no_reason_one d NoReason _ x y = absurd y
no_reason_one d _ g x y = absurd x

no_reason_apart : (name : RunName) (d : Document) (report : Resolution) (fault : BodyFault) → (report.id ≡ name.id) × (report.run ≡ name.run) × SaysReason d report.reason → ¬ IsNoReason d fault
no_reason_apart name d report NoReason x = λ ill. ill report.reason x.2
no_reason_apart name d report _ x = λ ill. ill

reason_body_one : OneDocument → (body : List ℕ) (name : RunName) → IsOne (IsReasonBody body name)
reason_body_one one body name a b x y =
    body_one ReportRun (λ d report. (report.id ≡ name.id) × (report.run ≡ name.run) × SaysReason d report.reason) IsNoReason body one (report_one name) no_reason_one (no_reason_apart name) a b (reason_body name body a x) (reason_body name body b y)

-- ---- triggerHook

-- the trigger of a hook with the object that a document is
abbrev Triggers : List ℕ → List ℕ → Document → Trigger → Type 0
Triggers group id d trigger = (trigger.hook.group ≡ group) × (trigger.hook.id ≡ id) × (d ≡ object trigger.payload)

trigger_body : (group id body : List ℕ) (call : Call) → IsTriggerBody body group id call → Body TriggerHook (Triggers group id) IsNoPayload body call
trigger_body group id body (TriggerHook trigger) x = inl (trigger, refl, (object trigger.payload, x.2, (x.0, x.1, refl)))
trigger_body group id body (BadBody fault) x = inr (fault, refl, x)
trigger_body group id body _ x = absurd x

hook_of_parts : (a b : HookName) → a.group ≡ b.group → a.id ≡ b.id → a ≡ b
hook_of_parts a b g i = rw (g, i) refl

trigger_of_parts : (a b : Trigger) → a.hook ≡ b.hook → a.payload ≡ b.payload → a ≡ b
trigger_of_parts a b h p = rw (h, p) refl

trigger_one : (group id : List ℕ) (d : Document) → IsOne (Triggers group id d)
trigger_one group id d a b x y =
    let same : object a.payload ≡ object b.payload = sym x.2 ∙ y.2 in
    trigger_of_parts a b (hook_of_parts a.hook b.hook (x.0 ∙ sym y.0) (x.1 ∙ sym y.1)) cc

no_payload_one : (d : Document) → IsOne (IsNoPayload d)
no_payload_one d NoPayload NoPayload x y = refl
no_payload_one d NoPayload _ x y = absurd y
no_payload_one d _ g x y = absurd x

no_payload_apart : (group id : List ℕ) (d : Document) (trigger : Trigger) (fault : BodyFault) → Triggers group id d trigger → ¬ IsNoPayload d fault
no_payload_apart group id d trigger NoPayload x = λ ill. ill trigger.payload x.2
no_payload_apart group id d trigger _ x = λ ill. ill

trigger_body_one : OneDocument → (body group id : List ℕ) → IsOne (IsTriggerBody body group id)
trigger_body_one one body group id a b x y =
    body_one TriggerHook (Triggers group id) IsNoPayload body one (trigger_one group id) no_payload_one (no_payload_apart group id) a b (trigger_body group id body a x) (trigger_body group id body b y)

-- ---- routes

create_call_one : OneDocument → (body : List ℕ) (parts : List (List ℕ)) → IsOne (CallsCreate body parts)
create_call_one one body [] a b x y = absurd x
create_call_one one body (id ∷ []) a b x y = create_one one body (slug_of id) a b x y
create_call_one one body (id ∷ other ∷ parts) a b x y = absurd x

task_call_one : (asks : List ℕ → Call) (parts : List (List ℕ)) → IsOne (CallsTask asks parts)
task_call_one asks [] a b x y = absurd x
task_call_one asks (id ∷ []) a b x y = x ∙ sym y
task_call_one asks (id ∷ other ∷ parts) a b x y = absurd x

run_or_one : (Asks : RunName → Call → Type 0) → ((name : RunName) → IsOne (Asks name)) → (id : Option (List ℕ)) (run : Option ℕ) → IsOne (CallsRunOr Asks id run)
run_or_one Asks one None run a b x y = x ∙ sym y
run_or_one Asks one (Some id) None a b x y = x ∙ sym y
run_or_one Asks one (Some id) (Some run) a b x y = one (record { id = id; run = run }) a b x y

run_call_one : (Asks : RunName → Call → Type 0) → ((name : RunName) → IsOne (Asks name)) → (parts : List (List ℕ)) → IsOne (CallsRun Asks parts)
run_call_one Asks one [] a b x y = absurd x
run_call_one Asks one (id ∷ []) a b x y = absurd x
run_call_one Asks one (id ∷ run ∷ []) a b x y = run_or_one Asks one (slug_of id) (run_of run) a b x y
run_call_one Asks one (id ∷ run ∷ other ∷ parts) a b x y = absurd x

queue_of_parts : (a b : TaskQueue) → a.provisioner_id ≡ b.provisioner_id → a.worker_type ≡ b.worker_type → a ≡ b
queue_of_parts a b p w = rw (p, w) refl

queue_call_one : (Asks : TaskQueue → Call → Type 0) → ((queue : TaskQueue) → IsOne (Asks queue)) → (name : List ℕ) → IsOne (CallsQueue Asks name)
queue_call_one Asks one name a b (inl x) (inl y) =
    let same = queue_name_same x.0.provisioner_id x.0.worker_type y.0.provisioner_id y.0.worker_type x.1 y.1 (sym x.3 ∙ y.3) in
    one y.0 a b (subst (λ (queue : TaskQueue). Asks queue a) (queue_of_parts x.0 y.0 same.0 same.1) x.4) y.4
queue_call_one Asks one name a b (inl x) (inr y) = absurd (y.0 (x.0.provisioner_id, x.0.worker_type, x.1, x.2, x.3))
queue_call_one Asks one name a b (inr x) (inl y) = absurd (x.0 (y.0.provisioner_id, y.0.worker_type, y.1, y.2, y.3))
queue_call_one Asks one name a b (inr x) (inr y) = x.1 ∙ sym y.1

of_queue_one : (Asks : TaskQueue → Call → Type 0) → ((queue : TaskQueue) → IsOne (Asks queue)) → (parts : List (List ℕ)) → IsOne (CallsOfQueue Asks parts)
of_queue_one Asks one [] a b x y = absurd x
of_queue_one Asks one (name ∷ []) a b x y = queue_call_one Asks one name a b x y
of_queue_one Asks one (provisioner ∷ worker ∷ []) a b x y = queue_call_one Asks one (queue_name provisioner worker) a b x y
of_queue_one Asks one (provisioner ∷ worker ∷ other ∷ parts) a b x y = absurd x

list_call_one : (asks : List ℕ → PageRequest → Call) (named : Parameter) (query : List ℕ) (parts : List (List ℕ)) → IsOne (CallsList asks named query parts)
list_call_one asks named query [] a b x y = absurd x
list_call_one asks named query (id ∷ []) a b x y = x ∙ sym y
list_call_one asks named query (id ∷ other ∷ parts) a b x y = absurd x

hook_of_one : OneDocument → (body group id : List ℕ) → IsOne (CallsHookOf body group id)
hook_of_one one body group id a b (inl x) (inl y) = x.1 ∙ sym y.1
hook_of_one one body group id a b (inl x) (inr (inl y)) = absurd (x.0 y.0)
hook_of_one one body group id a b (inl x) (inr (inr y)) = absurd (x.0 y.0)
hook_of_one one body group id a b (inr (inl x)) (inl y) = absurd (y.0 x.0)
hook_of_one one body group id a b (inr (inl x)) (inr (inl y)) = x.2 ∙ sym y.2
hook_of_one one body group id a b (inr (inl x)) (inr (inr y)) = absurd (x.1 y.1)
hook_of_one one body group id a b (inr (inr x)) (inl y) = absurd (y.0 x.0)
hook_of_one one body group id a b (inr (inr x)) (inr (inl y)) = absurd (y.1 x.1)
hook_of_one one body group id a b (inr (inr x)) (inr (inr y)) = trigger_body_one one body group id a b x.2 y.2

hook_call_one : OneDocument → (body : List ℕ) (parts : List (List ℕ)) → IsOne (CallsHook body parts)
hook_call_one one body [] a b x y = absurd x
hook_call_one one body (group ∷ []) a b x y = absurd x
hook_call_one one body (group ∷ id ∷ []) a b x y = hook_of_one one body group id a b x y
hook_call_one one body (group ∷ id ∷ other ∷ parts) a b x y = absurd x

calls_one : OneDocument → (route : Route) (request : Request) → IsOne (Calls route request)
calls_one one routes.Ping request a b x y = x ∙ sym y
calls_one one routes.CreateTask request a b x y = create_call_one one request.body request.parts a b x y
calls_one one routes.Task request a b x y = task_call_one Task request.parts a b x y
calls_one one routes.Status request a b x y = task_call_one Status request.parts a b x y
calls_one one routes.ScheduleTask request a b x y = task_call_one ScheduleTask request.parts a b x y
calls_one one routes.RerunTask request a b x y = task_call_one RerunTask request.parts a b x y
calls_one one routes.CancelTask request a b x y = task_call_one CancelTask request.parts a b x y
calls_one one routes.ClaimWork request a b x y = of_queue_one (IsWorkBody request.body) (work_body_one one request.body) request.parts a b x y
calls_one one routes.ClaimWorkInTwo request a b x y = of_queue_one (IsWorkBody request.body) (work_body_one one request.body) request.parts a b x y
calls_one one routes.ReclaimTask request a b x y = run_call_one Reclaims (λ name c d u v. u ∙ sym v) request.parts a b x y
calls_one one routes.ReportCompleted request a b x y = run_call_one (Reports Completed) (λ name c d u v. u ∙ sym v) request.parts a b x y
calls_one one routes.ReportFailed request a b x y = run_call_one (Reports Failed) (λ name c d u v. u ∙ sym v) request.parts a b x y
calls_one one routes.ReportException request a b x y = run_call_one (IsReasonBody request.body) (reason_body_one one request.body) request.parts a b x y
calls_one one routes.ListTaskGroup request a b x y = list_call_one ListTaskGroup TaskGroupId request.query request.parts a b x y
calls_one one routes.ListDependentTasks request a b x y = list_call_one ListDependentTasks TaskId request.query request.parts a b x y
calls_one one routes.PendingTasks request a b x y = of_queue_one Counts (λ queue c d u v. u ∙ sym v) request.parts a b x y
calls_one one routes.PendingTasksInTwo request a b x y = of_queue_one Counts (λ queue c d u v. u ∙ sym v) request.parts a b x y
calls_one one routes.TriggerHook request a b x y = hook_call_one one request.body request.parts a b x y

-- ---- messages

pub call_one : OneDocument → NoTwoFit → (message : Message) → IsOne (IsCallOf message)
unfolding IsCallOf
call_one one apart message a b (inl x) (inl y) =
    let routes_same = apart x.0 y.0 message.method (path_of message.target) x.1 y.1 x.2 y.2 in
    let parameters : x.1 ≡ y.1 = some_same x.1 y.1 (sym x.2.path_is ∙ (ap (λ (route : Route). parameters_in (segments_of (path_form route)) (parts_of (path_of message.target))) routes_same ∙ y.2.path_is)) in
    calls_one one y.0 (request_of message y.1) a b (subst₂ (λ (route : Route) (parameters : List (List ℕ)). Calls route (request_of message parameters) a) routes_same parameters x.3) y.3
call_one one apart message a b (inl x) (inr y) = absurd (y.0 x.0 x.1 x.2)
call_one one apart message a b (inr x) (inl y) = absurd (x.0 y.0 y.1 y.2)
call_one one apart message a b (inr x) (inr y) = x.1 ∙ sym y.1
