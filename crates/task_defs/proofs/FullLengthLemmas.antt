-- How long a full form is, from its parts.
use Rattle.std.proofs.Common.{◌≡◌, ℕ, ◌+◌, ◌*◌, ◌≤◌, List, ◌∷◌, length, length-append, map, codes, pos, ap, subst, sum, arith}
use Rattle.farm_text.specs.Slug.{slug_text}
use Rattle.farm_text.specs.Moment.{IsMomentText}
use Rattle.farm_text.specs.Document.{Document, text, whole, object, Members, no_members, member, document_text}
use Rattle.task_types.specs.Forms.{queue_name}
use Rattle.task_types.specs.Choices.{priority_name, requires_name}
use Rattle.task_defs.specs.Rules.{metadata_doc}
use Rattle.task_defs.specs.Definitions.{text_list, full_form, IsFullForm}
use Rattle.task_defs.specs.Lengths.{Covers}
use Rattle.task_types.specs.declared.names.TaskQueue.{TaskQueue}
use Rattle.task_types.specs.declared.objects.Metadata.{Metadata}
use Rattle.task_types.specs.declared.task_def.TaskDef.{TaskDef}
use Rattle.task_defs.proofs.LengthLemmas.{members_size, member_size, map_size, quoted_size}

-- the bytes of a document's text
abbrev pub size : Document → ℕ
size d = length (document_text d)

-- a text with so many characters
text_size : (t : List ℕ) → size (text t) ≤ 6 * length t + 2
text_size t = quoted_size t

-- members take at most so many bytes
record AtMost (ms : Members) (n : ℕ) : Type 0 where
  fits : members_size ms ≤ n

last : AtMost no_members 1
last = record { fits = omega arith }

after_key : (k : List ℕ) (d : Document) (n : ℕ) {ms : Members} {m : ℕ} → 6 * length k + 4 ≤ n → AtMost ms m → AtMost (member k d ms) (n + size d + m)
after_key k d n {ms} {m} key rest = record { fits = omega (arith, member_size k d ms, quoted_size k, key, rest.fits) }

whole_size : (ms : Members) (m n : ℕ) → AtMost ms m → 1 + m ≤ n → size (object ms) ≤ n
whole_size ms m n h le = omega (arith, map_size ms, h.fits)

pub metadata_size : (m : Metadata) → size (metadata_doc m) ≤ 175 + size (text m.description) + size (text m.name) + size (text m.owner) + size (text m.source)
metadata_size m = whole_size _ _ _
    (after_key (codes "description") (text m.description) 70 (omega arith)
    (after_key (codes "name") (text m.name) 28 (omega arith)
    (after_key (codes "owner") (text m.owner) 34 (omega arith)
    (after_key (codes "source") (text m.source) 40 (omega arith) last))))
    (omega arith)

-- the parts of a full form that differ from definition to definition, but for its moments
abbrev pub parts_size : TaskDef → ℕ
parts_size def =
    size (text_list (map slug_text def.dependencies)) + size (object def.extra) + size (metadata_doc def.metadata) + size (object def.payload)
    + size (text (priority_name def.priority)) + size (text def.project_id) + size (text def.queue.provisioner_id) + size (text (requires_name def.requires_)) + size (whole (pos def.retries)) + size (text_list def.routes)
    + size (text def.scheduler_id) + size (text_list def.scopes) + size (object def.tags) + size (text (slug_text def.task_group_id)) + size (text (queue_name def.queue.provisioner_id def.queue.worker_type)) + size (text def.queue.worker_type)

moments_size : (def : TaskDef) (c d e : List ℕ) → size (full_form def c d e) ≤ 1026 + size (text c) + size (text d) + size (text e) + parts_size def
moments_size def c d e = whole_size _ _ _
    (after_key (codes "created") (text c) 46 (omega arith)
    (after_key (codes "deadline") (text d) 52 (omega arith)
    (after_key (codes "dependencies") (text_list (map slug_text def.dependencies)) 76 (omega arith)
    (after_key (codes "expires") (text e) 46 (omega arith)
    (after_key (codes "extra") (object def.extra) 34 (omega arith)
    (after_key (codes "metadata") (metadata_doc def.metadata) 52 (omega arith)
    (after_key (codes "payload") (object def.payload) 46 (omega arith)
    (after_key (codes "priority") (text (priority_name def.priority)) 52 (omega arith)
    (after_key (codes "projectId") (text def.project_id) 58 (omega arith)
    (after_key (codes "provisionerId") (text def.queue.provisioner_id) 82 (omega arith)
    (after_key (codes "requires") (text (requires_name def.requires_)) 52 (omega arith)
    (after_key (codes "retries") (whole (pos def.retries)) 46 (omega arith)
    (after_key (codes "routes") (text_list def.routes) 40 (omega arith)
    (after_key (codes "schedulerId") (text def.scheduler_id) 70 (omega arith)
    (after_key (codes "scopes") (text_list def.scopes) 40 (omega arith)
    (after_key (codes "tags") (object def.tags) 28 (omega arith)
    (after_key (codes "taskGroupId") (text (slug_text def.task_group_id)) 70 (omega arith)
    (after_key (codes "taskQueueId") (text (queue_name def.queue.provisioner_id def.queue.worker_type)) 70 (omega arith)
    (after_key (codes "workerType") (text def.queue.worker_type) 64 (omega arith) last)))))))))))))))))))
    (omega arith)

-- a moment's text has 24 bytes
moment_size : (m : ℕ) (t : List ℕ) → IsMomentText m t → length t ≡ 24
moment_size m t h = ap length h.spelled

-- a full form is its frame and its parts
pub form_size : (def : TaskDef) (form : Document) → IsFullForm def form → size form ≤ 1500 + parts_size def
form_size def form h =
    rw h.is (omega (arith, moments_size def h.created h.deadline h.expires, text_size h.created, text_size h.deadline, text_size h.expires, moment_size _ _ h.created_text, moment_size _ _ h.deadline_text, moment_size _ _ h.expires_text))

-- ---- what the walks add up

-- what covers a document's text covers that of the same document, told in another way
pub covered : {A : Type 0} (f : A → Document) (x y : A) (n : ℕ) → x ≡ y → Covers n (size (f x)) → n ≤ 8388608 → size (f y) ≤ n
covered {A} f x y n e covers within = subst (λ (z : A). size (f z) ≤ n) e (covers within)

pub summed : (most : ℕ) (parts written : List ℕ) → parts ≡ written → Covers most (sum parts) → most ≤ 8388608 → sum written ≤ most
summed most parts written e covers within = subst (λ (ns : List ℕ). sum ns ≤ most) e (covers within)

pub metadata_total : (m : Metadata) (most d n o s : ℕ) → 200 + d + n + o + s ≤ most → size (text m.description) ≤ d → size (text m.name) ≤ n → size (text m.owner) ≤ o → size (text m.source) ≤ s
    → size (metadata_doc m) ≤ most
metadata_total m most d n o s all hd hn ho hs = omega (arith, metadata_size m)

pub queue_total : (q : TaskQueue) (most p w : ℕ) → p + p + w + w + 6 ≤ most → size (text q.provisioner_id) ≤ p → 6 * length q.provisioner_id + 2 ≤ p → size (text q.worker_type) ≤ w → 6 * length q.worker_type + 2 ≤ w
    → size (text q.provisioner_id) + size (text q.worker_type) + size (text (queue_name q.provisioner_id q.worker_type)) ≤ most
queue_total q most p w all hp lp hw lw = omega (arith, text_size (queue_name q.provisioner_id q.worker_type), length-append q.provisioner_id (47 ∷ q.worker_type))

pub form_total : (def : TaskDef) (made : Document) (most project scheduler queue group ids routes scopes metadata extra payload tags priority asked retries : ℕ) → IsFullForm def made
    → 1500 + project + scheduler + queue + group + ids + routes + scopes + metadata + extra + payload + tags + priority + asked + retries ≤ most
    → size (text def.project_id) ≤ project
    → size (text def.scheduler_id) ≤ scheduler
    → size (text def.queue.provisioner_id) + size (text def.queue.worker_type) + size (text (queue_name def.queue.provisioner_id def.queue.worker_type)) ≤ queue
    → size (text (slug_text def.task_group_id)) ≤ group
    → size (text_list (map slug_text def.dependencies)) ≤ ids
    → size (text_list def.routes) ≤ routes
    → size (text_list def.scopes) ≤ scopes
    → size (metadata_doc def.metadata) ≤ metadata
    → size (object def.extra) ≤ extra
    → size (object def.payload) ≤ payload
    → size (object def.tags) ≤ tags
    → size (text (priority_name def.priority)) ≤ priority
    → size (text (requires_name def.requires_)) ≤ asked
    → size (whole (pos def.retries)) ≤ retries
    → size made ≤ most
form_total def made most project scheduler queue group ids routes scopes metadata extra payload tags priority asked retries form all h1 h2 h3 h4 h5 h6 h7 h8 h9 h10 h11 h12 h13 h14 =
    omega (arith, form_size def made form)
