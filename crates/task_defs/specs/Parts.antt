-- What the parts of the reader tell one another: all of it follows from the rules of a definition.
use Rattle.std.specs.Prelude.{◌≡◌, ℕ, ◌+◌, ◌<◌, min, List, codes, length, Option, Some, None}
use Rattle.std.specs.List.{filter_map}
use Rattle.farm_text.specs.Slug.{slug_of}
use Rattle.farm_text.specs.DateTime.{IsDateTime}
use Rattle.task_defs.specs.Faults.{Holds}
use Rattle.task_defs.specs.Keys.{KeyBreaks}
use Rattle.task_defs.specs.Rules.{metadata_doc, QueueBreaks, NameBreaks, GroupBreaks, DependenciesBreak, RequiresBreaks, RoutesBreak, PriorityBreaks, RetriesBreak, MomentBreaks, DeadlineBreaks, ExpiresBreaks, ScopesBreak, MetadataBreaks}
use Rattle.task_defs.specs.Definitions.{IsDefinition, IsFullForm, IsQueueOf}
use Rattle.task_types.specs.declared.task_def.TaskDef.{TaskDef}
use Rattle.farm_text.specs.Document.{Document, text, get, document_text}
use Rattle.task_defs.specs.Values.{text_or, texts_in, slug_or, requires_in, priority_in, retries_in, members_or_none}
use Rattle.task_defs.specs.declared.reading.Head.{Head}
use Rattle.task_defs.specs.declared.reading.Terms.{Terms}
use Rattle.task_defs.specs.declared.reading.Rest.{Rest}
use Rattle.task_defs.specs.declared.reading.Maps.{Maps}

-- the document is the text of this moment, and of no other
pub record IsOnlyMoment (d : Document) (m : ℕ) : Type 0 where
  pub said : List ℕ
  pub is : d ≡ text said
  pub moment : IsDateTime m said
  pub only : (n : ℕ) → IsDateTime n said → m ≡ n

-- always
abbrev pub Everything : Type 0
Everything = Unit {0}

-- never
abbrev pub Nothing : Type 0
Nothing = ⊥

-- a value is the text of this moment, and of no other
abbrev pub IsOnlyAt : Option Document → ℕ → Type 0
IsOnlyAt value m = (v : Document) × (value ≡ Some v) × IsOnlyMoment v m

-- when a task expires, as is said or by default
abbrev pub expires_by : ℕ → Option ℕ → ℕ
expires_by deadline (Some m) = m
expires_by deadline None = min (deadline + 31_536_000_000) 253_370_764_799_999

-- ---- the rules, part by part

-- rules 1 to 4 hold
pub record HeadHolds (d : Document) : Type 0 where
  pub keys : Holds (KeyBreaks d)
  pub queue : Holds (QueueBreaks d)
  pub names : Holds (NameBreaks d)
  pub group : Holds (GroupBreaks d)

-- rules 5 to 9 hold
pub record TermsHold (d : Document) : Type 0 where
  pub dependencies : Holds (DependenciesBreak d)
  pub asked : Holds (RequiresBreaks d)
  pub routes : Holds (RoutesBreak d)
  pub priority : Holds (PriorityBreaks d)
  pub retries : Holds (RetriesBreak d)

-- rules 10 to 12 hold
pub record SpanHolds (d : Document) : Type 0 where
  pub moments : Holds (MomentBreaks d)
  pub deadline : Holds (DeadlineBreaks d)
  pub expires : Holds (ExpiresBreaks d)

-- rule 13 holds, and 14 but for the length
pub record RestHolds (d : Document) : Type 0 where
  pub scopes : Holds (ScopesBreak d)
  pub metadata : Holds (MetadataBreaks d)

-- ---- what the rules' parts say

-- whom the task is for
abbrev pub IsHead : Document → List ℕ → Head → Type 0
IsHead d id h = HeadHolds d
    × IsQueueOf (get (codes "provisionerId") d) (get (codes "taskQueueId") d) (get (codes "workerType") d) h.queue
    × (h.project_id ≡ text_or (codes "none") (get (codes "projectId") d))
    × (h.scheduler_id ≡ text_or (codes "-") (get (codes "schedulerId") d))
    × (h.task_group_id ≡ slug_or id (get (codes "taskGroupId") d))

-- what it waits for, where it is told, and how it is run
abbrev pub AreTerms : Document → Terms → Type 0
AreTerms d t = TermsHold d
    × (t.dependencies ≡ filter_map slug_of (texts_in (get (codes "dependencies") d)))
    × (t.requires_ ≡ requires_in (get (codes "requires") d))
    × (t.routes ≡ texts_in (get (codes "routes") d))
    × (t.priority ≡ priority_in (get (codes "priority") d))
    × (t.retries ≡ retries_in (get (codes "retries") d))

-- what it may do, and what is told of it
abbrev pub IsRest : Document → Rest → Type 0
IsRest d r = RestHolds d
    × (r.scopes ≡ texts_in (get (codes "scopes") d))
    × (get (codes "metadata") d ≡ Some (metadata_doc r.metadata))
    × (r.tags ≡ members_or_none (get (codes "tags") d))

-- what no rule but the first speaks of
abbrev pub AreMaps : Document → Maps → Type 0
AreMaps d m = (m.extra ≡ members_or_none (get (codes "extra") d)) × (m.payload ≡ members_or_none (get (codes "payload") d))

-- rules 1 to 14 hold but for the length, and this is the one definition that the document says
pub record IsOnlyDefinition (d : Document) (id : List ℕ) (def : TaskDef) : Type 0 where
  pub head : HeadHolds d
  pub terms : TermsHold d
  pub span : SpanHolds d
  pub rest : RestHolds d
  pub definition : IsDefinition d id def
  pub only : (other : TaskDef) → IsDefinition d id other → def ≡ other

-- a full form of the definition has more than 8,388,608 bytes
pub record IsLongForm (def : TaskDef) : Type 0 where
  pub full : Document
  pub form : IsFullForm def full
  pub long : 8388608 < length (document_text full)
