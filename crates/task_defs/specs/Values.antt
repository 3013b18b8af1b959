-- Which values may stand at a key of a definition, and what they say (this project's profile, formed after the Taskcluster reference).
use Rattle.std.specs.Prelude.{◌≡◌, ℕ, pos, ◌≤◌, List, [], Option, Some, None, option_and_then, unwrap_or, length, map, All}
use Rattle.std.specs.List.{filter_map, IsDistinct}
use Rattle.std.specs.Str.{bytes_eq}
use Rattle.scope_sets.specs.Scopes.{IsPrintable, HasHandedInForm}
use Rattle.farm_text.specs.Slug.{slug_of}
use Rattle.farm_text.specs.DateTime.{IsDateTime}
use Rattle.farm_text.specs.Document.{Document, text, whole, array, items_of, Members, no_members}
use Rattle.task_types.specs.Forms.{IsIdentifier, queue_name}
use Rattle.task_types.specs.Choices.{priority_of, requires_of}
use Rattle.task_defs.specs.Documents.{list_of, text_of}
use Rattle.task_types.specs.Maps.{members_in}
use Rattle.task_types.specs.declared.choices.Priority.{Priority}
use Rattle.task_types.specs.declared.choices.Priority.TheVariants.{Lowest}
use Rattle.task_types.specs.declared.choices.Requires.{Requires}
use Rattle.task_types.specs.declared.choices.Requires.TheVariants.{AllCompleted}

-- a text of this form
abbrev pub IsTextOf : (List ℕ → Type 0) → Document → Type 0
IsTextOf Form (text t) = Form t
IsTextOf Form _ = ⊥

-- a value stands there and is not of its form
abbrev pub Ill : (Document → Type 0) → Option Document → Type 0
Ill Form None = ⊥
Ill Form (Some d) = ¬ Form d

-- what stands there, if anything does, is of its form
abbrev pub Well : (Document → Type 0) → Option Document → Type 0
Well Form None = Unit {0}
Well Form (Some d) = Form d

-- two identifiers with a slash between them
abbrev pub IsQueue : List ℕ → Type 0
IsQueue t = (provisioner : List ℕ) × (worker : List ℕ) × IsIdentifier provisioner × IsIdentifier worker × (t ≡ queue_name provisioner worker)

-- a list of these texts, which are at most so many, none of them twice
pub record IsTexts (most : ℕ) (d : Document) (texts : List (List ℕ)) : Type 0 where
  pub is : d ≡ array (items_of (map text texts))
  pub few : length texts ≤ most
  pub once : IsDistinct bytes_eq texts

-- such a list, of texts of this form
abbrev pub IsTextList : ℕ → (List ℕ → Type 0) → Document → Type 0
IsTextList most Form d = (texts : List (List ℕ)) × IsTexts most d texts × All Form texts

-- a scope that may be handed in
pub record IsScope (t : List ℕ) : Type 0 where
  pub printable : All IsPrintable t
  pub form : HasHandedInForm 4096 t

-- a number of retries: 0 to 49
abbrev pub IsRetries : Document → Type 0
IsRetries (whole (pos n)) = n ≤ 49
IsRetries _ = ⊥

-- the text of a moment
abbrev pub IsMoment : List ℕ → Type 0
IsMoment t = (m : ℕ) × IsDateTime m t

-- the text at a key, and where there is none this one
abbrev pub text_or : List ℕ → Option Document → List ℕ
text_or default value = unwrap_or (option_and_then text_of value) default

-- the texts of the list at a key
abbrev pub texts_in : Option Document → List (List ℕ)
texts_in (Some (array ds)) = filter_map text_of (list_of ds)
texts_in _ = []

-- the id whose slugid stands at a key, and where there is none this one
abbrev pub slug_or : List ℕ → Option Document → List ℕ
slug_or default value = unwrap_or (option_and_then slug_of (option_and_then text_of value)) default

-- what is asked of the dependencies: that all are completed, if nothing is said
abbrev pub requires_in : Option Document → Requires
requires_in value = unwrap_or (option_and_then requires_of (option_and_then text_of value)) AllCompleted

-- the priority, the lowest if none is said
abbrev pub priority_in : Option Document → Priority
priority_in value = unwrap_or (option_and_then priority_of (option_and_then text_of value)) Lowest

-- the number of retries, 5 if none is said
abbrev pub retries_in : Option Document → ℕ
retries_in (Some (whole (pos n))) = n
retries_in _ = 5

-- the members of the map at a key, none if nothing is said
abbrev pub members_or_none : Option Document → Members
members_or_none (Some d) = members_in d
members_or_none None = no_members
