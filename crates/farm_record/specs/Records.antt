-- The record of a change (this project's own format): the number of its kind, its moment, and its fields.
use Rattle.std.specs.Prelude.{◌≡◌, ℕ, List, [], ◌∷◌, ◌++◌}
use Rattle.farm_text.specs.Slug.{IsUuid4}
use Rattle.farm_text.specs.Document.{Document, data_of, document_text}
use Rattle.farm_text.specs.Reading.{IsJson, unwhole}
use Rattle.task_defs.specs.Definitions.{IsFullForm, Says}
use Rattle.task_types.specs.declared.change.Change.{Change}
use Rattle.task_types.specs.declared.change.Creation.{Creation}
use Rattle.task_types.specs.declared.change.Kind.{Kind}
use Rattle.task_types.specs.declared.change.Kind.TheVariants as kinds
use Rattle.farm_record.specs.Fields.{IsMoment, moment_text, sized, IsClaim, claim_text, IsReclaim, reclaim_text, IsResolution, resolution_text}

-- the number of a kind of change
abbrev pub kind_number : Kind → ℕ
kind_number kinds.Tick = 1
kind_number (kinds.Create _) = 2
kind_number (kinds.Schedule _) = 3
kind_number (kinds.Rerun _) = 4
kind_number (kinds.Cancel _) = 5
kind_number (kinds.Claim _) = 6
kind_number (kinds.Reclaim _) = 7
kind_number (kinds.Resolve _) = 8

-- the text is the definition's full form as JSON without spaces
abbrev pub IsFullText : Creation → List ℕ → Type 0
IsFullText c text = (full : Document) × IsFullForm c.definition full × (text ≡ document_text full)

-- and it is read as that full form, which says this very definition for the task of this id
pub record IsDefinitionText (c : Creation) (text : List ℕ) : Type 0 where
  pub full : Document
  pub form : IsFullForm c.definition full
  pub spelled : text ≡ document_text full
  pub json : IsJson text (data_of full)
  pub whole : unwhole (data_of full) ≡ []
  pub says : Says full c.id c.definition

-- the fields of a change, where `IsText` says what the text of a definition is
abbrev pub HasFields : (Creation → List ℕ → Type 0) → Kind → List ℕ → Type 0
HasFields IsText kinds.Tick fields = fields ≡ []
HasFields IsText (kinds.Create c) fields = IsUuid4 c.id × ((text : List ℕ) × IsText c text × (fields ≡ c.id ++ sized text))
HasFields IsText (kinds.Schedule id) fields = IsUuid4 id × (fields ≡ id)
HasFields IsText (kinds.Rerun id) fields = IsUuid4 id × (fields ≡ id)
HasFields IsText (kinds.Cancel id) fields = IsUuid4 id × (fields ≡ id)
HasFields IsText (kinds.Claim c) fields = IsClaim c × (fields ≡ claim_text c)
HasFields IsText (kinds.Reclaim r) fields = IsReclaim r × (fields ≡ reclaim_text r)
HasFields IsText (kinds.Resolve r) fields = IsResolution r × (fields ≡ resolution_text r)

-- the text of a change, where `IsText` says what the text of a definition is
pub record IsSpelledBy (IsText : Creation → List ℕ → Type 0) (change : Change) (bytes : List ℕ) : Type 0 where
  pub moment : IsMoment change.at
  pub fields : List ℕ
  pub has : HasFields IsText change.kind fields
  pub is : bytes ≡ kind_number change.kind ∷ (moment_text change.at ++ fields)

-- the text of a change, whatever its definition is
abbrev pub IsSpelled : Change → List ℕ → Type 0
IsSpelled = IsSpelledBy IsFullText

-- the record of a change: its text, from which it can be read
abbrev pub IsRecord : Change → List ℕ → Type 0
IsRecord = IsSpelledBy IsDefinitionText

-- some document says the definition of a task that is made
abbrev pub IsSaid : Kind → Type 0
IsSaid (kinds.Create c) = (d : Document) × Says d c.id c.definition
IsSaid _ = Unit {0}

-- a tick at this moment
abbrev pub tick_at : ℕ → Change
tick_at m = record { at = m; kind = kinds.Tick }
