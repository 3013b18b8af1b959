-- Which text a definition has, and what is read of a text.
use Rattle.std.proofs.Common.{◌≡◌, ℕ, ◌≤◌, true, List, [], ◌∷◌, length, map, codes, Ok, nat_le, refl, sym, ap, subst, ◌∙◌, arith, inl, inr}
use Rattle.std.proofs.lemmas.Bool.{cases_lt}
use Rattle.std.proofs.lemmas.Option.{same_Some}
use Rattle.serde_json.specs.Data.{Data, depth}
use Rattle.farm_text.specs.Slug.{IsUuid4, slug_text}
use Rattle.farm_text.specs.Document.{Document, object, Members, get, data_of, document_text}
use Rattle.farm_text.specs.Reading.{IsJson, unwhole}
use Rattle.task_defs.specs.Documents.{nesting}
use Rattle.task_defs.specs.Faults.{Holds, IsFault}
use Rattle.task_defs.specs.Keys.{KeyBreaks}
use Rattle.task_defs.specs.Values.{members_or_none}
use Rattle.task_defs.specs.Definitions.{IsFullForm, Says, full_form, text_list, rules}
use Rattle.task_defs.specs.declared.fault.DefFault.{DefFault}
use Rattle.task_types.specs.declared.task_def.TaskDef.{TaskDef}
use Rattle.task_defs.proofs.FullLemmas.{fit_in, members_nest, texts_nest}
use Rattle.task_types.specs.declared.change.Creation.{Creation}
use Rattle.farm_record.specs.declared.unread.Unread.TheVariants.{NotARecord}
use Rattle.farm_record.specs.Records.{IsDefinitionText}
use Rattle.farm_record.specs.Reading.{Reads, Refuses}
use Rattle.task_defs.specs.Writing.{IsFullOf}
use Rattle.farm_record.specs.Writing.{IsWrittenText}

-- ---- a full form that a document says nests no deeper than that document may

small : (n : ℕ) → nat_le n 126 ≡ true → n ≤ 126
small n e = grind (arith, e)

map_small : (key : List ℕ) (d : Document) (ms : Members) → Holds (KeyBreaks d) → ms ≡ members_or_none (get key d) → nesting (object ms) ≤ 126
map_small key d ms holds is =
    subst (λ (x : Members). nesting (object x) ≤ 126) (sym is) (small _ (members_nest key (get key d) (λ v at. fit_in d key v holds at)))

texts_small : (ts : List (List ℕ)) → nesting (text_list ts) ≤ 126
texts_small ts = small _ (texts_nest ts)

form_shallow : (def : TaskDef) (created deadline expires : List ℕ) → nesting (object def.extra) ≤ 126 → nesting (object def.payload) ≤ 126 → nesting (object def.tags) ≤ 126 → nesting (full_form def created deadline expires) ≤ 127
form_shallow def created deadline expires extra payload tags =
    omega (arith, extra, payload, tags, texts_small (map slug_text def.dependencies), texts_small def.routes, texts_small def.scopes)

pub shallow : (d : Document) (id : List ℕ) (def : TaskDef) (form_doc : Document) → Says d id def → IsFullForm def form_doc → depth (data_of form_doc) ≤ 127
shallow d id def form_doc says form =
    let holds = says.sound.0 in
    let is = says.definition in
    subst (λ (x : Document). nesting x ≤ 127) (sym form.is) (form_shallow def form.created form.deadline form.expires
    (map_small (codes "extra") d def.extra holds is.extra) (map_small (codes "payload") d def.payload holds is.payload) (map_small (codes "tags") d def.tags holds is.tags))

-- and it is no longer than a definition may be
pub short : (d : Document) (id : List ℕ) (def : TaskDef) (form_doc : Document) → Says d id def → IsFullForm def form_doc → length (document_text form_doc) ≤ 8388608
short d id def form_doc says form = elim (cases_lt 8388608 (length (document_text form_doc))) [
  | inl lt ↦ absurd (says.sound.1.1.1.1.1.1.1.1.1.1.1.1.1.1.0 [] (refl, record { def = def; full = form_doc; definition = says.definition; form = form; long = lt }))
  | inr le ↦ le
]

pub short_text : (c : Creation) (text : List ℕ) → IsDefinitionText c text → length text ≤ 8388608
short_text c text w = subst (λ (t : List ℕ). length t ≤ 8388608) (sym w.spelled) (short w.full c.id c.definition w.full w.says w.form)

-- ---- the laws that these lemmas stand on, each proved by a function with no body

abbrev pub SaysAgain : Type 0
SaysAgain = (d : Document) (id : List ℕ) (def : TaskDef) (full : Document) → IsUuid4 id → Says d id def → IsFullForm def full → Says full id def

abbrev pub OneDocument : Type 0
OneDocument = (bytes : List ℕ) (a b : Document) → IsJson bytes (data_of a) → IsJson bytes (data_of b) → a ≡ b

abbrev pub NoFault : Type 0
NoFault = (d : Document) (id : List ℕ) (def : TaskDef) (fault : DefFault) → Says d id def → ¬ IsFault (rules d id) fault

abbrev pub OneForm : Type 0
OneForm = (def : TaskDef) (full other : Document) → IsFullForm def full → IsFullForm def other → full ≡ other

-- the text of a definition that a document says
pub definition_text : SaysAgain → (d : Document) (id : List ℕ) (def : TaskDef) (text : List ℕ) → IsUuid4 id → Says d id def → IsFullOf def text → IsDefinitionText (record { id = id; definition = def }) text
definition_text again d id def text uuid says of =
    record { full = of.full; form = of.form; spelled = of.spelled; json = of.json (shallow d id def of.full says of.form); whole = of.whole; says = again d id def of.full uuid says of.form }

pub written : SaysAgain → (id : List ℕ) (def : TaskDef) (text : List ℕ) → IsUuid4 id → IsFullOf def text → IsWrittenText (record { id = id; definition = def }) text
written again id def text uuid of = record {
  full = (of.full, of.form, of.spelled);
  said = λ said. definition_text again said.0 id def text uuid said.1 of;
}

-- ---- what a text says

module _ (text id : List ℕ) where
  -- the definition whose text this is
  abbrev pub IsOf : TaskDef → Type 0
  IsOf def = IsDefinitionText (record { id = id; definition = def }) text

  pub not_json : ((d : Data) → ¬ IsJson text d) → Refuses IsOf NotARecord
  not_json none = λ def w. none (data_of w.full) w.json

  pub not_whole : (path : List ℕ) → (d : Data) × IsJson text d × ((more : List (List ℕ)) × (unwhole d ≡ path ∷ more)) → Refuses IsOf NotARecord
  not_whole path (d, json, told) = λ def w.
      let (more, some) = told in
      let same : d ≡ data_of w.full = same_Some d (data_of w.full) (sym json.1 ∙ w.json.1) in
      let nothing : path ∷ more ≡ [] = sym some ∙ ap unwhole same ∙ w.whole in absurd cc

  module _ (one : OneDocument) (doc : Document) (json : IsJson text (data_of doc)) where
    said : (def : TaskDef) → IsOf def → Says doc id def
    said def w = subst (λ (x : Document). Says x id def) (one text w.full doc w.json json) w.says

    pub faulty : NoFault → (fault : DefFault) → IsFault (rules doc id) fault → Refuses IsOf NotARecord
    faulty none fault is = λ def w. none doc id def fault (said def w) is

    module _ (def : TaskDef) (says : Says doc id def) (only : (other : TaskDef) → Says doc id other → def ≡ other) (full : List ℕ) (of : IsFullOf def full) where
      pub other_text : OneForm → ¬ (full ≡ text) → Refuses IsOf NotARecord
      other_text form differs = λ other w.
          let same : def ≡ other = only other (said other w) in
          let forms : of.full ≡ w.full = form other of.full w.full (subst (λ (x : TaskDef). IsFullForm x of.full) same of.form) w.form in
          differs (of.spelled ∙ ap document_text forms ∙ sym w.spelled)

      pub is_read : SaysAgain → IsUuid4 id → full ≡ text → Reads IsOf (Ok def)
      is_read again uuid same =
          (subst (λ t. IsDefinitionText (record { id = id; definition = def }) t) same (definition_text again doc id def full uuid says of), λ other w. only other (said other w))
