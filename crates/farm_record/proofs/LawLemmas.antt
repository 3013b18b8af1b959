-- A record is of one change, a change has one record, no record begins another, and each is short.
use Rattle.std.proofs.Common.{◌≡◌, ℕ, ◌+◌, ◌*◌, ◌≤◌, List, [], ◌∷◌, ◌++◌, length, Option, Some, refl, sym, ap, subst, ◌∙◌, append_assoc, arith, length-append}
use Rattle.std.specs.List.{flat_map, AllByRecursion}
use Rattle.std.specs.Int.{w32, to_be_bytes}
use Rattle.std.proofs.lemmas.List.{append-nil}
use Rattle.std.proofs.lemmas.List.Concat.{flat_map-cons}
use Rattle.std.proofs.lemmas.Option.{some_pair_parts}
use Rattle.farm_text.specs.Slug.{IsUuid4}
use Rattle.farm_text.specs.Document.{Document, data_of, document_text}
use Rattle.farm_text.specs.Reading.{IsJson}
use Rattle.task_defs.specs.Definitions.{IsFullForm, Says}
use Rattle.task_types.specs.declared.task_def.TaskDef.{TaskDef}
use Rattle.task_types.specs.declared.change.Change.{Change}
use Rattle.task_types.specs.declared.change.Claim.{Claim}
use Rattle.task_types.specs.declared.change.Creation.{Creation}
use Rattle.task_types.specs.declared.change.Kind.{Kind}
use Rattle.task_types.specs.declared.change.Kind.TheVariants as kinds
use Rattle.task_types.specs.declared.change.RunName.{RunName}
use Rattle.farm_record.specs.Fields.{moment_text, sized, IsRun, run_text, IsClaim, claim_text, report_number}
use Rattle.farm_record.specs.Records.{kind_number, HasFields, IsDefinitionText, IsRecord}
use Rattle.farm_record.specs.Reading.{byte_at, moment_at, id_at, claim_at, reclaim_at, resolution_at, creation_at}
use Rattle.farm_record.proofs.FieldLemmas.{Spells, spells_moment, spells_id}
use Rattle.farm_record.proofs.PartLemmas.{spells_claim, spells_reclaim, spells_resolution, spells_creation}
use Rattle.farm_record.proofs.KindLemmas.{only_create, only_schedule, only_rerun, only_cancel, only_claim, only_reclaim, only_resolve}
use Rattle.farm_record.proofs.DefinitionLemmas.{OneDocument, OneForm, short_text}

-- equal full forms come of equal definitions, of what documents say
abbrev pub OneDefinition : Type 0
OneDefinition = (d e : Document) (id other : List ℕ) (a b : TaskDef) (full : Document) → IsUuid4 id → IsUuid4 other → Says d id a → Says e other b → IsFullForm a full → IsFullForm b full → a ≡ b

-- ---- no fields begin others

apart : {A : Type 0} (text : A → List ℕ) (Fits : A → Type 0) (read : List ℕ → Option (A × List ℕ)) → Spells text Fits read → (a b : A) (f g more : List ℕ) → Fits a × (f ≡ text a) → Fits b × (g ≡ text b) → f ++ more ≡ g → (a ≡ b) × (more ≡ [])
apart text Fits read spells a b f g more x y e =
    let one : read g ≡ Some (a, more) = ap read (sym e ∙ ap (λ (l : List ℕ). l ++ more) x.1) ∙ spells.again a more x.0 in
    let two : read g ≡ Some (b, []) = ap read (y.1 ∙ sym (append-nil (text b))) ∙ spells.again b [] y.0 in
    some_pair_parts a b more [] (sym one ∙ two)

only_tick : (k : Kind) → 1 ≡ kind_number k → k ≡ kinds.Tick
only_tick kinds.Tick e = refl
only_tick (kinds.Create a) e = absurd (omega (arith, e))
only_tick (kinds.Schedule a) e = absurd (omega (arith, e))
only_tick (kinds.Rerun a) e = absurd (omega (arith, e))
only_tick (kinds.Cancel a) e = absurd (omega (arith, e))
only_tick (kinds.Claim a) e = absurd (omega (arith, e))
only_tick (kinds.Reclaim a) e = absurd (omega (arith, e))
only_tick (kinds.Resolve a) e = absurd (omega (arith, e))

abbrev Fields : Kind → List ℕ → Type 0
Fields = HasFields IsDefinitionText

creations : OneDocument → OneDefinition → (a b : Creation) (f g more : List ℕ) → Fields (kinds.Create a) f → Fields (kinds.Create b) g → f ++ more ≡ g → (a ≡ b) × (more ≡ [])
creations one_document one a b f g more x y e =
    let s = short_text a x.1.0 x.1.1 in
    let t = short_text b y.1.0 y.1.1 in
    let both = apart _ _ creation_at spells_creation (a.id, x.1.0) (b.id, y.1.0) f g more ((x.0, omega (arith, s)), x.1.2) ((y.0, omega (arith, t)), y.1.2) e in
    let ids : a.id ≡ b.id = ap (λ (p : List ℕ × List ℕ). p.0) both.0 in
    let texts : x.1.0 ≡ y.1.0 = ap (λ (p : List ℕ × List ℕ). p.1) both.0 in
    let v = x.1.1 in
    let w = y.1.1 in
    let full : v.full ≡ w.full = one_document y.1.0 v.full w.full (subst (λ t. IsJson t (data_of v.full)) texts v.json) w.json in
    let definitions : a.definition ≡ b.definition =
    one v.full w.full a.id b.id a.definition b.definition w.full x.0 y.0 v.says w.says (subst (IsFullForm a.definition) full v.form) w.form in
    (ap (λ i. record { id = i; definition = a.definition }) ids ∙ ap (λ d. record { id = b.id; definition = d }) definitions, both.1)

abbrev ClaimParts : Type 0
ClaimParts = ℕ × (List ℕ × (List ℕ × List RunName))

claims : (a b : Claim) (f g more : List ℕ) → IsClaim a × (f ≡ claim_text a) → IsClaim b × (g ≡ claim_text b) → f ++ more ≡ g → (a ≡ b) × (more ≡ [])
claims a b f g more x y e =
    let both = apart _ _ claim_at spells_claim (a.taken_until, (a.worker_group, (a.worker_id, a.runs))) (b.taken_until, (b.worker_group, (b.worker_id, b.runs))) f g more
    ((x.0.0, (omega (arith, x.0.1.short), (omega (arith, x.0.2.short), x.0.3))), x.1) ((y.0.0, (omega (arith, y.0.1.short), (omega (arith, y.0.2.short), y.0.3))), y.1) e in
    (ap (λ (p : ClaimParts). record { taken_until = p.0; worker_group = p.1.0; worker_id = p.1.1.0; runs = p.1.1.1 }) both.0, both.1)

module _ (one_document : OneDocument) (one : OneDefinition) (f g more : List ℕ) (e : f ++ more ≡ g) where
  kinds_apart : (k l : Kind) → kind_number k ≡ kind_number l → Fields k f → Fields l g → (k ≡ l) × (more ≡ [])
  kinds_apart kinds.Tick l n x y =
      let is = only_tick l n in
      let none : g ≡ [] = subst (λ k. Fields k g) is y in
      (sym is, ap (λ (t : List ℕ). t ++ more) (sym x) ∙ e ∙ none)
  kinds_apart (kinds.Create a) l n x y =
      let (b, is, z) = only_create g l (n, y) in
      let both = creations one_document one a b f g more x z e in (ap kinds.Create both.0 ∙ sym is, both.1)
  kinds_apart (kinds.Schedule a) l n x y =
      let (b, is, z) = only_schedule g l (n, y) in
      let both = apart _ _ id_at spells_id a b f g more x z e in (ap kinds.Schedule both.0 ∙ sym is, both.1)
  kinds_apart (kinds.Rerun a) l n x y =
      let (b, is, z) = only_rerun g l (n, y) in
      let both = apart _ _ id_at spells_id a b f g more x z e in (ap kinds.Rerun both.0 ∙ sym is, both.1)
  kinds_apart (kinds.Cancel a) l n x y =
      let (b, is, z) = only_cancel g l (n, y) in
      let both = apart _ _ id_at spells_id a b f g more x z e in (ap kinds.Cancel both.0 ∙ sym is, both.1)
  kinds_apart (kinds.Claim a) l n x y =
      let (b, is, z) = only_claim g l (n, y) in
      let both = claims a b f g more x z e in (ap kinds.Claim both.0 ∙ sym is, both.1)
  kinds_apart (kinds.Reclaim a) l n x y =
      let (b, is, z) = only_reclaim g l (n, y) in
      let both = apart _ _ reclaim_at spells_reclaim a b f g more x z e in (ap kinds.Reclaim both.0 ∙ sym is, both.1)
  kinds_apart (kinds.Resolve a) l n x y =
      let (b, is, z) = only_resolve g l (n, y) in
      let both = apart _ _ resolution_at spells_resolution a b f g more x z e in (ap kinds.Resolve both.0 ∙ sym is, both.1)

byte_of : (n : ℕ) (rest : List ℕ) → byte_at (n ∷ rest) ≡ Some (n, rest)
unfolding byte_at
byte_of n rest = refl

pub records_apart : OneDocument → OneDefinition → (a b : Change) (bytes more : List ℕ) → IsRecord a bytes → IsRecord b (bytes ++ more) → (a ≡ b) × (more ≡ [])
records_apart one_document one a b bytes more x y =
    let front : bytes ++ more ≡ kind_number a.kind ∷ (moment_text a.at ++ (x.fields ++ more)) =
    ap (λ (l : List ℕ). l ++ more) x.is ∙ ap (λ (l : List ℕ). kind_number a.kind ∷ l) (append_assoc (moment_text a.at) x.fields more) in
    let first = some_pair_parts (kind_number a.kind) (kind_number b.kind) (moment_text a.at ++ (x.fields ++ more)) (moment_text b.at ++ y.fields)
    (sym (byte_of _ _) ∙ ap byte_at (sym front ∙ y.is) ∙ byte_of _ _) in
    let second = some_pair_parts a.at b.at (x.fields ++ more) y.fields
    (sym (spells_moment.again a.at (x.fields ++ more) x.moment) ∙ ap moment_at first.1 ∙ spells_moment.again b.at y.fields y.moment) in
    let both = kinds_apart one_document one x.fields y.fields more second.1 a.kind b.kind first.0 x.has y.has in
    (ap (λ m. record { at = m; kind = a.kind }) second.0 ∙ ap (λ k. record { at = b.at; kind = k }) both.0, both.1)

-- ---- a change has one record

fields_one : OneForm → (k : Kind) (f g : List ℕ) → Fields k f → Fields k g → f ≡ g
fields_one form kinds.Tick f g x y = x ∙ sym y
fields_one form (kinds.Create a) f g x y =
    let texts : x.1.0 ≡ y.1.0 = x.1.1.spelled ∙ ap document_text (form a.definition x.1.1.full y.1.1.full x.1.1.form y.1.1.form) ∙ sym y.1.1.spelled in
    x.1.2 ∙ ap (λ t. a.id ++ sized t) texts ∙ sym y.1.2
fields_one form (kinds.Schedule a) f g x y = x.1 ∙ sym y.1
fields_one form (kinds.Rerun a) f g x y = x.1 ∙ sym y.1
fields_one form (kinds.Cancel a) f g x y = x.1 ∙ sym y.1
fields_one form (kinds.Claim a) f g x y = x.1 ∙ sym y.1
fields_one form (kinds.Reclaim a) f g x y = x.1 ∙ sym y.1
fields_one form (kinds.Resolve a) f g x y = x.1 ∙ sym y.1

pub record_one : OneForm → (c : Change) (a b : List ℕ) → IsRecord c a → IsRecord c b → a ≡ b
record_one form c a b x y =
    x.is ∙ ap (λ (l : List ℕ). kind_number c.kind ∷ (moment_text c.at ++ l)) (fields_one form c.kind x.fields y.fields x.has y.has) ∙ sym y.is

-- ---- a record is short

runs_length : (names : List RunName) → AllByRecursion IsRun names → length (flat_map run_text names) ≤ 17 * length names
runs_length [] each = omega arith
runs_length (n ∷ ns) each =
    omega (arith, ap length (flat_map-cons run_text n ns), length-append (run_text n) (flat_map run_text ns), length-append n.id (n.run ∷ []), each.0.0.len, runs_length ns each.1)

sized_length : (text : List ℕ) → length (sized text) ≡ 4 + length text
sized_length text = length-append (to_be_bytes w32 (length text)) text

claim_length : (c : Claim) → IsClaim c → length (claim_text c) ≤ 1000
claim_length c is =
    omega (
      arith,
      length-append (sized c.worker_group) (sized c.worker_id ++ (to_be_bytes w32 (length c.runs) ++ flat_map run_text c.runs)),
      length-append (sized c.worker_id) (to_be_bytes w32 (length c.runs) ++ flat_map run_text c.runs),
      sized_length c.worker_group,
      sized_length c.worker_id,
      is.1.short,
      is.2.short,
      runs_length c.runs is.3.2,
      is.3.1,
    )

fields_length : (k : Kind) (f : List ℕ) → Fields k f → length f ≤ 8389000
fields_length kinds.Tick f x = omega (arith, ap length x)
fields_length (kinds.Create a) f x = omega (arith, ap length x.1.2, length-append a.id (sized x.1.0), sized_length x.1.0, x.0.len, short_text a x.1.0 x.1.1)
fields_length (kinds.Schedule a) f x = omega (arith, ap length x.1, x.0.len)
fields_length (kinds.Rerun a) f x = omega (arith, ap length x.1, x.0.len)
fields_length (kinds.Cancel a) f x = omega (arith, ap length x.1, x.0.len)
fields_length (kinds.Claim a) f x = omega (arith, ap length x.1, claim_length a x.0)
fields_length (kinds.Reclaim a) f x = omega (arith, ap length x.1, length-append a.id (a.run ∷ moment_text a.taken_until), x.0.0.len)
fields_length (kinds.Resolve a) f x = omega (arith, ap length x.1, length-append a.id (a.run ∷ report_number a.reason ∷ []), x.0.0.len)

pub record_short : (c : Change) (bytes : List ℕ) → IsRecord c bytes → length bytes ≤ 16777216
record_short c bytes x =
    omega (arith, ap length x.is, length-append (moment_text c.at) x.fields, fields_length c.kind x.fields x.has)
