-- A creation is read where its id is, and its definition's text.
use Rattle.std.proofs.Common.{◌≡◌, ℕ, List, Some, Ok, refl, sym, ap, subst, ◌∙◌, arith}
use Rattle.std.proofs.lemmas.Option.{some_pair_parts}
use Rattle.farm_text.specs.Slug.{IsUuid4}
use Rattle.task_types.specs.declared.task_def.TaskDef.{TaskDef}
use Rattle.task_types.specs.declared.change.Creation.{Creation}
use Rattle.task_types.specs.declared.change.Kind.TheVariants as kinds
use Rattle.farm_record.specs.declared.unread.Unread.{Unread}
use Rattle.farm_record.specs.declared.unread.Unread.TheVariants.{NotARecord, NoMemory}
use Rattle.farm_record.specs.Records.{HasFields, IsDefinitionText}
use Rattle.farm_record.specs.Reading.{Fails, Refuses, Reads, all_of, creation_at, IsKind}
use Rattle.farm_record.proofs.FieldLemmas.{IsBytes}
use Rattle.farm_record.proofs.PartLemmas.{none_is, spells_creation, all_takes, all_again}
use Rattle.farm_record.proofs.KindLemmas.{only_create, makes, refuses}
use Rattle.farm_record.proofs.DefinitionLemmas.{short_text}

module _ (f : List ℕ) where
  abbrev IsCreation : Creation → Type 0
  IsCreation c = HasFields IsDefinitionText (kinds.Create c) f

  head_of : (c : Creation) (is : IsCreation c) → all_of (creation_at f) ≡ Some (c.id, is.1.0)
  head_of c is =
      let short = short_text c is.1.0 is.1.1 in
      all_again _ _ creation_at spells_creation f (c.id, is.1.0) ((is.0, omega (arith, short)), is.1.2)

  pub no_head : (u : Unread) → Fails u (all_of (creation_at f)) → Refuses (IsKind 2 f) u
  no_head u fails = refuses kinds.Create 2 f IsCreation (λ c is. (refl, is)) (only_create f) u (by_cases u fails)
    where
      by_cases : (u : Unread) → Fails u (all_of (creation_at f)) → Refuses IsCreation u
      by_cases NoMemory fails = _
      by_cases NotARecord fails = λ c is. none_is _ (sym fails ∙ head_of c is)

  module _ (id text : List ℕ) (given : all_of (creation_at f) ≡ Some (id, text)) where
    abbrev IsOf : TaskDef → Type 0
    IsOf def = IsDefinitionText (record { id = id; definition = def }) text

    pub id_is : IsBytes f → IsUuid4 id
    id_is fits = (all_takes _ _ creation_at spells_creation f (id, text) fits given).0.0

    head_is : (c : Creation) (is : IsCreation c) → (id ≡ c.id) × (text ≡ is.1.0)
    head_is c is = some_pair_parts id c.id text is.1.0 (sym given ∙ head_of c is)

    of : (c : Creation) → IsCreation c → IsOf c.definition
    of c is =
        let same = head_is c is in
        let its_text : IsDefinitionText c text = subst (IsDefinitionText c) (sym same.1) is.1.1 in
        subst (λ i. IsDefinitionText (record { id = i; definition = c.definition }) text) (sym same.0) its_text

    pub no_definition : (u : Unread) → Refuses IsOf u → Refuses (IsKind 2 f) u
    no_definition u none = refuses kinds.Create 2 f IsCreation (λ c is. (refl, is)) (only_create f) u (by_cases u none)
      where
        by_cases : (u : Unread) → Refuses IsOf u → Refuses IsCreation u
        by_cases NoMemory none = _
        by_cases NotARecord none = λ c is. none c.definition (of c is)

    pub is_creation : IsBytes f → (def : TaskDef) → Reads IsOf (Ok def) → Reads (IsKind 2 f) (Ok (kinds.Create (record { id = id; definition = def })))
    is_creation fits def read =
        let t = all_takes _ _ creation_at spells_creation f (id, text) fits given in
        makes kinds.Create 2 f IsCreation (λ c is. (refl, is)) (only_create f) (record { id = id; definition = def })
        ((t.0.0, (text, read.0, t.1)), λ c is. ap (λ i. record { id = i; definition = def }) (head_is c is).0 ∙ ap (λ d. record { id = c.id; definition = d }) (read.1 c.definition (of c is)))
