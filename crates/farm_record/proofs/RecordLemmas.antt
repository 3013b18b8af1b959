-- A record is read where its number, its moment and its fields are.
use Rattle.std.proofs.Common.{◌≡◌, ℕ, List, ◌∷◌, ◌++◌, Some, None, Ok, refl, sym, ap, subst, ◌∙◌}
use Rattle.std.specs.Prelude.{◌↔◌}
use Rattle.std.specs.Int.{w64}
use Rattle.std.proofs.lemmas.Option.{some_pair_parts, same_Some}
use Rattle.task_types.specs.declared.change.Change.{Change}
use Rattle.task_types.specs.declared.change.Kind.{Kind}
use Rattle.farm_record.specs.declared.unread.Unread.{Unread}
use Rattle.farm_record.specs.declared.unread.Unread.TheVariants.{NotARecord, NoMemory}
use Rattle.farm_record.specs.Fields.{moment_text}
use Rattle.farm_record.specs.Records.{kind_number, HasFields, IsRecord, IsDefinitionText}
use Rattle.farm_record.specs.Reading.{Fails, Refuses, Reads, byte_at, number_at, moment_in, moment_at, IsKind}
use Rattle.farm_record.proofs.FieldLemmas.{IsBytes, spells_byte, spells_moment}
use Rattle.farm_record.proofs.PartLemmas.{none_is}

-- a moment is a number that is one
moment_by : (bytes rest : List ℕ) (n m : ℕ) → number_at w64 bytes ≡ Some (n, rest) → moment_in n ≡ Some m → moment_at bytes ≡ Some (m, rest)
unfolding moment_at
moment_by bytes rest n m e f = rw (e, f) refl

no_number : (bytes : List ℕ) → number_at w64 bytes ≡ None → moment_at bytes ≡ None
unfolding moment_at
no_number bytes e = rw e refl

no_moment : (bytes rest : List ℕ) (n : ℕ) → number_at w64 bytes ≡ Some (n, rest) → moment_in n ≡ None → moment_at bytes ≡ None
unfolding moment_at
no_moment bytes rest n e f = rw (e, f) refl

abbrev IsOf : List ℕ → Change → Type 0
IsOf bytes change = IsRecord change bytes

module _ (bytes : List ℕ) where
  number_of : (c : Change) (r : IsRecord c bytes) → byte_at bytes ≡ Some (kind_number c.kind, moment_text c.at ++ r.fields)
  unfolding byte_at
  number_of c r = ap byte_at r.is

  moment_of : (c : Change) (r : IsRecord c bytes) → moment_at (moment_text c.at ++ r.fields) ≡ Some (c.at, r.fields)
  moment_of c r = spells_moment.again c.at r.fields r.moment

  pub fails_byte : (u : Unread) → Fails u (byte_at bytes) → Refuses (IsOf bytes) u
  fails_byte NoMemory f = _
  fails_byte NotARecord f = λ c r. none_is _ (sym f ∙ number_of c r)

  module _ (number : ℕ) (rest : List ℕ) (first : byte_at bytes ≡ Some (number, rest)) where
    head : (c : Change) (r : IsRecord c bytes) → (number ≡ kind_number c.kind) × (rest ≡ moment_text c.at ++ r.fields)
    head c r = some_pair_parts number (kind_number c.kind) rest (moment_text c.at ++ r.fields) (sym first ∙ number_of c r)

    moment_is : (c : Change) (r : IsRecord c bytes) → moment_at rest ≡ Some (c.at, r.fields)
    moment_is c r = ap moment_at (head c r).1 ∙ moment_of c r

    pub fails_number : (u : Unread) → Fails u (number_at w64 rest) → Refuses (IsOf bytes) u
    fails_number NoMemory f = _
    fails_number NotARecord f = λ c r. none_is _ (sym (no_number rest f) ∙ moment_is c r)

    module _ (millis : ℕ) (fields : List ℕ) (second : number_at w64 rest ≡ Some (millis, fields)) where
      pub fails_moment : (u : Unread) → Fails u (moment_in millis) → Refuses (IsOf bytes) u
      fails_moment NoMemory f = _
      fails_moment NotARecord f = λ c r. none_is _ (sym (no_moment rest fields millis second f) ∙ moment_is c r)

      module _ (at : ℕ) (third : moment_in millis ≡ Some at) where
        whole : moment_at rest ≡ Some (at, fields)
        whole = moment_by rest fields millis at second third

        tail : (c : Change) (r : IsRecord c bytes) → (at ≡ c.at) × (fields ≡ r.fields)
        tail c r = some_pair_parts at c.at fields r.fields (sym whole ∙ moment_is c r)

        kind_of : (c : Change) (r : IsRecord c bytes) → IsKind number fields c.kind
        kind_of c r = ((head c r).0, subst (HasFields IsDefinitionText c.kind) (sym (tail c r).1) r.has)

        pub fails_kind : (u : Unread) → Refuses (IsKind number fields) u → Refuses (IsOf bytes) u
        fails_kind NoMemory f = _
        fails_kind NotARecord f = λ c r. f c.kind (kind_of c r)

        pub is_record : IsBytes bytes → (kind : Kind) → Reads (IsKind number fields) (Ok kind) → Reads (IsOf bytes) (Ok (record { at = at; kind = kind }))
        is_record fits kind read =
            let b = spells_byte.takes bytes number rest fits first in
            let m = spells_moment.takes rest at fields b.0.rest_fits whole in
            let is : bytes ≡ kind_number kind ∷ (moment_text at ++ fields) = b.0.parts ∙ ap (λ n. n ∷ rest) read.0.0 ∙ ap (λ (l : List ℕ). kind_number kind ∷ l) m.0.parts in (
              record { moment = m.1; fields = fields; has = read.0.1; is = is },
              λ c r. ap (λ m. record { at = m; kind = kind }) (tail c r).0 ∙ ap (λ k. record { at = c.at; kind = k }) (read.1 c.kind (kind_of c r)),
            )

-- what a call finds, said both ways
pub found : (bytes : List ℕ) (c : Change) → Reads (IsOf bytes) (Ok c) → (other : Change) → (Some c ≡ Some other) ↔ IsRecord other bytes
found bytes c read other = (λ e. subst (λ (x : Change). IsRecord x bytes) (same_Some c other e) read.0, λ r. ap Some (read.1 other r))

pub nothing : (bytes : List ℕ) → Refuses (IsOf bytes) NotARecord → (other : Change) → (None ≡ Some other) ↔ IsRecord other bytes
nothing bytes none other = (λ e. absurd (none_is other e), λ r. absurd (none other r))
