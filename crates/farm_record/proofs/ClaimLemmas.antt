-- A claim is read where its parts are, and its worker's texts are identifiers.
use Rattle.std.proofs.Common.{◌≡◌, ℕ, ◌<◌, List, length, get_or, Some, Ok, refl, sym, ap, ◌∙◌, arith, inl, inr}
use Rattle.std.specs.Str.{IsUtf8}
use Rattle.std.proofs.lemmas.Str.{IsUtf8-from_ascii}
use Rattle.std.proofs.lemmas.Bool.{cases_lt}
use Rattle.std.proofs.lemmas.List.{get_or_past}
use Rattle.task_types.specs.Forms.{IsIdentifier, IsIdentifierByte}
use Rattle.task_types.specs.declared.change.Claim.{Claim}
use Rattle.task_types.specs.declared.change.RunName.{RunName}
use Rattle.farm_record.specs.declared.unread.Unread.{Unread}
use Rattle.farm_record.specs.declared.unread.Unread.TheVariants.{NotARecord, NoMemory}
use Rattle.farm_record.specs.Fields.{IsClaim, claim_text}
use Rattle.farm_record.specs.Reading.{Fails, Refuses, Reads, all_of, claim_at}
use Rattle.farm_record.proofs.FieldLemmas.{IsBytes, some_is}
use Rattle.farm_record.proofs.PartLemmas.{none_is, spells_claim, all_takes, all_again}

abbrev Parts : Type 0
Parts = ℕ × (List ℕ × (List ℕ × List RunName))

abbrev parts_of : Claim → Parts
parts_of c = (c.taken_until, (c.worker_group, (c.worker_id, c.runs)))

module _ (bytes : List ℕ) where
  -- the parts of a claim whose text the bytes are
  pub claim_parts-again : (c : Claim) → IsClaim c → bytes ≡ claim_text c → all_of (claim_at bytes) ≡ Some (parts_of c)
  claim_parts-again c is e =
      all_again _ _ claim_at spells_claim bytes (parts_of c) ((is.0, (omega (arith, is.1.short), (omega (arith, is.2.short), is.3))), e)

  pub no_claim : (u : Unread) → Fails u (all_of (claim_at bytes)) → Refuses (λ c. IsClaim c × (bytes ≡ claim_text c)) u
  no_claim NoMemory f = _
  no_claim NotARecord f = λ c is. none_is (parts_of c) (sym f ∙ claim_parts-again c is.0 is.1)

  module _ (parts : Parts) (given : all_of (claim_at bytes) ≡ Some parts) where
    parts_are : (c : Claim) → IsClaim c × (bytes ≡ claim_text c) → parts ≡ parts_of c
    parts_are c is = some_is parts (parts_of c) (sym given ∙ claim_parts-again c is.0 is.1)

    pub bad_group : (u : Unread) → Refuses (λ i. IsIdentifier i × (i ≡ parts.1.0)) u → Refuses (λ c. IsClaim c × (bytes ≡ claim_text c)) u
    bad_group NoMemory f = _
    bad_group NotARecord f = λ c is. f c.worker_group (is.0.1, sym (ap (λ (p : Parts). p.1.0) (parts_are c is)))

    pub bad_worker : (u : Unread) → Refuses (λ i. IsIdentifier i × (i ≡ parts.1.1.0)) u → Refuses (λ c. IsClaim c × (bytes ≡ claim_text c)) u
    bad_worker NoMemory f = _
    bad_worker NotARecord f = λ c is. f c.worker_id (is.0.2, sym (ap (λ (p : Parts). p.1.1.0) (parts_are c is)))

    pub is_claim : IsBytes bytes → (c : Claim) → c.taken_until ≡ parts.0 → c.runs ≡ parts.1.1.1 → IsIdentifier c.worker_group × (c.worker_group ≡ parts.1.0) → IsIdentifier c.worker_id × (c.worker_id ≡ parts.1.1.0)
        → Reads (λ c. IsClaim c × (bytes ≡ claim_text c)) (Ok c)
    is_claim fits c taken runs group worker =
        let same : parts ≡ parts_of c = sym (rw (taken, runs, group.1, worker.1) refl) in
        let t = all_takes _ _ claim_at spells_claim bytes (parts_of c) fits (given ∙ ap (λ (p : Parts). Some p) same) in (
          ((t.0.0, group.0, worker.0, t.0.1.1.1), t.1),
          λ b is. ap (λ (p : Parts). record { taken_until = p.0; worker_group = p.1.0; worker_id = p.1.1.0; runs = p.1.1.1 }) (sym same ∙ parts_are b is),
        )

-- an identifier is ASCII, and so UTF-8
identifier_byte : (b : ℕ) → IsIdentifierByte b → b < 128
identifier_byte b is = grind (arith, is)

pub identifier_utf8 : (text : List ℕ) → IsIdentifier text → IsUtf8 text
identifier_utf8 text is =
    IsUtf8-from_ascii text (λ k. elim (cases_lt k (length text)) [
      | inl lt ↦ identifier_byte (get_or text k 0) (is.bytes k 0 lt)
      | inr le ↦ rw (get_or_past text k 0 le) (omega arith)
    ])
