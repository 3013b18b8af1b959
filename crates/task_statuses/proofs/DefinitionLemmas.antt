-- The full form of a definition has the texts of its moments.
use Rattle.std.proofs.Common.{◌≡◌, ◌≤◌, List, ◌++◌, Result, OnOk, refl, ap, ◌∙◌}
use Rattle.std.proofs.lemmas.Result.{on_ok_weaker}
use Rattle.json.specs.Token.{Token}
use Rattle.farm_text.specs.Document.{Document}
use Rattle.task_defs.specs.Definitions.{IsFullForm}
use Rattle.task_defs.specs.Writing.{IsWritten}
use Rattle.task_types.specs.declared.task_def.TaskDef.{TaskDef}
use Rattle.task_statuses.specs.Calendar.{moment_text}
use Rattle.task_statuses.specs.Statuses.{definition_of}
use Rattle.task_statuses.specs.Tokens.{tokens_of}
use Rattle.task_statuses.proofs.MemberLemmas.{text_counted}

-- a full form is the one that tells each moment by its text
pub full-form-is : (def : TaskDef) (d : Document) → def.created ≤ 253_402_300_799_999 → def.deadline ≤ 253_402_300_799_999 → def.expires ≤ 253_402_300_799_999 → IsFullForm def d → d ≡ definition_of def
full-form-is def d created deadline expires form =
    let a : form.created ≡ moment_text def.created = text_counted def.created form.created created form.created_text in
    let b : form.deadline ≡ moment_text def.deadline = text_counted def.deadline form.deadline deadline form.deadline_text in
    let c : form.expires ≡ moment_text def.expires = text_counted def.expires form.expires expires form.expires_text in
    form.is ∙ rw (a, b, c) refl

-- what is written of a full form is written of that one
pub full-form-written : {E : Type 0} (def : TaskDef) (r : Result (Unit {0}) E) (old new : List Token) → def.created ≤ 253_402_300_799_999 → def.deadline ≤ 253_402_300_799_999 → def.expires ≤ 253_402_300_799_999
    → OnOk r ((full : Document) × IsFullForm def full × IsWritten full old new) → OnOk r (new ≡ old ++ tokens_of (definition_of def))
full-form-written def r old new created deadline expires written =
    on_ok_weaker r (λ w. w.2.tokens ∙ ap (λ (d : Document). old ++ tokens_of d) (full-form-is def w.0 created deadline expires w.1)) written
