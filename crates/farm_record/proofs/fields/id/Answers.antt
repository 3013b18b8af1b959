use Rattle.std.proofs.Common.{refl, sym, ◌∙◌, subst}
use Rattle.std.proofs.lemmas.Bool.{false≢true}
use Rattle.farm_text.specs.Slug.{IsUuid4}
use Rattle.farm_record.proofs.FieldLemmas.{id_in-again, id_in-none}
use Rattle.farm_record.proofs.fields.id.Goals as goal

pub returns-in-Some : goal.returns-in-Some
returns-in-Some c =
    let copied = c.copy_from_slice.ensures.after in
    id_in-again c.args.bytes.now c.in-Some.id (subst IsUuid4 copied (c.in-Some.ensures.valid.0 refl)) (c.in-Some.ensures.value ∙ copied)

pub returns-in-None : goal.returns-in-None
returns-in-None c =
    let copied = c.copy_from_slice.ensures.after in
    id_in-none c.args.bytes.now (λ u. false≢true (c.in-None.ensures.valid.1 (subst IsUuid4 (sym copied) u)))
