use Rattle.std.proofs.Common.{◌∙◌, sym, ap, subst, Err}
use Rattle.std.proofs.lemmas.Bool.{false≢true}
use Rattle.farm_text.specs.Doc.{document}
use Rattle.task_defs.specs.Faults.{Refuses}
use Rattle.task_defs.specs.Definitions.{rules}
use Rattle.farm_record.proofs.DefinitionLemmas.{not_json, not_whole, faulty, other_text, is_read}
use Rattle.farm_record.proofs.definition.definition.Goals as goal

pub returns-in-Err-NotJson : goal.returns-in-Err-NotJson
returns-in-Err-NotJson c = not_json c.args.text.now c.args.id (c.in-Err-NotJson.ensures.not_json (ap Err c.in-Err-NotJson.field-0-is))

pub returns-in-Err-NotWhole : goal.returns-in-Err-NotWhole
returns-in-Err-NotWhole c =
    let path = c.in-Err-NotWhole.field-0-0 in
    not_whole c.args.text.now c.args.id path (c.in-Err-NotWhole.ensures.not_whole path (ap Err c.in-Err-NotWhole.field-0-is))

pub returns-in-Err-Fault : goal.returns-in-Err-Fault
returns-in-Err-Fault c =
    let d = document c.in-Ok.doc in
    faulty c.args.text.now c.args.id c.a_text_is_of_one_document.ensures d c.in-Ok.ensures.document c.the_fault_is_one.ensures.none c.in-Err-Fault.field-0-0
    (subst (Refuses (rules d c.args.id)) c.in-Err-Fault.field-0-is c.in-Err-Fault.ensures)

pub returns-then-is_same : goal.returns-then-is_same
returns-then-is_same c =
    let d = document c.in-Ok.doc in
    let read = c.in-Ok-read_task in
    let same = sym c.as_bytes.ensures.bytes ∙ c.is_same.ensures.0 c.if-is_same.true in
    is_read c.args.text.now c.args.id c.a_text_is_of_one_document.ensures d c.in-Ok.ensures.document read.def read.ensures.0 read.ensures.1 c.in-Ok-full_text_of.full c.in-Ok-full_text_of.ensures
    c.a_full_form_says_its_definition.ensures c.requires same

pub returns-in-Ok-full_text_of : goal.returns-in-Ok-full_text_of
returns-in-Ok-full_text_of c =
    let d = document c.in-Ok.doc in
    let read = c.in-Ok-read_task in
    other_text c.args.text.now c.args.id c.a_text_is_of_one_document.ensures d c.in-Ok.ensures.document read.def read.ensures.0 read.ensures.1 c.in-Ok-full_text_of.full c.in-Ok-full_text_of.ensures
    c.the_full_form_is_one.ensures (λ same. false≢true (sym c.if-is_same.false ∙ c.is_same.ensures.1 (c.as_bytes.ensures.bytes ∙ same)))
