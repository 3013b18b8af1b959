-- What is joined of a list.
use Rattle.std.proofs.Common.{◌≡◌, ℕ, ℤ, ◌+◌, ◌<◌, Bool, true, false, if◌then◌else◌, List, length, Result, Ok, Err, refl, sym, ap, ap₂, ◌∙◌, rules, arith, Vec, Global}
use Rattle.std.specs.List.{list_all, join_by}
use Rattle.farm_text.specs.Document.{Document, whole, text}
use Rattle.farm_text.specs.Doc.{document, documents}
use Rattle.farm_text.specs.declared.doc.Doc.{Doc, the_lemmas}
use Rattle.farm_text.specs.declared.doc.Doc.TheVariants.{Int as int_doc, Text as text_doc, List as list_doc}
use Rattle.farm_text.proofs.DocLemmas.{document-List}
use Rattle.jsone_values.specs.declared.faults.Fault.{Fault}
use Rattle.jsone_values.specs.declared.faults.Fault.TheVariants.{WrongKind}
use Rattle.jsone_values.specs.Lists.{is_part, part_text, joined}
use Rattle.jsone_values.specs.Weights.{weight}
use Rattle.jsone_values.proofs.MemberLemmas.{listed_items}

pub document-Text : (t : List ℕ) → document (text_doc t) ≡ text t
document-Text t = search (rules, the_lemmas)

pub document-Int : (z : ℤ) → document (int_doc z) ≡ whole z
document-Int z = search (rules, the_lemmas)

abbrev joined_if : Bool → List ℕ → List Document → Result Document Fault
joined_if b sep ds = if b then Ok (text (join_by part_text sep ds)) else Err WrongKind

join_is : (parts sep : Doc) (v : Vec Doc Global) (t : List ℕ) (b : Bool) → parts ≡ list_doc v → sep ≡ text_doc t → list_all is_part (documents v.items) ≡ b → joined (document parts) (document sep) ≡ joined_if b t (documents v.items)
join_is parts sep v t b e f is =
    ap₂ joined (ap document e ∙ document-List v) (ap document f ∙ document-Text t)
    ∙ ap (λ ds. joined_if (list_all is_part ds) t ds) (listed_items (documents v.items))
    ∙ ap (λ x. joined_if x t (documents v.items)) is

pub no_parts : (parts sep : Doc) (v : Vec Doc Global) (t : List ℕ) → parts ≡ list_doc v → sep ≡ text_doc t → list_all is_part (documents v.items) ≡ false → Err WrongKind ≡ joined (document parts) (document sep)
no_parts parts sep v t e f is = sym (join_is parts sep v t false e f is)

pub parts_joined : (parts sep : Doc) (v : Vec Doc Global) (t bs : List ℕ) → parts ≡ list_doc v → sep ≡ text_doc t → list_all is_part (documents v.items) ≡ true → bs ≡ join_by part_text t (documents v.items) → Ok (document (text_doc bs)) ≡ joined (document parts) (document sep)
parts_joined parts sep v t bs e f is h = ap Ok (document-Text bs ∙ ap text h) ∙ sym (join_is parts sep v t true e f is)

pub parts_too_long : (parts sep : Doc) (v : Vec Doc Global) (t : List ℕ) (most : ℕ) → parts ≡ list_doc v → sep ≡ text_doc t → list_all is_part (documents v.items) ≡ true → most < length (join_by part_text t (documents v.items)) → (x : Document) × (Ok x ≡ joined (document parts) (document sep)) × (most < weight x)
parts_too_long parts sep v t most e f is h = (text (join_by part_text t (documents v.items)), sym (join_is parts sep v t true e f is), omega (arith, h))
