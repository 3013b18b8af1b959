-- A list or a map is true where it has members.
use Rattle.std.proofs.Common.{◌≡◌, ℕ, suc, Bool, true, false, not, ◌==◌, List, [], ◌∷◌, length, refl, sym, ap, ◌∙◌, String, Global, Vec, BTreeMap, arith}
use Rattle.std.proofs.lemmas.Bool.{ne_eqb}
use Rattle.std.proofs.lemmas.List.{length-map}
use Rattle.farm_text.specs.Document.{Document, array, object, items_of, members_of}
use Rattle.farm_text.specs.Doc.{document, documents, entries_of}
use Rattle.farm_text.specs.declared.doc.Doc.{Doc}
use Rattle.farm_text.specs.declared.doc.Doc.TheVariants.{List as list_doc, Map as map_doc}
use Rattle.farm_text.proofs.DocLemmas.{Entry, document-List, document-Map}
use Rattle.jsone_values.specs.Truth.{is_true}

items_truth : (ds : List Document) (n : ℕ) → n ≡ length ds → not (n == 0) ≡ is_true (array (items_of ds))
items_truth [] n e = ap (λ k. not (k == 0)) e
items_truth (d ∷ ds) n e = ap not (ne_eqb n 0 (λ z. omega (arith, e, z)))

pub list_truth : (value : Doc) (v : Vec Doc Global) (b : Bool) → value ≡ list_doc v → b ≡ (v.len == 0) → v.len ≡ length v.items → not b ≡ is_true (document value)
list_truth value v b e h l =
    ap not h ∙ items_truth (documents v.items) v.len (l ∙ sym (length-map v.items document)) ∙ ap is_true (sym (document-List v) ∙ ap document (sym e))

members_truth : (ms : List (List ℕ × Document)) (b : Bool) → (b ≡ true → length ms ≡ 0) → (length ms ≡ 0 → b ≡ true) → not b ≡ is_true (object (members_of ms))
members_truth [] true h k = refl
members_truth [] false h k = ap not (k refl)
members_truth (m ∷ ms) true h k = let z = h refl in absurd (omega (arith, z))
members_truth (m ∷ ms) false h k = refl

entries_length : (es : List Entry) → length (entries_of es) ≡ length es
entries_length [] = refl
entries_length (e ∷ es) = ap suc (entries_length es)

pub map_truth : (value : Doc) (m : BTreeMap (String Global) Doc) (b : Bool) → value ≡ map_doc m → (b ≡ true → length m.entries ≡ 0) → (length m.entries ≡ 0 → b ≡ true) → not b ≡ is_true (document value)
map_truth value m b e h k =
    members_truth (entries_of m.entries) b (λ t. entries_length m.entries ∙ h t) (λ z. k (sym (entries_length m.entries) ∙ z)) ∙ ap is_true (sym (document-Map m) ∙ ap document (sym e))
