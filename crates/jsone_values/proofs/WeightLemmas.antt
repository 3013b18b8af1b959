-- What is weighed when nothing is left.
use Rattle.std.proofs.Common.{◌≡◌, ℕ, ◌+◌, ◌≤◌, min, List, [], length, drop, ap, arith}
use Rattle.std.proofs.lemmas.List.{drop_all}
use Rattle.farm_text.specs.Document.{items_of, members_of}
use Rattle.farm_text.specs.Doc.{documents, entries_of}
use Rattle.farm_text.specs.declared.doc.Doc.{Doc}
use Rattle.farm_text.proofs.DocLemmas.{Entry}
use Rattle.jsone_values.specs.Weights.{items_weight, members_weight}

abbrev weight_in : List Doc → ℕ
weight_in ds = items_weight (items_of (documents ds))

pub items_done : (ds es : List Doc) (i total : ℕ) → ds ≡ es → length ds ≤ i → min (total + weight_in (drop i ds)) 18446744073709551615 ≡ min (weight_in ds) 18446744073709551615 → total ≤ 18446744073709551615 → total ≡ min (weight_in es) 18446744073709551615
items_done ds es i total e h whole small =
    let nothing : weight_in (drop i ds) ≡ 0 = ap weight_in (drop_all i ds h) in
    let same : weight_in ds ≡ weight_in es = ap weight_in e in
    omega arith

abbrev weight_of_entries : List Entry → ℕ
weight_of_entries es = members_weight (members_of (entries_of es))

pub members_done : (left all : List Entry) (total : ℕ) → left ≡ [] → min (total + weight_of_entries left) 18446744073709551615 ≡ min (weight_of_entries all) 18446744073709551615 → total ≤ 18446744073709551615 → total ≡ min (weight_of_entries all) 18446744073709551615
members_done left all total e whole small =
    let nothing : weight_of_entries left ≡ 0 = ap weight_of_entries e in
    omega arith
