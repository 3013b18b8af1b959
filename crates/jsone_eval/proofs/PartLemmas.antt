-- The last value, and one more of a list or a map.
use Rattle.std.proofs.Common.{◌≡◌, ℕ, ◌-◌, ◌<◌, List, [], ◌∷◌, ◌++◌, length, map, reverse, get_or, Some, None, refl, ap, ◌∙◌, arith, rules, String, Global, string_bytes}
use Rattle.std.specs.List.{slice_get}
use Rattle.std.proofs.lemmas.List.{map-append, length-map, get_or-map, get_or-reverse}
use Rattle.std.proofs.lemmas.Option.{slice_get_within, slice_get-get_or, get_or_from_slice_get}
use Rattle.farm_text.specs.Document.{Document, null}
use Rattle.farm_text.specs.Doc.{document, documents, entries_of}
use Rattle.farm_text.specs.declared.doc.Doc.{Doc, the_lemmas}
use Rattle.farm_text.specs.declared.doc.Doc.TheVariants.{Null as null_doc}
use Rattle.jsone_eval.specs.Machine.{top}

pub document-Null : document null_doc ≡ null
document-Null = search (rules, the_lemmas)

top_first : (ds : List Document) → top ds ≡ get_or ds 0 null
top_first [] = refl
top_first (d ∷ ds) = refl

pub top_is_last : (xs : List Doc) (x : Doc) → slice_get xs (length xs - 1) ≡ Some x → top (reverse (documents xs)) ≡ document x
top_is_last xs x e =
    let within = slice_get_within xs (length xs - 1) x e in
    let some : 0 < length (documents xs) = omega (arith, within, length-map xs document) in
    let place : length (documents xs) - 1 - 0 ≡ length xs - 1 = omega (arith, length-map xs document) in
    top_first (reverse (documents xs))
    ∙ get_or-reverse (documents xs) 0 null some
    ∙ ap (λ k. get_or (documents xs) k null) place
    ∙ get_or-map document xs (length xs - 1) x null within
    ∙ ap document (get_or_from_slice_get xs (length xs - 1) x x e)

pub top_is_null : (xs : List Doc) → slice_get xs (length xs - 1) ≡ None → top (reverse (documents xs)) ≡ null
top_is_null [] e = refl
top_is_null (x ∷ xs) e =
    let there = slice_get-get_or (x ∷ xs) (length (x ∷ xs) - 1) x (omega arith) in
    absurd (cc)

abbrev valued : String Global × Doc → String Global × Document
valued m = (m.0, document m.1)

abbrev spelled : String Global × Document → List ℕ × Document
spelled m = (string_bytes m.0, m.1)

pub entries_of-append : (xs ys : List (String Global × Doc)) → entries_of (xs ++ ys) ≡ entries_of xs ++ entries_of ys
entries_of-append xs ys = ap (map spelled) (map-append valued xs ys) ∙ map-append spelled (map valued xs) (map valued ys)
