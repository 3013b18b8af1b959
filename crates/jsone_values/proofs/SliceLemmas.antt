-- A slice of documents is that of what they stand for.
use Rattle.std.proofs.Common.{◌≡◌, ℕ, ℤ, ◌-◌, List, length, take, drop, Option, Result, Ok, Err, IfOk, sym, ap, ◌∙◌, Vec, Global}
use Rattle.std.specs.declared.alloc.AllocError.{AllocError}
use Rattle.std.proofs.lemmas.List.{length-map, take-map, drop-map}
use Rattle.farm_text.specs.Document.{array, items_of}
use Rattle.farm_text.specs.Doc.{document, documents}
use Rattle.farm_text.specs.declared.doc.Doc.{Doc}
use Rattle.farm_text.specs.declared.doc.Doc.TheVariants.{List as list_doc}
use Rattle.farm_text.proofs.DocLemmas.{document-List}
use Rattle.jsone_values.proofs.MemberLemmas.{listed_items}
use Rattle.jsone_values.specs.Slices.{start_of, end_of, between, slice_of}

between_mapped : (from to : Option ℤ) (ds : List Doc) (s e : ℕ) → s ≡ start_of from (length ds) → e ≡ end_of to (length ds) → documents (take (e - s) (drop s ds)) ≡ between from to (documents ds)
between_mapped from to ds s e h k =
    let start : s ≡ start_of from (length (documents ds)) = h ∙ ap (start_of from) (sym (length-map ds document)) in
    let end : e ≡ end_of to (length (documents ds)) = k ∙ ap (end_of to) (sym (length-map ds document)) in
    sym (take-map document (e - s) (drop s ds))
    ∙ ap (take (e - s)) (sym (drop-map document s ds))
    ∙ ap (λ n. take (n - s) (drop s (documents ds))) end
    ∙ ap (λ n. take (end_of to (length (documents ds)) - n) (drop n (documents ds))) start

pub copies_between : (r : Result (Vec Doc Global) AllocError) (from to : Option ℤ) (ds part : List Doc) (s e : ℕ) → IfOk r (λ v. documents v.items ≡ documents part) → part ≡ take (e - s) (drop s ds) → s ≡ start_of from (length ds) → e ≡ end_of to (length ds) → IfOk r (λ v. documents v.items ≡ between from to (documents ds))
copies_between (Ok v) from to ds part s e c p h k = c ∙ ap documents p ∙ between_mapped from to ds s e h k
copies_between (Err x) from to ds part s e c p h k = c

pub slice_list : (from to : Option ℤ) (value : Doc) (v part : Vec Doc Global) (ds : List Doc) → value ≡ list_doc v → ds ≡ v.items → documents part.items ≡ between from to (documents ds) → slice_of from to (document value) ≡ Ok (document (list_doc part))
slice_list from to value v part ds e d h =
    ap (slice_of from to) (ap document e ∙ document-List v)
    ∙ ap (λ l. Ok (array (items_of (between from to l)))) (listed_items (documents v.items) ∙ ap documents (sym d))
    ∙ ap (λ l. Ok (array (items_of l))) (sym h)
    ∙ ap Ok (sym (document-List part))
