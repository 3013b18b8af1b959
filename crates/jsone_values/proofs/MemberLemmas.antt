-- The members of a list's value are what its items stand for.
use Rattle.std.proofs.Common.{◌≡◌, ℕ, ℤ, pos, negsuc, ◌+◌, ◌-◌, Bool, true, false, cond, nat_lt, List, [], ◌∷◌, length, get_or, Some, None, Result, Ok, Err, refl, sym, ap, ◌∙◌, subst, Vec, Global, ◌<◌, arith}
use Rattle.std.specs.Option.{option_and_then, option_map}
use Rattle.std.specs.List.{slice_get}
use Rattle.std.proofs.lemmas.Bool.{ltb-true}
use Rattle.std.proofs.lemmas.List.{length-map}
use Rattle.std.proofs.lemmas.Option.{slice_get-get_or, slice_get-map}
use Rattle.farm_text.specs.Document.{Document, array, items_of}
use Rattle.farm_text.specs.Doc.{document, documents}
use Rattle.farm_text.specs.declared.doc.Doc.{Doc}
use Rattle.farm_text.specs.declared.doc.Doc.TheVariants.{List as list_doc}
use Rattle.farm_text.proofs.DocLemmas.{document-List}
use Rattle.jsone_values.specs.declared.faults.Fault.{Fault}
use Rattle.jsone_values.specs.declared.faults.Fault.TheVariants.{NoMember}
use Rattle.jsone_values.specs.Places.{place_of}
use Rattle.jsone_values.specs.Members.{listed, found, item_of}
use Rattle.jsone_values.specs.Numbers.{IsInRange}
use Rattle.jsone_values.specs.Builtins.{IsLengthOf}

pub listed_items : (ds : List Document) → listed (items_of ds) ≡ ds
listed_items [] = refl
listed_items (d ∷ ds) = ap (λ l. d ∷ l) (listed_items ds)

abbrev looked_up : ℤ → List Document → Result Document Fault
looked_up index ds = found (option_and_then (slice_get ds) (place_of index (length ds)))

item_is : (index : ℤ) (value : Doc) (v : Vec Doc Global) → value ≡ list_doc v → item_of index (document value) ≡ looked_up index (documents v.items)
item_is index value v e = ap (item_of index) (ap document e ∙ document-List v) ∙ ap (looked_up index) (listed_items (documents v.items))

get_mapped : (ds : List Doc) (k : ℕ) (x : Doc) → k < length ds → x ≡ get_or ds k x → slice_get (documents ds) k ≡ Some (document x)
get_mapped ds k x h e = slice_get-map document ds k ∙ ap (option_map document) (slice_get-get_or ds k x h ∙ ap Some (sym e))

-- a place is among the members
place_within : (index : ℤ) (count k : ℕ) → place_of index count ≡ Some k → k < count
place_within (pos n) count k e = by_test (nat_lt n count) (ltb-true n count) e
  where
    by_test : (c : Bool) → (c ≡ true → n < count) → cond c (Some n) None ≡ Some k → k < count
    by_test true h d = let same : n ≡ k = cc in omega (arith, h refl, same)
    by_test false h d = absurd (cc)
place_within (negsuc n) count k e = by_test (nat_lt n count) (ltb-true n count) e
  where
    by_test : (c : Bool) → (c ≡ true → n < count) → cond c (Some (count - (n + 1))) None ≡ Some k → k < count
    by_test true h d = let same : count - (n + 1) ≡ k = cc in omega (arith, h refl, same)
    by_test false h d = absurd (cc)

pub item_found : (index : ℤ) (value : Doc) (v : Vec Doc Global) (k n : ℕ) (x : Doc) → value ≡ list_doc v → n ≡ length v.items → place_of index n ≡ Some k → x ≡ get_or v.items k x → item_of index (document value) ≡ Ok (document x)
item_found index value v k n x e size p g =
    let same : length (documents v.items) ≡ n = length-map v.items document ∙ sym size in
    item_is index value v e ∙ ap (λ m. found (option_and_then (slice_get (documents v.items)) (place_of index m))) same ∙ ap (λ o. found (option_and_then (slice_get (documents v.items)) o)) p ∙ ap found (get_mapped v.items k x (omega (arith, place_within index n k p, size)) g)

pub item_none : (index : ℤ) (value : Doc) (v : Vec Doc Global) (n : ℕ) → value ≡ list_doc v → n ≡ length v.items → place_of index n ≡ None → item_of index (document value) ≡ Err NoMember
item_none index value v n e size p =
    let same : length (documents v.items) ≡ n = length-map v.items document ∙ sym size in
    item_is index value v e ∙ ap (λ m. found (option_and_then (slice_get (documents v.items)) (place_of index m))) same ∙ ap (λ o. found (option_and_then (slice_get (documents v.items)) o)) p

pub list_length : (value : Doc) (v : Vec Doc Global) (n : ℕ) (r : Result ℤ Fault) → value ≡ list_doc v → n ≡ length v.items → IsInRange (pos n) r → IsLengthOf (document value) r
list_length value v n r e h i =
    let seen : document value ≡ array (items_of (documents v.items)) = ap document e ∙ document-List v in
    let size : n ≡ length (listed (items_of (documents v.items))) = h ∙ sym (length-map v.items document) ∙ ap length (sym (listed_items (documents v.items))) in
    subst (λ d. IsLengthOf d r) (sym seen) (subst (λ k. IsInRange (pos k) r) size i)
