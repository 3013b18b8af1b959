-- A value of serde_json beside the document that is made of it, level by level.
use Rattle.std.proofs.Common.{◌≡◌, ℕ, suc, ◌+◌, ◌≤◌, List, [], ◌∷◌, ◌++◌, length, get_or, drop, map, String, Global, Less, Greater, string_bytes, string_cmp, refl, sym, ap, ◌∙◌, arith}
use Rattle.std.proofs.lemmas.Cmp.{nat_list_cmp_total}
use Rattle.std.specs.List.{AllByRecursion}
use Rattle.std.specs.List.Sorted.{IsStrictlySortedBy}
use Rattle.std.specs.Map.{keys_of}
use Rattle.std.specs.Ordering.{ordering_reverse}
use Rattle.std.specs.BTreeMap.{insert_entry}
use Rattle.serde_json.specs.Data.{Data, null, boolean, number, string, array, object, Items, no_items, item, Members, no_members, member}
use Rattle.serde_json.specs.View.{view, items_view, members_view}
use Rattle.serde_json.specs.declared.value.Value.{Value}
use Rattle.farm_text.specs.Document.{data_of, items_data, members_data, items_of}
use Rattle.farm_text.specs.Doc.{document, documents}
use Rattle.farm_text.specs.Pointer.{pointer_under, part_text}
use Rattle.farm_text.specs.Reading.{unwhole, unwhole_items, unwhole_members}
use Rattle.farm_text.specs.declared.doc.Doc.{Doc}
use Rattle.farm_text.specs.declared.pointer.Part.{Part}
use Rattle.farm_text.proofs.DocLemmas.{Entry, members_in}
use Rattle.farm_text.proofs.PointerLemmas.{pointer_under-last}

abbrev pub ValueEntry : Type 0
ValueEntry = String Global × Value

-- how many values stand in a value, which the recursion over it counts down
abbrev mutual
  pub size : Data → ℕ
  size null = 1
  size (boolean b) = 1
  size (number n) = 1
  size (string s) = 1
  size (array ds) = 1 + items_size ds
  size (object ms) = 1 + members_size ms

  pub items_size : Items → ℕ
  items_size no_items = 0
  items_size (item d ds) = size d + items_size ds

  pub members_size : Members → ℕ
  members_size no_members = 0
  members_size (member k d ms) = size d + members_size ms

pub items_size-within : (done rest : List Value) (v : Value) → size (view v) ≤ items_size (items_view (done ++ v ∷ rest))
items_size-within [] rest v = omega arith
items_size-within (d ∷ done) rest v = omega (arith, items_size-within done rest v)

pub members_size-within : (done rest : List ValueEntry) (e : ValueEntry) → size (view e.1) ≤ members_size (members_view (done ++ e ∷ rest))
members_size-within [] rest e = omega arith
members_size-within (d ∷ done) rest e = omega (arith, members_size-within done rest e)

-- an item after the others
abbrev with_item : Items → Data → Items
with_item no_items d = item d no_items
with_item (item e ds) d = item e (with_item ds d)

items_view-last : (vs : List Value) (v : Value) → items_view (vs ++ v ∷ []) ≡ with_item (items_view vs) (view v)
items_view-last [] v = refl
items_view-last (x ∷ vs) v = ap (item (view x)) (items_view-last vs v)

items_data-last : (ds : List Doc) (d : Doc) → items_data (items_of (documents (ds ++ d ∷ []))) ≡ with_item (items_data (items_of (documents ds))) (data_of (document d))
items_data-last [] d = refl
items_data-last (x ∷ ds) d = ap (item (data_of (document x))) (items_data-last ds d)

pub one_more_item : (ds : List Doc) (d : Doc) (vs : List Value) (v : Value) → items_data (items_of (documents ds)) ≡ items_view vs → data_of (document d) ≡ view v
    → items_data (items_of (documents (ds ++ d ∷ []))) ≡ items_view (vs ++ v ∷ [])
one_more_item ds d vs v so_far here = items_data-last ds d ∙ rw (so_far, here) (sym (items_view-last vs v))

-- a member after the others
abbrev with_member : Members → List ℕ → Data → Members
with_member no_members k d = member k d no_members
with_member (member l e ms) k d = member l e (with_member ms k d)

members_view-last : (es : List ValueEntry) (k : String Global) (v : Value) → members_view (es ++ (k, v) ∷ []) ≡ with_member (members_view es) (string_bytes k) (view v)
members_view-last [] k v = refl
members_view-last (e ∷ es) k v = ap (member (string_bytes e.0) (view e.1)) (members_view-last es k v)

members_data-last : (es : List Entry) (k : String Global) (d : Doc) → members_data (members_in (es ++ (k, d) ∷ [])) ≡ with_member (members_data (members_in es)) (string_bytes k) (data_of (document d))
members_data-last [] k d = refl
members_data-last (e ∷ es) k d = ap (member (string_bytes e.0) (data_of (document e.1))) (members_data-last es k d)

pub one_more_member : (ds : List Entry) (es : List ValueEntry) (k : String Global) (d : Doc) (v : Value) → members_data (members_in ds) ≡ members_view es → data_of (document d) ≡ view v
    → members_data (members_in (ds ++ (k, d) ∷ [])) ≡ members_view (es ++ (k, v) ∷ [])
one_more_member ds es k d v so_far here = members_data-last ds k d ∙ rw (so_far, here) (sym (members_view-last es k v))

below_middle : (first : ValueEntry) (es : List ValueEntry) (e : ValueEntry) (more : List ValueEntry) → AllByRecursion (λ y. string_cmp first.0 y ≡ Less) (keys_of (es ++ e ∷ more)) → string_cmp first.0 e.0 ≡ Less
below_middle first [] e more h = h.0
below_middle first (x ∷ es) e more h = below_middle first es e more h.1

-- a key that is above those before it goes last
pub insert_last : (ds : List Entry) (done : List ValueEntry) (e : ValueEntry) (more : List ValueEntry) (d : Doc) → keys_of ds ≡ keys_of done → IsStrictlySortedBy string_cmp (keys_of (done ++ e ∷ more))
    → insert_entry string_cmp ds e.0 d ≡ ds ++ (e.0, d) ∷ []
unfolding IsStrictlySortedBy
insert_last [] done e more d same h = refl
insert_last (x ∷ ds) [] e more d same h = absurd (omega (arith, ap length same))
insert_last (x ∷ ds) (first ∷ done) e more d same h =
    let heads : x.0 ≡ first.0 = ap (λ ks. get_or ks 0 x.0) same in
    let tails : keys_of ds ≡ keys_of done = ap (drop 1) same in
    let above : string_cmp e.0 x.0 ≡ Greater =
    rw heads (nat_list_cmp_total.antisymm (string_bytes e.0) (string_bytes first.0) ∙ ap ordering_reverse (below_middle first done e more h.0)) in
    rw above (ap (λ t. x ∷ t) (insert_last ds done e more d tails h.1))

pub keys_of-last : (ds : List Entry) (done : List ValueEntry) (k : String Global) (d : Doc) (v : Value) → keys_of ds ≡ keys_of done → keys_of (ds ++ (k, d) ∷ []) ≡ keys_of (done ++ (k, v) ∷ [])
keys_of-last [] [] k d v same = refl
keys_of-last [] (x ∷ done) k d v same = absurd (omega (arith, ap length same))
keys_of-last (e ∷ ds) [] k d v same = absurd (omega (arith, ap length same))
keys_of-last (e ∷ ds) (x ∷ done) k d v same =
    let heads : e.0 ≡ x.0 = ap (λ ks. get_or ks 0 e.0) same in
    let tails : keys_of ds ≡ keys_of done = ap (drop 1) same in
    rw heads (ap (λ t. x.0 ∷ t) (keys_of-last ds done k d v tails))

none_before : {A : Type 0} (xs ys : List A) → xs ++ ys ≡ [] → (xs ≡ []) × (ys ≡ [])
none_before [] ys none = (refl, none)
none_before (x ∷ xs) ys none = absurd (omega (arith, ap length none))

none_under : (step : List ℕ → List ℕ) (paths : List (List ℕ)) → map step paths ≡ [] → paths ≡ []
none_under step [] none = refl
none_under step (p ∷ ps) none = absurd (omega (arith, ap length none))

-- the items so far have no such number, and those after them count on
pub past_items : (vs rest : List Value) (i : ℕ) → unwhole_items i (items_view vs) ≡ [] → unwhole_items i (items_view (vs ++ rest)) ≡ unwhole_items (i + length vs) (items_view rest)
past_items [] rest i none = ap (λ n. unwhole_items n (items_view rest)) (omega arith)
past_items (v ∷ vs) rest i none =
    let (here, later) = none_before _ (unwhole_items (suc i) (items_view vs)) none in
    let place : suc i + length vs ≡ i + suc (length vs) = omega arith in
    rw here (past_items vs rest (suc i) later ∙ ap (λ n. unwhole_items n (items_view rest)) place)

pub past_members : (es rest : List ValueEntry) → unwhole_members (members_view es) ≡ [] → unwhole_members (members_view (es ++ rest)) ≡ unwhole_members (members_view rest)
past_members [] rest none = refl
past_members (e ∷ es) rest none =
    let (here, later) = none_before _ (unwhole_members (members_view es)) none in
    rw here (past_members es rest later)

pub last_item_whole : (vs : List Value) (v : Value) → unwhole_items 0 (items_view vs) ≡ [] → unwhole (view v) ≡ [] → unwhole_items 0 (items_view (vs ++ v ∷ [])) ≡ []
last_item_whole vs v none here = past_items vs (v ∷ []) 0 none ∙ rw here

pub last_member_whole : (es : List ValueEntry) (e : ValueEntry) → unwhole_members (members_view es) ≡ [] → unwhole (view e.1) ≡ [] → unwhole_members (members_view (es ++ e ∷ [])) ≡ []
last_member_whole es e none here = past_members es (e ∷ []) none ∙ rw here

-- the first number under a step
pub first_under : (p : Part) (inner : List Part) (paths more rest : List (List ℕ)) → paths ≡ pointer_under [] inner ∷ more
    → map (λ path. 47 ∷ (part_text p ++ path)) paths ++ rest ≡ pointer_under [] (inner ++ p ∷ []) ∷ (map (λ path. 47 ∷ (part_text p ++ path)) more ++ rest)
first_under p inner paths more rest is = rw (is, pointer_under-last [] inner p)
