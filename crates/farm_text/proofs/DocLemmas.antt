-- A `Doc`, level by level, and a `BTreeMap` beside the members that it stands for.
use Rattle.std.proofs.Common.{◌≤◌, ℤ, pos, negsuc, suc, max, FitsSigned, sym, ap₂, arith, append-nil, ◌≡◌, List, [], ◌∷◌, ◌++◌, String, Vec, BTreeMap, Global, Ordering, Less, Equal, Greater, Option, Some, None, option_map, option_and_then, is_eq, cond, Bor, ℕ, string_bytes, string_cmp, nat_cmp, refl, ap, ◌∙◌, rules}
use Rattle.std.proofs.lemmas.Cmp.{nat_list_cmp_total}
use Rattle.std.specs.Cmp.Lexicographic.{slice_cmp}
use Rattle.std.specs.List.{AllByRecursion}
use Rattle.std.specs.List.Sorted.{IsStrictlySortedBy}
use Rattle.std.specs.Map.{keys_of, lookup}
use Rattle.std.specs.Ordering.{match_ordering, ordering_reverse}
use Rattle.std.specs.BTreeMap.{insert_entry, is_at}
use Rattle.json.specs.Token.{Token}
use Rattle.json.specs.Tree.{json_tokens, items_tokens, members_tokens}
use Rattle.serde_json.specs.Written.{outline, items_outline, members_outline}
use Rattle.std.specs.Int.{w64}
use Rattle.std.proofs.lemmas.Bool.Decides.{nat_tests}
use Rattle.json.specs.Json as json
use Rattle.json.specs.Lex.{tokens}
use Rattle.json.specs.Tree as tree
use Rattle.json.proofs.Printed.Trees.{value-json_tokens}
use Rattle.serde_json.specs.Data.{Data, number, put as put_data, depth, items_depth, members_depth}
use Rattle.serde_json.specs.Read.{of_json, read, max_depth}
use Rattle.serde_json.proofs.Numbers.{number_of-decimal, number_of-negative}
use Rattle.farm_text.specs.Written.{ReadsBack, IsWhole, AreWhole, MembersWhole}
use Rattle.farm_text.specs.Document.{null, boolean, whole, text, Items, no_items, item, no_members, Document, array, object, items_of, Members, member, members_of, put, member_at, data_of, items_data, members_data}
use Rattle.farm_text.specs.Doc.{document, documents, entries_of}
use Rattle.farm_text.specs.declared.doc.Doc.{Doc, the_lemmas}
use Rattle.farm_text.specs.declared.doc.Doc.TheVariants.{List as ListDoc, Map as MapDoc}

abbrev pub Entry : Type 0
Entry = String Global × Doc

pub document-List : (v : Vec Doc Global) → document (ListDoc v) ≡ array (items_of (documents v.items))
document-List v = search (rules, the_lemmas)

pub document-Map : (m : BTreeMap (String Global) Doc) → document (MapDoc m) ≡ object (members_of (entries_of m.entries))
document-Map m = search (rules, the_lemmas)

-- the members of a map's entries
abbrev pub members_in : List Entry → Members
members_in es = members_of (entries_of es)

-- the tokens that are written for a document, and for what stands inside
abbrev pub tokens_of : Document → List Token
tokens_of d = json_tokens (outline (data_of d))

abbrev pub item_tokens_of : List Doc → List Token
item_tokens_of ds = items_tokens (items_outline (items_data (items_of (documents ds))))

abbrev pub member_tokens_of : List Entry → List Token
member_tokens_of es = members_tokens (members_outline (members_data (members_in es)))

members_in-match_ordering : (o : Ordering) (a b c : List Entry) → members_in (match_ordering o a b c) ≡ match_ordering o (members_in a) (members_in b) (members_in c)
members_in-match_ordering Less a b c = refl
members_in-match_ordering Equal a b c = refl
members_in-match_ordering Greater a b c = refl

-- an insert into the map puts the member
pub members_in-insert_entry : (es : List Entry) (k : String Global) (v : Doc) → members_in (insert_entry string_cmp es k v) ≡ put (string_bytes k) (document v) (members_in es)
members_in-insert_entry [] k v = refl
members_in-insert_entry (e ∷ es) k v = members_in-match_ordering (string_cmp k e.0) _ _ _ ∙ rw (members_in-insert_entry es k v)

below_middle : (first : Entry) (es : List Entry) (e : Entry) (more : List Entry) → AllByRecursion (λ y. string_cmp first.0 y ≡ Less) (keys_of (es ++ e ∷ more)) → string_cmp first.0 e.0 ≡ Less
below_middle first [] e more h = h.0
below_middle first (x ∷ es) e more h = below_middle first es e more h.1

-- a key that is above those before it goes last
pub put_last : (done : List Entry) (e : Entry) (more : List Entry) → IsStrictlySortedBy string_cmp (keys_of (done ++ e ∷ more))
    → put (string_bytes e.0) (document e.1) (members_in done) ≡ members_in (done ++ e ∷ [])
unfolding IsStrictlySortedBy
put_last [] e more h = refl
put_last (first ∷ done) e more h =
    let above : slice_cmp nat_cmp (string_bytes e.0) (string_bytes first.0) ≡ Greater =
    nat_list_cmp_total.antisymm (string_bytes e.0) (string_bytes first.0) ∙ ap ordering_reverse (below_middle first done e more h.0) in
    rw above (ap (member (string_bytes first.0) (document first.1)) (put_last done e more h.1))

found_or : (o : Ordering) (v : Doc) (rest : Option Doc) (d : Option Document) → option_map document rest ≡ d → option_map document (cond (is_eq o) (Some v) rest) ≡ match_ordering o d (Some (document v)) d
found_or Less v rest d e = e
found_or Equal v rest d e = refl
found_or Greater v rest d e = e

-- what is looked up in a map's entries
pub document-lookup : (name : List ℕ) (es : List Entry) → option_map document (lookup (is_at (λ k. slice_cmp nat_cmp name (string_bytes k))) es) ≡ member_at name (members_in es)
document-lookup name [] = refl
document-lookup name (e ∷ es) = found_or (slice_cmp nat_cmp name (string_bytes e.0)) e.1 _ _ (document-lookup name es)

pub document_of_ref : (r : Option (Bor Doc)) → option_map (λ x. document x.now) r ≡ option_map document (option_map (λ x. x.now) r)
document_of_ref None = refl
document_of_ref (Some x) = refl

members_data-match_ordering : (o : Ordering) (a b c : Members) → members_data (match_ordering o a b c) ≡ match_ordering o (members_data a) (members_data b) (members_data c)
members_data-match_ordering Less a b c = refl
members_data-match_ordering Equal a b c = refl
members_data-match_ordering Greater a b c = refl

-- the data of what is put is put into the data
pub members_data-put : (k : List ℕ) (d : Document) (ms : Members) → members_data (put k d ms) ≡ put_data k (data_of d) (members_data ms)
members_data-put k d no_members = refl
members_data-put k d (member l e ms) = members_data-match_ordering (slice_cmp nat_cmp k l) _ _ _ ∙ rw (members_data-put k d ms)

-- a whole number that has an i64
pub ReadsBack-whole : (z : ℤ) → FitsSigned w64 z → ReadsBack (whole z)
ReadsBack-whole (pos n) fits = ap (option_map number) (number_of-decimal n (omega (arith, fits)))
ReadsBack-whole (negsuc n) fits = ap (option_map number) (number_of-negative n (omega (arith, fits)))

-- and so it is no number that is not whole
pub IsWhole-whole : (z : ℤ) → FitsSigned w64 z → IsWhole (whole z)
IsWhole-whole (pos n) fits = grind (arith, nat_tests, fits)
IsWhole-whole (negsuc n) fits = refl

pub AreWhole-item : (d : Document) (ds : Items) → IsWhole d → AreWhole ds → AreWhole (item d ds)
AreWhole-item d ds is are = λ place. rw is (are (suc place))

pub MembersWhole-member : (k : List ℕ) (d : Document) (ms : Members) → IsWhole d → MembersWhole ms → MembersWhole (member k d ms)
MembersWhole-member k d ms is are = rw is are

mutual
  depth-outline : (d : Document) → tree.depth (outline (data_of d)) ≡ depth (data_of d)
  depth-outline null = refl
  depth-outline (boolean b) = refl
  depth-outline (whole z) = refl
  depth-outline (text s) = refl
  depth-outline (array ds) = ap suc (depth-items_outline ds)
  depth-outline (object ms) = ap suc (depth-members_outline ms)

  depth-items_outline : (ds : Items) → tree.items_depth (items_outline (items_data ds)) ≡ items_depth (items_data ds)
  depth-items_outline no_items = refl
  depth-items_outline (item d ds) = ap₂ max (depth-outline d) (depth-items_outline ds)

  depth-members_outline : (ms : Members) → tree.members_depth (members_outline (members_data ms)) ≡ members_depth (members_data ms)
  depth-members_outline no_members = refl
  depth-members_outline (member k d ms) = ap₂ max (depth-outline d) (depth-members_outline ms)

-- of a value and what follows it, the value's data where nothing does
abbrev whole_text : Option (json.Json × List Token) → Option Data
whole_text o = option_and_then of_json (option_and_then (λ p. json.if_last p.0 p.1) o)

-- the tokens of a document are read as its data
pub read_tokens : (d : Document) (written : List ℕ) → tokens written ≡ tokens_of d → ReadsBack d → depth (data_of d) ≤ max_depth → read written ≡ Some (data_of d)
read_tokens d written same reads shallow =
    ap whole_text (ap (json.value max_depth) (same ∙ sym (append-nil _)) ∙ value-json_tokens (outline (data_of d)) max_depth [] (omega (arith, depth-outline d, shallow))) ∙ reads
