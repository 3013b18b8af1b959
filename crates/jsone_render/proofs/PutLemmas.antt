-- A member that is put twice, and maps that are merged.
use Rattle.std.proofs.Common.{◌≡◌, ℕ, List, ◌∷◌, ◌++◌, Option, Some, None, Result, Ok, Err, IfOk, MatchResult, Ordering, Less, Equal, Greater, nat_cmp, refl, sym, ap, ap₂, ◌∙◌}
use Rattle.std.proofs.lemmas.Cmp.{nat_list_cmp_total}
use Rattle.std.specs.Cmp.Lexicographic.{slice_cmp}
use Rattle.std.specs.Ordering.{match_ordering, ordering_reverse}
use Rattle.farm_text.specs.Document.{Document, null, boolean, whole, text, array, object, Items, items_of, Members, no_members, member, member_at, put}
use Rattle.farm_text.specs.Doc.{document}
use Rattle.farm_text.specs.declared.doc.Doc.{Doc}
use Rattle.jsone_values.specs.declared.faults.Fault.{Fault}
use Rattle.jsone_values.specs.declared.faults.Fault.TheVariants.{WrongKind}
use Rattle.jsone_render.specs.Answers.{IsNoMap, LacksMap, LacksList}
use Rattle.jsone_render.specs.Merges.{deep, deep_all, deep_merge_of, deep_merged_onto}
use Rattle.jsone_render.proofs.KindLemmas.{listed-items_of}

of_itself : (o : Ordering) → o ≡ ordering_reverse o → o ≡ Equal
of_itself Less h = absurd (cc)
of_itself Equal h = refl
of_itself Greater h = absurd (cc)

equal_keys : (k : List ℕ) → slice_cmp nat_cmp k k ≡ Equal
equal_keys k = of_itself (slice_cmp nat_cmp k k) (nat_list_cmp_total.antisymm k k)

put_at : (o : Ordering) (k l : List ℕ) (d e f : Document) (ms : Members) → slice_cmp nat_cmp k l ≡ o → put k d (put k e ms) ≡ put k d ms
    → put k d (match_ordering o (member k e (member l f ms)) (member l e ms) (member l f (put k e ms))) ≡ match_ordering o (member k d (member l f ms)) (member l d ms) (member l f (put k d ms))
put_at Less k l d e f ms h more = rw (equal_keys k) refl
put_at Equal k l d e f ms h more = rw h refl
put_at Greater k l d e f ms h more = rw h (ap (member l f) more)

put_put : (k : List ℕ) (d e : Document) (ms : Members) → put k d (put k e ms) ≡ put k d ms
put_put k d e no_members = rw (equal_keys k) refl
put_put k d e (member l f ms) = put_at (slice_cmp nat_cmp k l) k l d e f ms refl (put_put k d e ms)

-- one member more
pub deep_more : (rest left : Members) (k : List ℕ) (d e joined : Document) (found : Option Document) (ms between next all : Members) → rest ≡ member k d left → found ≡ member_at k ms → between ≡ put k e ms → joined ≡ deep d found → next ≡ put k joined between
    → deep_all rest ms ≡ all → deep_all left next ≡ all
deep_more rest left k d e joined found ms between next all is at put_null made put_joined h =
    let value : joined ≡ deep d (member_at k ms) = made ∙ ap (deep d) at in
    let same : next ≡ put k (deep d (member_at k ms)) ms = put_joined ∙ ap (put k joined) put_null ∙ put_put k joined e ms ∙ ap (λ x. put k x ms) value in
    ap (deep_all left) same ∙ ap (λ x. deep_all x ms) (sym is) ∙ h

pub joined_lists : (later : Document) (before : Option Document) (ds es all : List Document) → later ≡ array (items_of ds) → before ≡ Some (array (items_of es)) → all ≡ es ++ ds → array (items_of all) ≡ deep later before
joined_lists later before ds es all is at made =
    ap (λ l. array (items_of l)) (made ∙ ap₂ (λ (a b : List Document). a ++ b) (sym (listed-items_of es)) (sym (listed-items_of ds))) ∙ ap₂ deep (sym is) (sym at)

pub joined_maps : (later : Document) (before : Option Document) (ms es all : Members) → later ≡ object ms → before ≡ Some (object es) → all ≡ deep_all ms es → object all ≡ deep later before
joined_maps later before ms es all is at made = ap object made ∙ ap₂ deep (sym is) (sym at)

lone_list : (ds : Items) (before : Option Document) → LacksList before → array ds ≡ deep (array ds) before
lone_list ds (Some (array es)) none = absurd none
lone_list ds (Some null) none = refl
lone_list ds (Some (boolean b)) none = refl
lone_list ds (Some (whole z)) none = refl
lone_list ds (Some (text bs)) none = refl
lone_list ds (Some (object ms)) none = refl
lone_list ds None none = refl

lone_map : (ms : Members) (before : Option Document) → LacksMap before → object ms ≡ deep (object ms) before
lone_map ms (Some (object before)) none = absurd none
lone_map ms (Some null) none = refl
lone_map ms (Some (boolean b)) none = refl
lone_map ms (Some (whole z)) none = refl
lone_map ms (Some (text bs)) none = refl
lone_map ms (Some (array ds)) none = refl
lone_map ms None none = refl

pub no_list_there : (later : Document) (ds : List Document) (before : Option Document) → later ≡ array (items_of ds) → LacksList before → later ≡ deep later before
no_list_there later ds before is none = is ∙ lone_list (items_of ds) before none ∙ ap (λ d. deep d before) (sym is)

pub no_map_there : (later : Document) (ms : Members) (before : Option Document) → later ≡ object ms → LacksMap before → later ≡ deep later before
no_map_there later ms before is none = is ∙ lone_map ms before none ∙ ap (λ d. deep d before) (sym is)

-- a copy of the later value
pub clone_there : {E : Type 0} (Q : E → Type 0) (later : Document) (before : Option Document) (r : Result Doc E) → later ≡ deep later before → MatchResult r (λ d. document d ≡ later) Q → IfOk r (λ d. document d ≡ deep later before)
clone_there Q later before (Ok d) alone h = h ∙ alone
clone_there Q later before (Err e) alone h = tt

-- a map more
pub map_more : (rest left : List Document) (d : Document) (ms more next : Members) (all : Result Document Fault) → rest ≡ d ∷ left → d ≡ object more → next ≡ deep_all more ms → deep_merged_onto ms rest ≡ all → deep_merged_onto next left ≡ all
map_more rest left d ms more next all e is made h = ap (λ x. deep_merged_onto x left) made ∙ ap (λ x. deep_merged_onto ms (x ∷ left)) (sym is) ∙ ap (deep_merged_onto ms) (sym e) ∙ h

no_map_at : (ms : Members) (d : Document) (ds : List Document) → IsNoMap d → Err WrongKind ≡ deep_merged_onto ms (d ∷ ds)
no_map_at ms (object more) ds h = absurd h
no_map_at ms null ds h = refl
no_map_at ms (boolean b) ds h = refl
no_map_at ms (whole z) ds h = refl
no_map_at ms (text bs) ds h = refl
no_map_at ms (array es) ds h = refl

pub no_map_left : (rest left : List Document) (d : Document) (ms : Members) (all : Result Document Fault) → rest ≡ d ∷ left → IsNoMap d → deep_merged_onto ms rest ≡ all → Err WrongKind ≡ all
no_map_left rest left d ms all e none h = no_map_at ms d left none ∙ ap (deep_merged_onto ms) (sym e) ∙ h

pub deep_list : (d : Document) (ds : List Document) → d ≡ array (items_of ds) → deep_merged_onto no_members ds ≡ deep_merge_of d
deep_list d ds e = ap (deep_merged_onto no_members) (sym (listed-items_of ds)) ∙ ap deep_merge_of (sym e)
