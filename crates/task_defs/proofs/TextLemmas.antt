-- Walks over lists of texts.
use Rattle.std.specs.Prelude.{Bool as Flag}
use Rattle.std.proofs.Common.{◌≡◌, ℕ, zero, suc, ◌+◌, ◌<◌, ◌≤◌, true, false, ◌||◌, cond, Bor, List, [], ◌∷◌, ◌++◌, length, get_or, take, drop, map, All, Option, Some, None, refl, sym, ap, ◌∙◌, subst, arith}
use Rattle.std.proofs.lemmas.Bool.{false≢true}
use Rattle.std.proofs.lemmas.List.{drop_more, take-append-drop, map-append, map_more, map_push, get_or-map, length-map}
use Rattle.std.proofs.lemmas.List.Folds.{list_any-append}
use Rattle.std.proofs.lemmas.List.Elements.{All-push, filter_map-append}
use Rattle.std.proofs.lemmas.Map.Keys.{IsDistinct-push}
use Rattle.std.proofs.lemmas.Map.Text.{is_eq-slice_cmp}
use Rattle.std.specs.List.{list_any, filter_map, cons_option, AllByRecursion, IsDistinct}
use Rattle.std.specs.Str.{bytes_eq}
use Rattle.std.specs.Cmp.Lexicographic.{slice_cmp, nat_list_eq_equiv}
use Rattle.std.specs.Ordering.{nat_cmp, is_eq}
use Rattle.farm_text.specs.Slug.{slug_of}
use Rattle.farm_text.specs.Document.{Document, text, array, Items, no_items, items_of}
use Rattle.farm_text.specs.Doc.{document, documents}
use Rattle.farm_text.specs.declared.doc.Doc.{Doc}
use Rattle.task_defs.specs.Documents.{text_of, list_of}
use Rattle.task_defs.proofs.ValueLemmas.{is_text}
use Rattle.task_defs.specs.Values.{texts_in, IsTexts, IsTextList}

abbrev head_or : Document → List Document → Document
head_or d [] = d
head_or d (x ∷ xs) = x

abbrev items_or : Document → Items
items_or (array ds) = ds
items_or _ = no_items

abbrev list_in : Document → List Document
list_in d = list_of (items_or d)

abbrev tail : List Document → List Document
tail [] = []
tail (x ∷ xs) = xs

-- the texts of a list of texts are these
pub texts_back : (ts : List (List ℕ)) → filter_map text_of (list_of (items_of (map text ts))) ≡ ts
texts_back [] = refl
texts_back (t ∷ ts) = ap (λ (x : List (List ℕ)). t ∷ x) (texts_back ts)

pub texts_in_list : (d : Document) (ts : List (List ℕ)) → d ≡ array (items_of (map text ts)) → texts_in (Some d) ≡ ts
texts_in_list d ts e = subst (λ (x : Document). texts_in (Some x) ≡ ts) (sym e) (texts_back ts)

-- ---- texts of a form

-- what stands past the end of a list of texts
abbrev pub past_end : Bor (List ℕ)
past_end = record { ref_ptr = (0, 0); now = [] }

-- one more text
pub map_now_more : (texts : List (Bor (List ℕ))) (i : ℕ) (d : Bor (List ℕ)) (s : List ℕ) → i < length texts → s ≡ (get_or texts i d).now
    → map (λ t. t.now) (take (i + 1) texts) ≡ map (λ t. t.now) (take i texts) ++ s ∷ []
map_now_more texts i d s lt is = map_more (λ t. t.now) texts i d lt ∙ ap (λ (x : List ℕ). map (λ t. t.now) (take i texts) ++ x ∷ []) (sym is)

pub items_more : (texts : List (Bor (List ℕ))) (i : ℕ) (d : Bor (List ℕ)) (s t : List ℕ) (before items : List (List ℕ)) → i < length texts → items ≡ before ++ t ∷ []
    → before ≡ map (λ t. t.now) (take i texts) → t ≡ s → s ≡ (get_or texts i d).now → items ≡ map (λ t. t.now) (take (i + 1) texts)
items_more texts i d s t before items lt pushed so_far same is =
    pushed ∙ ap (λ (x : List (List ℕ)). x ++ t ∷ []) so_far ∙ ap (λ (x : List ℕ). map (λ t. t.now) (take i texts) ++ x ∷ []) same ∙ sym (map_now_more texts i d s lt is)

pub forms_more : (Form : List ℕ → Type 0) (texts : List (Bor (List ℕ))) (i : ℕ) (d : Bor (List ℕ)) (s : List ℕ) → i < length texts → s ≡ (get_or texts i d).now → Form s
    → All Form (map (λ t. t.now) (take i texts)) → All Form (map (λ t. t.now) (take (i + 1) texts))
forms_more Form texts i d s lt is here before =
    subst (λ (xs : List (List ℕ)). All Form xs) (sym (map_now_more texts i d s lt is)) (All-push Form (map (λ t. t.now) (take i texts)) s before here)

pub form_fails : (Form : List ℕ → Type 0) (texts : List (Bor (List ℕ))) (i : ℕ) (d : Bor (List ℕ)) (s : List ℕ) → i < length texts → s ≡ (get_or texts i d).now → ¬ Form s
    → ¬ All Form (map (λ t. t.now) texts)
form_fails Form texts i d s lt is fails all =
    fails (subst Form (get_or-map (λ t. t.now) texts i d d.now lt ∙ sym is) (all i d.now (rw length-map lt)))

pub ids_more : (texts : List (Bor (List ℕ))) (i : ℕ) (d : Bor (List ℕ)) (s id : List ℕ) (before items : List (List ℕ)) → i < length texts → items ≡ before ++ id ∷ []
    → before ≡ filter_map slug_of (map (λ t. t.now) (take i texts)) → Some id ≡ slug_of s → s ≡ (get_or texts i d).now → items ≡ filter_map slug_of (map (λ t. t.now) (take (i + 1) texts))
ids_more texts i d s id before items lt pushed so_far read is =
    pushed ∙ ap (λ (x : List (List ℕ)). x ++ id ∷ []) so_far
    ∙ sym (ap (filter_map slug_of) (map_now_more texts i d s lt is) ∙ filter_map-append slug_of (map (λ t. t.now) (take i texts)) (s ∷ [])
    ∙ ap (λ (o : Option (List ℕ)). filter_map slug_of (map (λ t. t.now) (take i texts)) ++ cons_option o []) (sym read))

-- ---- lists of documents

pub list_back : (ds : List Document) → list_of (items_of ds) ≡ ds
list_back [] = refl
list_back (d ∷ ds) = ap (λ (x : List Document). d ∷ x) (list_back ds)

not_texts : (ds : List Document) (i : ℕ) (d : Document) → i < length ds → text_of (get_or ds i d) ≡ None → (ts : List (List ℕ)) → ¬ (ds ≡ map text ts)
not_texts [] i d lt bad ts e = absurd (omega arith)
not_texts (x ∷ ds) i d lt bad [] e = absurd cc
not_texts (x ∷ ds) zero d lt bad (t ∷ ts) e =
    let same : x ≡ text t = ap (head_or x) e in
    let both : None ≡ Some t = sym bad ∙ ap text_of same in
    absurd cc
not_texts (x ∷ ds) (suc i) d lt bad (t ∷ ts) e = not_texts ds i d (omega arith) bad ts (ap tail e)

pub not_texts_at : (items : List Doc) (i : ℕ) (d : Doc) → i < length items → text_of (document (get_or items i d)) ≡ None
    → (ts : List (List ℕ)) → ¬ (items_of (documents items) ≡ items_of (map text ts))
not_texts_at items i d lt bad ts e =
    let here : text_of (get_or (documents items) i (document d)) ≡ None = ap text_of (get_or-map document items i d (document d) lt) ∙ bad in
    let long : i < length (documents items) = rw length-map lt in
    not_texts (documents items) i (document d) long here ts (sym (list_back (documents items)) ∙ ap list_of e ∙ list_back (map text ts))

-- ---- texts that were seen

joined : (b old : Flag) → cond b true old ≡ (old || (b || false))
joined true true = refl
joined true false = refl
joined false true = refl
joined false false = refl

-- the set has these texts, which are distinct
pub record HasSeen (keys : List (Bor (List ℕ))) (texts : List (List ℕ)) : Type 0 where
  pub holds : (q : Bor (List ℕ)) → list_any (λ (k : Bor (List ℕ)). is_eq (slice_cmp nat_cmp q.now k.now)) keys ≡ list_any (bytes_eq q.now) texts
  pub once : IsDistinct bytes_eq texts

pub nothing_seen : HasSeen [] []
unfolding IsDistinct
nothing_seen = record { holds = λ q. refl; once = tt }

seen_by : (texts : List (List ℕ)) (t q : List ℕ) (old : Flag) → old ≡ list_any (bytes_eq q) texts → cond (is_eq (slice_cmp nat_cmp t q)) true old ≡ list_any (bytes_eq q) (texts ++ t ∷ [])
seen_by texts t q old e =
    ap (λ (b : Flag). cond b true old) (is_eq-slice_cmp t q ∙ nat_list_eq_equiv.symm t q) ∙ joined (bytes_eq q t) old ∙ ap (λ (b : Flag). b || (bytes_eq q t || false)) e
    ∙ sym (list_any-append (bytes_eq q) texts (t ∷ []))

-- one text more, which the set did not have
pub seen_more : (old new : List (Bor (List ℕ))) (texts more : List (List ℕ)) (t : Bor (List ℕ)) → HasSeen old texts → more ≡ texts ++ t.now ∷ []
    → list_any (λ (k : Bor (List ℕ)). is_eq (slice_cmp nat_cmp t.now k.now)) old ≡ false
    → ((q : Bor (List ℕ)) → list_any (λ (k : Bor (List ℕ)). is_eq (slice_cmp nat_cmp q.now k.now)) new
    ≡ cond (is_eq (slice_cmp nat_cmp t.now q.now)) true (list_any (λ (k : Bor (List ℕ)). is_eq (slice_cmp nat_cmp q.now k.now)) old))
    → HasSeen new more
seen_more old new texts more t h is fresh updates = record {
  holds = λ q. updates q ∙ seen_by texts t.now q.now _ (h.holds q) ∙ ap (list_any (bytes_eq q.now)) (sym is);
  once = subst (λ (x : List (List ℕ)). IsDistinct bytes_eq x) (sym is) (IsDistinct-push nat_list_eq_equiv texts t.now h.once (sym (h.holds t) ∙ fresh));
}

apart_at : (x : List ℕ) (texts : List (List ℕ)) (t : List ℕ) (more : List (List ℕ)) → AllByRecursion (λ y. bytes_eq x y ≡ false) (texts ++ t ∷ more) → bytes_eq x t ≡ false
apart_at x [] t more h = h.0
apart_at x (y ∷ texts) t more h = apart_at x texts t more h.1

repeats : (texts : List (List ℕ)) (t : List ℕ) (more : List (List ℕ)) → list_any (bytes_eq t) texts ≡ true → ¬ IsDistinct bytes_eq (texts ++ t ∷ more)
unfolding IsDistinct
repeats [] t more h once = false≢true h
repeats (x ∷ texts) t more h once =
    let apart : bytes_eq t x ≡ false = nat_list_eq_equiv.symm t x ∙ apart_at x texts t more once.0 in
    repeats texts t more (sym (ap (λ (b : Flag). b || list_any (bytes_eq t) texts) apart) ∙ h) once.1

-- a text that the set has stands twice
pub seen_twice : (old : List (Bor (List ℕ))) (texts : List (Bor (List ℕ))) (i : ℕ) (d t : Bor (List ℕ)) → HasSeen old (map (λ x. x.now) (take i texts)) → i < length texts
    → t.now ≡ (get_or texts i d).now → list_any (λ (k : Bor (List ℕ)). is_eq (slice_cmp nat_cmp t.now k.now)) old ≡ true → ¬ IsDistinct bytes_eq (map (λ x. x.now) texts)
seen_twice old texts i d t h lt is found once =
    let cut : map (λ x. x.now) texts ≡ map (λ x. x.now) (take i texts) ++ t.now ∷ map (λ x. x.now) (drop (i + 1) texts) =
    ap (map (λ x. x.now)) (sym (take-append-drop i texts)) ∙ map-append (λ x. x.now) (take i texts) (drop i texts)
    ∙ ap (λ (x : List (Bor (List ℕ))). map (λ x. x.now) (take i texts) ++ map (λ x. x.now) x) (drop_more texts i d lt)
    ∙ ap (λ (x : List ℕ). map (λ x. x.now) (take i texts) ++ x ∷ map (λ x. x.now) (drop (i + 1) texts)) (sym is) in
    repeats (map (λ x. x.now) (take i texts)) t.now (map (λ x. x.now) (drop (i + 1) texts)) (sym (h.holds t) ∙ found)
    (subst (λ (x : List (List ℕ)). IsDistinct bytes_eq x) cut once)

-- ---- lists of at most so many texts

pub too_many : (most : ℕ) (ds : List Document) → most < length ds → (ts : List (List ℕ)) → ¬ IsTexts most (array (items_of ds)) ts
too_many most ds lt ts h =
    let same : ds ≡ map text ts = sym (list_back ds) ∙ ap list_in h.is ∙ list_back (map text ts) in
    let mapped : length (map text ts) ≡ length ts = rw length-map in
    let long : length ds ≡ length ts = ap length same ∙ mapped in
    omega (arith, h.few)

pub not_once : (most : ℕ) (ds : List Document) (ss ts : List (List ℕ)) → items_of ds ≡ items_of (map text ss) → ¬ IsDistinct bytes_eq ss → ¬ IsTexts most (array (items_of ds)) ts
not_once most ds ss ts e twice h =
    let same : ss ≡ ts = sym (texts_back ss) ∙ ap (λ (x : Items). filter_map text_of (list_of x)) (sym e ∙ ap items_or h.is) ∙ texts_back ts in
    twice (subst (λ (x : List (List ℕ)). IsDistinct bytes_eq x) (sym same) h.once)

pub no_texts : (most : ℕ) (ds : List Document) → ((ts : List (List ℕ)) → ¬ (items_of ds ≡ items_of (map text ts))) → (ts : List (List ℕ)) → ¬ IsTexts most (array (items_of ds)) ts
no_texts most ds none ts h = none ts (ap items_or h.is)

pub all_texts : (most : ℕ) (ds : List Document) (ts : List (List ℕ)) → items_of ds ≡ items_of (map text ts) → length ds ≤ most → IsDistinct bytes_eq ts → IsTexts most (array (items_of ds)) ts
all_texts most ds ts e few once =
    let same : ds ≡ map text ts = sym (list_back ds) ∙ ap list_of e ∙ list_back (map text ts) in
    let mapped : length (map text ts) ≡ length ts = rw length-map in
    let long : length ds ≡ length ts = ap length same ∙ mapped in
    record { is = ap array e; few = omega arith; once = once }

-- the texts of a list are those that it is of
pub same_texts : (most : ℕ) (d : Document) (ss ts : List (List ℕ)) → IsTexts most d ss → IsTexts most d ts → ts ≡ ss
same_texts most d ss ts a b = sym (texts_in_list d ts b.is) ∙ texts_in_list d ss a.is

pub list_ill : (most : ℕ) (Form : List ℕ → Type 0) (d : Document) (ss : List (List ℕ)) → IsTexts most d ss → ¬ All Form ss → ¬ IsTextList most Form d
list_ill most Form d ss is fails h = fails (subst (λ (x : List (List ℕ)). All Form x) (same_texts most d ss h.0 is h.1) h.2)

pub documents_more : (items : List Doc) (i : ℕ) (v : Doc) (t : Bor (List ℕ)) (before after : List (Bor (List ℕ))) → i < length items → v ≡ get_or items i v → Some t.now ≡ text_of (document v)
    → after ≡ before ++ t ∷ [] → documents (take i items) ≡ map text (map (λ x. x.now) before) → documents (take (i + 1) items) ≡ map text (map (λ x. x.now) after)
documents_more items i v t before after lt at is pushed so_far =
    map_more document items i v lt
    ∙ ap (λ (d : Doc). documents (take i items) ++ document d ∷ []) (sym at)
    ∙ ap (λ (d : Document). documents (take i items) ++ d ∷ []) (is_text (document v) t.now is)
    ∙ ap (λ (x : List Document). x ++ text t.now ∷ []) so_far
    ∙ sym (ap (λ (x : List (Bor (List ℕ))). map text (map (λ x. x.now) x)) pushed ∙ ap (map text) (map_push (λ x. x.now) before t) ∙ map_push text (map (λ x. x.now) before) t.now)
