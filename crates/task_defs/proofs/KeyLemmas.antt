-- The first key that may not stand, or is missing.
use Rattle.std.specs.Prelude.{MatchOption, option_map}
use Rattle.std.proofs.Common.{◌≡◌, ◌⊎◌, ℕ, Bool, true, false, not, ◌||◌, ◌&&◌, cond, List, [], ◌∷◌, ◌++◌, Option, Some, None, is_some, Bor, string_bytes, Ordering, Less, Equal, Greater, is_eq, nat_cmp, string_cmp, refl, sym, ap, ◌∙◌, subst, inl, inr, codes}
use Rattle.std.specs.List.{AllByRecursion, find, list_all}
use Rattle.std.specs.List.Sorted.{IsStrictlySortedBy}
use Rattle.std.specs.Map.{keys_of}
use Rattle.std.specs.Str.{bytes_eq}
use Rattle.std.specs.Ordering.{match_ordering, ordering_reverse, is_lt}
use Rattle.std.specs.Cmp.Lexicographic.{slice_cmp}
use Rattle.std.proofs.lemmas.Bool.{false≢true}
use Rattle.std.proofs.lemmas.List.{append-nil}
use Rattle.std.specs.Cmp.{tied_itself}
use Rattle.std.proofs.lemmas.Cmp.{nat_list_cmp_total}
use Rattle.std.proofs.lemmas.Map.Text.{is_eq-slice_cmp}
use Rattle.std.proofs.lemmas.Slice.Eq.{bytes_eq-Decides}
use Rattle.farm_text.specs.Document.{Document, null, boolean, whole, text, array, object, member_at}
use Rattle.farm_text.specs.Doc.{document}
use Rattle.farm_text.proofs.DocLemmas.{Entry, members_in}
use Rattle.scope_sets.specs.Scopes.{IsBefore}
use Rattle.task_defs.specs.Keys.{may_stand, has, is_among, required, IsUnfit, IsMissing, KeyBreaks}
use Rattle.task_defs.specs.Faults.{Holds, IsFirstKey}
use Rattle.task_defs.specs.Lesser.{lesser}

-- a member is at its own key, or among the others
at_cases : (o : Ordering) (d v : Document) (rest : Option Document) → match_ordering o rest (Some d) rest ≡ Some v → ((o ≡ Equal) × (d ≡ v)) ⊎ (rest ≡ Some v)
at_cases Less d v rest e = inr e
at_cases Equal d v rest e = inl (refl, cc)
at_cases Greater d v rest e = inr e

tied : (a : List ℕ) → slice_cmp nat_cmp a a ≡ Equal
tied a = tied_itself nat_list_cmp_total a

pub bytes_same : (a b : List ℕ) → bytes_eq a b ≡ true → a ≡ b
bytes_same a b h = (bytes_eq-Decides a b).0 h

pub same_key : (a b : List ℕ) → slice_cmp nat_cmp a b ≡ Equal → a ≡ b
same_key a b e = let h : bytes_eq a b ≡ true = sym (is_eq-slice_cmp a b) ∙ ap is_eq e in bytes_same a b h

-- what holds of each entry holds of what stands at a key
found : (P : List ℕ → Document → Type 0) (es : List Entry) (key : List ℕ) (v : Document) → AllByRecursion (λ (e : Entry). P (string_bytes e.0) (document e.1)) es
    → member_at key (members_in es) ≡ Some v → P key v
found P [] key v all e = absurd cc
found P (x ∷ es) key v all e =
    elim (at_cases (slice_cmp nat_cmp key (string_bytes x.0)) (document x.1) v (member_at key (members_in es)) e) [
      | inl h ↦ subst (λ (k : List ℕ). P k v) (sym (same_key key (string_bytes x.0) h.0)) (subst (λ (d : Document). P (string_bytes x.0) d) h.1 all.0)
      | inr h ↦ found P es key v all.1 h
    ]

abbrev pub AllFit : List Entry → Type 0
AllFit es = AllByRecursion (λ (e : Entry). may_stand (string_bytes e.0) (document e.1) ≡ true) es

pub all_fit_more : (es : List Entry) (e : Entry) → AllFit es → may_stand (string_bytes e.0) (document e.1) ≡ true → AllFit (es ++ e ∷ [])
all_fit_more [] e all here = (here, tt)
all_fit_more (x ∷ es) e all here = (all.0, all_fit_more es e all.1 here)

pub none_unfit : (es : List Entry) → AllFit es → Holds (IsUnfit (object (members_in es)))
none_unfit es all key h = false≢true (sym h.2 ∙ found (λ k d. may_stand k d ≡ true) es key h.0 all h.1)

below_middle : (first : Entry) (es : List Entry) (e : Entry) (more : List Entry) → AllByRecursion (λ y. string_cmp first.0 y ≡ Less) (keys_of (es ++ e ∷ more)) → string_cmp first.0 e.0 ≡ Less
below_middle first [] e more h = h.0
below_middle first (x ∷ es) e more h = below_middle first es e more h.1

keys_above : (k : List ℕ) (es : List Entry) → AllByRecursion (λ y. slice_cmp nat_cmp k (string_bytes y) ≡ Less) (keys_of es) → AllByRecursion (λ (e : Entry). slice_cmp nat_cmp k (string_bytes e.0) ≡ Less) es
keys_above k [] h = tt
keys_above k (e ∷ es) h = (h.0, keys_above k es h.1)

-- an entry among entries with rising keys is at its key
entry_at : (done : List Entry) (e : Entry) (more : List Entry) → IsStrictlySortedBy string_cmp (keys_of (done ++ e ∷ more)) → member_at (string_bytes e.0) (members_in (done ++ e ∷ more)) ≡ Some (document e.1)
unfolding IsStrictlySortedBy
entry_at [] e more h = rw (tied (string_bytes e.0))
entry_at (x ∷ done) e more h =
    let above : slice_cmp nat_cmp (string_bytes e.0) (string_bytes x.0) ≡ Greater =
    nat_list_cmp_total.antisymm (string_bytes e.0) (string_bytes x.0) ∙ ap ordering_reverse (below_middle x done e more h.0) in
    rw above (entry_at done e more h.1)

-- what stands at a key before that entry's is one of the entries before it
fit_before : (done : List Entry) (e : Entry) (more : List Entry) (key : List ℕ) (v : Document) → IsStrictlySortedBy string_cmp (keys_of (done ++ e ∷ more)) → AllFit done → IsBefore key (string_bytes e.0)
    → member_at key (members_in (done ++ e ∷ more)) ≡ Some v → may_stand key v ≡ true
unfolding IsStrictlySortedBy
fit_before [] e more key v h all before at =
    let rest : member_at key (members_in more) ≡ Some v = sym (ap (λ (o : Ordering). match_ordering o (member_at key (members_in more)) (Some (document e.1)) (member_at key (members_in more))) before) ∙ at in
    let above : slice_cmp nat_cmp (string_bytes e.0) key ≡ Less = found (λ k d. slice_cmp nat_cmp (string_bytes e.0) k ≡ Less) more key v (keys_above (string_bytes e.0) more h.0) rest in
    let flipped : Less ≡ Greater = sym before ∙ nat_list_cmp_total.antisymm key (string_bytes e.0) ∙ ap ordering_reverse above in
    absurd cc
fit_before (x ∷ done) e more key v h all before at =
    elim (at_cases (slice_cmp nat_cmp key (string_bytes x.0)) (document x.1) v (member_at key (members_in (done ++ e ∷ more))) at) [
      | inl q ↦ subst (λ (k : List ℕ). may_stand k v ≡ true) (sym (same_key key (string_bytes x.0) q.0)) (subst (λ (d : Document). may_stand (string_bytes x.0) d ≡ true) q.1 all.0)
      | inr q ↦ fit_before done e more key v h.1 all.1 before q
    ]

pub first_unfit : (es done : List Entry) (e : Entry) (more : List Entry) → es ≡ done ++ e ∷ more → IsStrictlySortedBy string_cmp (keys_of es) → AllFit done → may_stand (string_bytes e.0) (document e.1) ≡ false
    → IsFirstKey (IsUnfit (object (members_in es))) (string_bytes e.0)
first_unfit es done e more cut sorted all unfit =
    let risen = subst (λ x. IsStrictlySortedBy string_cmp (keys_of x)) cut sorted in
    subst (λ (x : List Entry). IsFirstKey (IsUnfit (object (members_in x))) (string_bytes e.0)) (sym cut) record {
      breaks = (document e.1, entry_at done e more risen, unfit);
      first = λ other before h. false≢true (sym h.2 ∙ fit_before done e more other h.0 risen all before h.1);
    }

-- ---- missing keys

-- each key stands before each later one
abbrev rises : List (List ℕ) → Bool
rises [] = true
rises (k ∷ ks) = list_all (λ l. is_lt (slice_cmp nat_cmp k l)) ks && rises ks

-- the required keys, by whether the worker type and the provisioner are given
abbrev required_by : Bool → Bool → List (List ℕ)
required_by w p =
    codes "created" ∷ codes "deadline" ∷ codes "metadata" ∷ codes "payload"
    ∷ (cond w (codes "provisionerId" ∷ []) [] ++ (cond (p || w) [] (codes "taskQueueId" ∷ []) ++ cond p (codes "workerType" ∷ []) []))

required_rises : (d : Document) → rises (required d) ≡ true
required_rises d = elim (has (codes "workerType") d) as (λ w. rises (required_by w (has (codes "provisionerId") d)) ≡ true) [
  | true ↦ elim (has (codes "provisionerId") d) as (λ p. rises (required_by true p) ≡ true) [ true ↦ refl | false ↦ refl ]
  | false ↦ elim (has (codes "provisionerId") d) as (λ p. rises (required_by false p) ≡ true) [ true ↦ refl | false ↦ refl ]
]

pub or_cases : (a b : Bool) → (a || b) ≡ true → (a ≡ true) ⊎ (b ≡ true)
or_cases true b e = inl refl
or_cases false b e = inr e

none_head : (b : Bool) (k : List ℕ) (rest : Option (List ℕ)) → cond (not b) (Some k) rest ≡ None → (b ≡ true) × (rest ≡ None)
none_head true k rest e = (refl, e)
none_head false k rest e = absurd cc

some_head : (b : Bool) (k key : List ℕ) (rest : Option (List ℕ)) → cond (not b) (Some k) rest ≡ Some key → ((b ≡ false) × (k ≡ key)) ⊎ ((b ≡ true) × (rest ≡ Some key))
some_head true k key rest e = inr (refl, e)
some_head false k key rest e = inl (refl, cc)

none_missing : (d : Document) (ks : List (List ℕ)) → find (λ k. not (has k d)) ks ≡ None → (key : List ℕ) → ¬ ((is_among ks key ≡ true) × (has key d ≡ false))
none_missing d [] e key h = false≢true h.0
none_missing d (k ∷ ks) e key h =
    let head = none_head (has k d) k (find (λ k. not (has k d)) ks) e in
    elim (or_cases (bytes_eq k key) (is_among ks key) h.0) [
      | inl q ↦ false≢true (sym h.1 ∙ ap (λ (x : List ℕ). has x d) (sym (bytes_same k key q)) ∙ head.0)
      | inr q ↦ none_missing d ks head.1 key (q, h.1)
    ]

less_of : (o : Ordering) → is_lt o ≡ true → o ≡ Less
less_of Less e = refl
less_of Equal e = absurd (false≢true e)
less_of Greater e = absurd (false≢true e)

and_left : (a b : Bool) → (a && b) ≡ true → a ≡ true
and_left true b e = refl
and_left false b e = e

and_right : (a b : Bool) → (a && b) ≡ true → b ≡ true
and_right true b e = e
and_right false b e = absurd (false≢true e)

above_all : (k : List ℕ) (ks : List (List ℕ)) (other : List ℕ) → list_all (λ l. is_lt (slice_cmp nat_cmp k l)) ks ≡ true → is_among ks other ≡ true → slice_cmp nat_cmp k other ≡ Less
above_all k [] other all e = absurd (false≢true e)
above_all k (l ∷ ks) other all e =
    elim (or_cases (bytes_eq l other) (is_among ks other) e) [
      | inl q ↦ ap (slice_cmp nat_cmp k) (sym (bytes_same l other q)) ∙ less_of (slice_cmp nat_cmp k l) (and_left (is_lt (slice_cmp nat_cmp k l)) (list_all (λ l. is_lt (slice_cmp nat_cmp k l)) ks) all)
      | inr q ↦ above_all k ks other (and_right (is_lt (slice_cmp nat_cmp k l)) (list_all (λ l. is_lt (slice_cmp nat_cmp k l)) ks) all) q
    ]

not_both : (a b : List ℕ) → slice_cmp nat_cmp a b ≡ Less → slice_cmp nat_cmp b a ≡ Less → ⊥
not_both a b h g = let flipped : Less ≡ Greater = sym h ∙ nat_list_cmp_total.antisymm a b ∙ ap ordering_reverse g in absurd cc

-- the first of rising keys that passes
record IsFirstOf (d : Document) (ks : List (List ℕ)) (key : List ℕ) : Type 0 where
  among : is_among ks key ≡ true
  lacks : has key d ≡ false
  first : (other : List ℕ) → IsBefore other key → ¬ ((is_among ks other ≡ true) × (has other d ≡ false))

or_right : (a b : Bool) → b ≡ true → (a || b) ≡ true
or_right true b e = refl
or_right false b e = e

bytes_itself : (a : List ℕ) → bytes_eq a a ≡ true
bytes_itself a = (bytes_eq-Decides a a).1 refl

first_of : (d : Document) (ks : List (List ℕ)) (key : List ℕ) → rises ks ≡ true → find (λ k. not (has k d)) ks ≡ Some key → IsFirstOf d ks key
first_of d [] key up e = absurd cc
first_of d (k ∷ ks) key up e =
    elim (some_head (has k d) k key (find (λ k. not (has k d)) ks) e) [
      | inl q ↦ record {
        among = ap (λ (b : Bool). b || is_among ks key) (ap (bytes_eq k) (sym q.1) ∙ bytes_itself k);
        lacks = ap (λ (x : List ℕ). has x d) (sym q.1) ∙ q.0;
        first = λ other before h.
            elim (or_cases (bytes_eq k other) (is_among ks other) h.0) [
              | inl p ↦ let flat : Less ≡ Equal = sym before ∙ ap (slice_cmp nat_cmp other) (sym q.1 ∙ bytes_same k other p) ∙ tied other in absurd cc
              | inr p ↦ not_both other key before (ap (λ (x : List ℕ). slice_cmp nat_cmp x other) (sym q.1) ∙ above_all k ks other (and_left (list_all (λ l. is_lt (slice_cmp nat_cmp k l)) ks) (rises ks) up) p)
            ];
      }
      | inr q ↦ let rest = first_of d ks key (and_right (list_all (λ l. is_lt (slice_cmp nat_cmp k l)) ks) (rises ks) up) q.1 in
          record {
            among = or_right (bytes_eq k key) (is_among ks key) rest.among;
            lacks = rest.lacks;
            first = λ other before h.
                elim (or_cases (bytes_eq k other) (is_among ks other) h.0) [
                  | inl p ↦ false≢true (sym h.1 ∙ ap (λ (x : List ℕ). has x d) (sym (bytes_same k other p)) ∙ q.0)
                  | inr p ↦ rest.first other before (p, h.1)
                ];
          }
    ]

pub required_missing : (d : Document) (missing : Option (Bor (List ℕ))) → option_map (λ k. k.now) missing ≡ find (λ k. not (has k d)) (required d)
    → MatchOption missing (Holds (IsMissing d)) (λ key. IsFirstKey (IsMissing d) key.now)
required_missing d None h = none_missing d (required d) (sym h)
required_missing d (Some key) h =
    let first = first_of d (required d) key.now (required_rises d) (sym h) in
    record { breaks = (first.among, first.lacks); first = first.first }

-- ---- the first of both

three : (o : Ordering) → (o ≡ Less) ⊎ ((o ≡ Equal) ⊎ (o ≡ Greater))
three Less = inl refl
three Equal = inr (inl refl)
three Greater = inr (inr refl)

below_both : (other q p : List ℕ) → slice_cmp nat_cmp other p ≡ Less → is_lt (slice_cmp nat_cmp q p) ≡ false → slice_cmp nat_cmp other q ≡ Less
below_both other q p lt le =
    elim (three (slice_cmp nat_cmp p q)) [
      | inl h ↦ nat_list_cmp_total.trans other p q lt h
      | inr h ↦ elim h [
        | inl g ↦ sym (ap (slice_cmp nat_cmp other) (same_key p q g)) ∙ lt
        | inr g ↦ absurd (false≢true (sym le ∙ ap is_lt (nat_list_cmp_total.antisymm q p ∙ ap ordering_reverse g)))
      ]
    ]

pub both_hold : (P Q : List ℕ → Type 0) → Holds P → Holds Q → Holds (λ key. P key ⊎ Q key)
both_hold P Q p q key h = elim h [ inl x ↦ p key x | inr x ↦ q key x ]

pub first_left : (P Q : List ℕ → Type 0) (key : List ℕ) → IsFirstKey P key → ((other : List ℕ) → IsBefore other key → ¬ Q other) → IsFirstKey (λ k. P k ⊎ Q k) key
first_left P Q key p q = record { breaks = inl p.breaks; first = λ other before h. elim h [ inl x ↦ p.first other before x | inr x ↦ q other before x ] }

pub first_right : (P Q : List ℕ → Type 0) (key : List ℕ) → IsFirstKey Q key → ((other : List ℕ) → IsBefore other key → ¬ P other) → IsFirstKey (λ k. P k ⊎ Q k) key
first_right P Q key q p = record { breaks = inr q.breaks; first = λ other before h. elim h [ inl x ↦ p other before x | inr x ↦ q.first other before x ] }

-- of two first keys the lesser is first of both
pub first_lesser : (P Q : List ℕ → Type 0) (p q : List ℕ) → IsFirstKey P p → IsFirstKey Q q → slice_cmp nat_cmp q p ≡ Less → IsFirstKey (λ k. P k ⊎ Q k) q
first_lesser P Q p q hp hq lt = first_right P Q q hq (λ other before. hp.first other (nat_list_cmp_total.trans other q p before lt))

pub first_other : (P Q : List ℕ → Type 0) (p q : List ℕ) → IsFirstKey P p → IsFirstKey Q q → is_lt (slice_cmp nat_cmp q p) ≡ false → IsFirstKey (λ k. P k ⊎ Q k) p
first_other P Q p q hp hq le = first_left P Q p hp (λ other before. hq.first other (below_both other q p before le))

pub all_done : (es done rest : List Entry) → es ≡ done ++ rest → rest ≡ [] → AllFit done → Holds (IsUnfit (object (members_in es)))
all_done es done rest cut end all =
    let whole : es ≡ done = cut ∙ ap (λ (x : List Entry). done ++ x) end ∙ append-nil done in
    subst (λ (x : List Entry). Holds (IsUnfit (object (members_in x)))) (sym whole) (none_unfit done all)

abbrev now_of : Option (Bor (List ℕ)) → Option (List ℕ)
now_of o = option_map (λ k. k.now) o

-- what a search for the first broken key tells
abbrev pub Finds : (List ℕ → Type 0) → Option (List ℕ) → Type 0
Finds Broken found = MatchOption found (Holds Broken) (IsFirstKey Broken)

by_test : (P Q : List ℕ → Type 0) (p q : List ℕ) (b : Bool) → is_lt (slice_cmp nat_cmp q p) ≡ b → IsFirstKey P p → IsFirstKey Q q → Finds (λ k. P k ⊎ Q k) (cond b (Some q) (Some p))
by_test P Q p q true e hp hq = first_lesser P Q p q hp hq (less_of (slice_cmp nat_cmp q p) e)
by_test P Q p q false e hp hq = first_other P Q p q hp hq e

lesser_finds : (P Q : List ℕ → Type 0) (p q : Option (List ℕ)) → Finds P p → Finds Q q → Finds (λ k. P k ⊎ Q k) (lesser p q)
lesser_finds P Q None None hp hq = both_hold P Q hp hq
lesser_finds P Q None (Some q) hp hq = first_right P Q q hq (λ other before. hp other)
lesser_finds P Q (Some p) None hp hq = first_left P Q p hp (λ other before. hq other)
lesser_finds P Q (Some p) (Some q) hp hq = by_test P Q p q (is_lt (slice_cmp nat_cmp q p)) refl hp hq

seen_finds : (P : List ℕ → Type 0) (o : Option (Bor (List ℕ))) → MatchOption o (Holds P) (λ key. IsFirstKey P key.now) → Finds P (now_of o)
seen_finds P None h = h
seen_finds P (Some k) h = h

finds_seen : (P : List ℕ → Type 0) (o : Option (Bor (List ℕ))) → Finds P (now_of o) → MatchOption o (Holds P) (λ key. IsFirstKey P key.now)
finds_seen P None h = h
finds_seen P (Some k) h = h

pub keys_of_map : (d : Document) (es : List Entry) (unfit missing result : Option (Bor (List ℕ))) → d ≡ object (members_in es)
    → MatchOption unfit (Holds (IsUnfit (object (members_in es)))) (λ key. IsFirstKey (IsUnfit (object (members_in es))) key.now)
    → MatchOption missing (Holds (IsMissing d)) (λ key. IsFirstKey (IsMissing d) key.now)
    → now_of result ≡ lesser (now_of unfit) (now_of missing)
    → MatchOption result (Holds (KeyBreaks d)) (λ key. IsFirstKey (KeyBreaks d) key.now)
keys_of_map d es unfit missing result is hu hm e =
    let at_map : Finds (KeyBreaks (object (members_in es))) (now_of result) =
    subst (λ (o : Option (List ℕ)). Finds (KeyBreaks (object (members_in es))) o) (sym e)
    (lesser_finds (IsUnfit (object (members_in es))) (IsMissing (object (members_in es))) (now_of unfit) (now_of missing) (seen_finds _ unfit hu)
    (subst (λ (x : Document). Finds (IsMissing x) (now_of missing)) is (seen_finds (IsMissing d) missing hm))) in
    finds_seen (KeyBreaks d) result (subst (λ (x : Document). Finds (KeyBreaks x) (now_of result)) (sym is) at_map)

-- ---- what must stand, stands

abbrev first_four : List (List ℕ)
first_four = codes "created" ∷ codes "deadline" ∷ codes "metadata" ∷ codes "payload" ∷ []

has_by : (d : Document) (key : List ℕ) (b : Bool) → has key d ≡ b → Holds (IsMissing d) → is_among (required d) key ≡ true → has key d ≡ true
has_by d key true e holds among = e
has_by d key false e holds among = absurd (holds key (among, e))

pub none_missing_in : (d : Document) → Holds (KeyBreaks d) → Holds (IsMissing d)
none_missing_in null holds key h = holds [] refl
none_missing_in (boolean b) holds key h = holds [] refl
none_missing_in (whole z) holds key h = holds [] refl
none_missing_in (text t) holds key h = holds [] refl
none_missing_in (array ds) holds key h = holds [] refl
none_missing_in (object ms) holds key h = holds key (inr h)

pub has_created : (d : Document) → Holds (KeyBreaks d) → has (codes "created") d ≡ true
has_created d holds = has_by d (codes "created") _ refl (none_missing_in d holds) refl

pub has_deadline : (d : Document) → Holds (KeyBreaks d) → has (codes "deadline") d ≡ true
has_deadline d holds = has_by d (codes "deadline") _ refl (none_missing_in d holds) refl

pub has_metadata : (d : Document) → Holds (KeyBreaks d) → has (codes "metadata") d ≡ true
has_metadata d holds = has_by d (codes "metadata") _ refl (none_missing_in d holds) refl

among_worker : (w p : Bool) → p ≡ true → is_among (required_by w p) (codes "workerType") ≡ true
among_worker true true e = refl
among_worker false true e = refl
among_worker w false e = absurd (false≢true e)

among_provisioner : (w p : Bool) → w ≡ true → is_among (required_by w p) (codes "provisionerId") ≡ true
among_provisioner true true e = refl
among_provisioner true false e = refl
among_provisioner false p e = absurd (false≢true e)

among_queue : (w p : Bool) → w ≡ false → p ≡ false → is_among (required_by w p) (codes "taskQueueId") ≡ true
among_queue false false e f = refl
among_queue true p e f = absurd (false≢true (sym e))
among_queue false true e f = absurd (false≢true (sym f))

-- a provisioner needs its worker type
pub has_worker : (d : Document) → Holds (KeyBreaks d) → has (codes "provisionerId") d ≡ true → has (codes "workerType") d ≡ true
has_worker d holds p =
    has_by d (codes "workerType") _ refl (none_missing_in d holds)
    (among_worker (has (codes "workerType") d) (has (codes "provisionerId") d) p)

no_worker_by : (d : Document) (w : Bool) → has (codes "workerType") d ≡ w → Holds (KeyBreaks d) → has (codes "provisionerId") d ≡ false → has (codes "workerType") d ≡ false
no_worker_by d false e holds p = e
no_worker_by d true e holds p =
    absurd (none_missing_in d holds (codes "provisionerId") (among_provisioner (has (codes "workerType") d) (has (codes "provisionerId") d) e, p))

-- without a provisioner there is no worker type
pub no_worker : (d : Document) → Holds (KeyBreaks d) → has (codes "provisionerId") d ≡ false → has (codes "workerType") d ≡ false
no_worker d holds p = no_worker_by d (has (codes "workerType") d) refl holds p

-- without both the queue is named whole
pub has_queue : (d : Document) → Holds (KeyBreaks d) → has (codes "provisionerId") d ≡ false → has (codes "taskQueueId") d ≡ true
has_queue d holds p =
    has_by d (codes "taskQueueId") _ refl (none_missing_in d holds)
    (among_queue (has (codes "workerType") d) (has (codes "provisionerId") d) (no_worker d holds p) p)

pub none_at : (o : Option Document) → is_some o ≡ false → o ≡ None
none_at None e = refl
none_at (Some x) e = absurd (false≢true (sym e))
