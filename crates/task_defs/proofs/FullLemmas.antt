-- A full form says the definition that it is of, and keeps the rules that this keeps.
use Rattle.std.proofs.Common.{◌≡◌, ◌⊎◌, ℕ, suc, pos, ◌<◌, ◌≤◌, Bool, true, false, ◌&&◌, nat_le, List, [], ◌∷◌, map, codes, Option, Some, None, unwrap_or, Ordering, Less, Equal, Greater, nat_cmp, refl, sym, ap, ◌∙◌, subst, inl, inr, arith}
use Rattle.std.proofs.lemmas.Bool.{false≢true, cases_lt}
use Rattle.std.proofs.lemmas.List.Elements.{All-from_recursion, All-nil}
use Rattle.std.specs.List.{AllByRecursion, IsDistinct, filter_map}
use Rattle.std.specs.Str.{bytes_eq}
use Rattle.std.specs.Ordering.{match_ordering}
use Rattle.std.specs.Cmp.Lexicographic.{slice_cmp}
use Rattle.farm_text.specs.Slug.{IsUuid4, IsSlug, slug_text, slug_of}
use Rattle.serde_json.specs.Data.{items_depth}
use Rattle.farm_text.specs.Document.{Document, null, boolean, whole, text, array, object, items_of, Members, no_members, member, member_at, get, items_data}
use Rattle.task_types.specs.Forms.{IsIdentifier, IsIdentifierByte, IsProject, IsProjectByte}
use Rattle.task_types.specs.Choices.{priority_name, priority_of, requires_name, requires_of}
use Rattle.task_defs.specs.Documents.{nesting}
use Rattle.task_defs.specs.Values.{IsTextOf, Ill, IsTextList, IsRetries, text_or, texts_in, slug_or, retries_in, members_or_none}
use Rattle.task_types.specs.Maps.{AreTags}
use Rattle.task_defs.specs.Keys.{has, is_among, may_stand, IsUnfit, KeyBreaks}
use Rattle.task_defs.specs.Faults.{Holds}
use Rattle.task_defs.specs.Definitions.{text_list}
use Rattle.task_types.specs.declared.choices.Priority.{Priority}
use Rattle.task_types.specs.declared.choices.Priority.TheVariants.{Highest, VeryHigh, High, Medium, Low, VeryLow, Lowest}
use Rattle.task_types.specs.declared.choices.Requires.{Requires}
use Rattle.task_types.specs.declared.choices.Requires.TheVariants.{AllCompleted, AllResolved}
use Rattle.task_defs.proofs.KeyLemmas.{same_key, bytes_same, or_cases}
use Rattle.task_defs.proofs.TextLemmas.{texts_in_list}
use Rattle.task_defs.proofs.IdLemmas.{uuid_of, slugs_back}

-- ---- what stands at a key of a full form is of its form

pub text_form : (Form : List ℕ → Type 0) (default : List ℕ) (o : Option Document) → Form default → (¬ Ill (IsTextOf Form) o) → ¬ Ill (IsTextOf Form) (Some (text (text_or default o)))
text_form Form default None at_default well ill = ill at_default
text_form Form default (Some null) at_default well ill = well (λ f. f)
text_form Form default (Some (boolean b)) at_default well ill = well (λ f. f)
text_form Form default (Some (whole z)) at_default well ill = well (λ f. f)
text_form Form default (Some (text t)) at_default well ill = well ill
text_form Form default (Some (array ds)) at_default well ill = well (λ f. f)
text_form Form default (Some (object ms)) at_default well ill = well (λ f. f)

no_texts : (most : ℕ) (Form : List ℕ → Type 0) → IsTextList most Form (text_list [])
unfolding IsDistinct
no_texts most Form = ([], record { is = refl; few = omega arith; once = tt }, All-nil Form)

pub texts_form : (most : ℕ) (Form : List ℕ → Type 0) (o : Option Document) → (¬ Ill (IsTextList most Form) o) → ¬ Ill (IsTextList most Form) (Some (text_list (texts_in o)))
texts_form most Form None well ill = ill (no_texts most Form)
texts_form most Form (Some v) well ill = well (λ h.
    ill (subst (IsTextList most Form) (h.1.is ∙ ap text_list (sym (texts_in_list v h.0 h.1.is))) h))

abbrev ids_in : Option Document → List (List ℕ)
ids_in o = filter_map slug_of (texts_in o)

pub ids_form : (most : ℕ) (o : Option Document) → (¬ Ill (IsTextList most IsSlug) o) → ¬ Ill (IsTextList most IsSlug) (Some (text_list (map slug_text (ids_in o))))
ids_form most None well ill = ill (no_texts most IsSlug)
ids_form most (Some v) well ill = well (λ h.
    let back : map slug_text (ids_in (Some v)) ≡ h.0 =
    ap (λ (ts : List (List ℕ)). map slug_text (filter_map slug_of ts)) (texts_in_list v h.0 h.1.is) ∙ slugs_back h.0 h.2 in
    ill (subst (IsTextList most IsSlug) (h.1.is ∙ ap text_list (sym back)) h))

pub retries_form : (o : Option Document) → (¬ Ill IsRetries o) → ¬ Ill IsRetries (Some (whole (pos (retries_in o))))
retries_form None well ill = ill (omega arith)
retries_form (Some null) well ill = well (λ f. f)
retries_form (Some (boolean b)) well ill = well (λ f. f)
retries_form (Some (whole (pos n))) well ill = well ill
retries_form (Some (whole z)) well ill = well (λ f. f)
retries_form (Some (text t)) well ill = well (λ f. f)
retries_form (Some (array ds)) well ill = well (λ f. f)
retries_form (Some (object ms)) well ill = well (λ f. f)

pub tags_form : (o : Option Document) → (¬ Ill AreTags o) → ¬ Ill AreTags (Some (object (members_or_none o)))
tags_form None well ill = ill tt
tags_form (Some null) well ill = well (λ f. f)
tags_form (Some (boolean b)) well ill = well (λ f. f)
tags_form (Some (whole z)) well ill = well (λ f. f)
tags_form (Some (text t)) well ill = well (λ f. f)
tags_form (Some (array ds)) well ill = well (λ f. f)
tags_form (Some (object ms)) well ill = well ill

pub requires_back : (r : Requires) → requires_of (requires_name r) ≡ Some r
requires_back AllCompleted = refl
requires_back AllResolved = refl

pub priority_back : (p : Priority) → priority_of (priority_name p) ≡ Some p
priority_back Highest = refl
priority_back VeryHigh = refl
priority_back High = refl
priority_back Medium = refl
priority_back Low = refl
priority_back VeryLow = refl
priority_back Lowest = refl

by_slug : (t id : List ℕ) (found : Option (List ℕ)) → slug_of t ≡ found → IsUuid4 id → IsUuid4 (unwrap_or found id)
by_slug t id None is u = u
by_slug t id (Some s) is u = uuid_of t s is

-- the group is a UUID, where the task's id is
pub group_uuid : (id : List ℕ) (o : Option Document) → IsUuid4 id → IsUuid4 (slug_or id o)
group_uuid id None u = u
group_uuid id (Some null) u = u
group_uuid id (Some (boolean b)) u = u
group_uuid id (Some (whole z)) u = u
group_uuid id (Some (text t)) u = by_slug t id (slug_of t) refl u
group_uuid id (Some (array ds)) u = u
group_uuid id (Some (object ms)) u = u

pub default_project : IsProject (codes "none")
default_project = record {
  some = omega arith;
  short = omega arith;
  bytes = All-from_recursion IsProjectByte (codes "none") (inl (inr (omega arith, omega arith)), (inl (inr (omega arith, omega arith)), (inl (inr (omega arith, omega arith)), (inl (inr (omega arith, omega arith)), tt))));
}

pub default_scheduler : IsIdentifier (codes "-")
default_scheduler = record { some = omega arith; short = omega arith; bytes = All-from_recursion IsIdentifierByte (codes "-") (inr (inr refl), tt) }

-- ---- keys

at_cases : (o : Ordering) (d v : Document) (rest : Option Document) → match_ordering o rest (Some d) rest ≡ Some v → ((o ≡ Equal) × (d ≡ v)) ⊎ (rest ≡ Some v)
at_cases Less d v rest e = inr e
at_cases Equal d v rest e = inl (refl, cc)
at_cases Greater d v rest e = inr e

-- each member is so
abbrev pub AllMembers : (List ℕ → Document → Type 0) → Members → Type 0
AllMembers P no_members = Unit {0}
AllMembers P (member k d ms) = P k d × AllMembers P ms

-- what holds of each member holds of what stands at a key
pub found_among : (P : List ℕ → Document → Type 0) (ms : Members) (key : List ℕ) (v : Document) → AllMembers P ms → member_at key ms ≡ Some v → P key v
found_among P no_members key v all e = absurd cc
found_among P (member k d ms) key v all e =
    elim (at_cases (slice_cmp nat_cmp key k) d v (member_at key ms) e) [
      | inl h ↦ subst (λ (x : List ℕ). P x v) (sym (same_key key k h.0)) (subst (λ (x : Document). P k x) h.1 all.0)
      | inr h ↦ found_among P ms key v all.1 h
    ]

-- where each of some keys stands, none of them is missing
pub none_lacks : (d : Document) (ks : List (List ℕ)) (key : List ℕ) → AllByRecursion (λ k. has k d ≡ true) ks → is_among ks key ≡ true → has key d ≡ false → ⊥
none_lacks d [] key all among lacks = false≢true among
none_lacks d (k ∷ ks) key all among lacks =
    elim (or_cases (bytes_eq k key) (is_among ks key) among) [
      | inl h ↦ false≢true (sym lacks ∙ ap (λ (x : List ℕ). has x d) (sym (bytes_same k key h)) ∙ all.0)
      | inr h ↦ none_lacks d ks key all.1 h lacks
    ]

texts_depth : (ts : List (List ℕ)) → items_depth (items_data (items_of (map text ts))) ≡ 0
texts_depth [] = refl
texts_depth (t ∷ ts) = omega (arith, texts_depth ts)

-- a list of texts nests once
pub texts_nest : (ts : List (List ℕ)) → nat_le (nesting (text_list ts)) 126 ≡ true
texts_nest ts = ap (λ n. nat_le (suc n) 126) (texts_depth ts)

and_right : (a b : Bool) → (a && b) ≡ true → b ≡ true
and_right true b e = e
and_right false b e = absurd (false≢true e)

none_unfit : (x : Document) → Holds (KeyBreaks x) → Holds (IsUnfit x)
none_unfit null h k w = h [] refl
none_unfit (boolean b) h k w = h [] refl
none_unfit (whole z) h k w = h [] refl
none_unfit (text t) h k w = h [] refl
none_unfit (array ds) h k w = h [] refl
none_unfit (object ms) h k w = h k (inl w)

fit_by : (d : Document) (key : List ℕ) (v : Document) (b : Bool) → may_stand key v ≡ b → Holds (KeyBreaks d) → get key d ≡ Some v → may_stand key v ≡ true
fit_by d key v true is holds at = is
fit_by d key v false is holds at = absurd (none_unfit d holds key (v, at, is))

pub fit_in : (d : Document) (key : List ℕ) (v : Document) → Holds (KeyBreaks d) → get key d ≡ Some v → may_stand key v ≡ true
fit_in d key v holds at = fit_by d key v (may_stand key v) refl holds at

-- the map at a key nests as deep as it did
pub members_nest : (key : List ℕ) (o : Option Document) → ((v : Document) → o ≡ Some v → may_stand key v ≡ true) → nat_le (nesting (object (members_or_none o))) 126 ≡ true
members_nest key None fit = refl
members_nest key (Some null) fit = refl
members_nest key (Some (boolean b)) fit = refl
members_nest key (Some (whole z)) fit = refl
members_nest key (Some (text t)) fit = refl
members_nest key (Some (array ds)) fit = refl
members_nest key (Some (object ms)) fit = and_right _ (nat_le (nesting (object ms)) 126) (fit (object ms) refl)

-- ---- what is not untrue of numbers

pub less_stable : (a b : ℕ) → ¬ ¬ (a < b) → a < b
less_stable a b h = elim (cases_lt a b) [ inl lt ↦ lt | inr le ↦ absurd (h (λ lt. omega arith)) ]

pub most_stable : (a b : ℕ) → ¬ ¬ (a ≤ b) → a ≤ b
most_stable a b h = elim (cases_lt b a) [ inl lt ↦ absurd (h (λ le. omega arith)) | inr le ↦ le ]
