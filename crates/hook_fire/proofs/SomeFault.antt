-- Rules are kept, or one is broken at a first key.
use Rattle.std.proofs.Common.{◌≡◌, ◌⊎◌, inl, inr, ℕ, Bool, true, false, ◌++◌, List, [], ◌∷◌, Option, Some, Ordering, Less, Equal, Greater, nat_cmp, refl, sym, subst, ◌∙◌}
use Rattle.std.specs.Ordering.{match_ordering}
use Rattle.std.specs.Str.{bytes_eq}
use Rattle.std.specs.Cmp.{tied_itself}
use Rattle.std.specs.Cmp.Lexicographic.{slice_cmp}
use Rattle.std.proofs.lemmas.Bool.{false≢true}
use Rattle.std.proofs.lemmas.Cmp.{nat_list_cmp_total}
use Rattle.farm_text.specs.Document.{Document, null, boolean, whole, text, array, object, Members, no_members, member, member_at}
use Rattle.jsone_eval.proofs.Existence.{follow, split}
use Rattle.jsone_render.specs.Maps.{keys_of}
use Rattle.task_defs.specs.declared.fault.DefFault.{DefFault}
use Rattle.task_defs.specs.Definitions.{rules, IsTooLong}
use Rattle.task_defs.specs.Faults.{Rule, Holds, IsFirstKey, IsFault, AllHold}
use Rattle.task_defs.specs.Keys.{KeyBreaks, is_among, required}
use Rattle.task_defs.specs.Rules.{At}
use Rattle.task_defs.proofs.KeyLemmas.{bytes_same, same_key}

abbrev Before : List ℕ → List ℕ → Type 0
Before a b = slice_cmp nat_cmp a b ≡ Less

not_before_itself : (a : List ℕ) → Before a a → ⊥
not_before_itself a h = let flat : Less ≡ Equal = sym h ∙ tied_itself nat_list_cmp_total a in absurd cc

-- ---- the least of some keys

-- the key is one of these
abbrev pub Among : List ℕ → List (List ℕ) → Type 0
Among key [] = ⊥
Among key (k ∷ ks) = (key ≡ k) ⊎ Among key ks

record Least (Broken : List ℕ → Type 0) (ks : List (List ℕ)) : Type 0 where
  pub key : List ℕ
  pub breaks : Broken key
  pub least : (other : List ℕ) → Among other ks → Before other key → ¬ Broken other

abbrev NoneOf : (List ℕ → Type 0) → List (List ℕ) → Type 0
NoneOf Broken ks = (other : List ℕ) → Among other ks → ¬ Broken other

none_more : (Broken : List ℕ → Type 0) (k : List ℕ) (ks : List (List ℕ)) → ¬ Broken k → NoneOf Broken ks → NoneOf Broken (k ∷ ks)
none_more Broken k ks kept none other (inl e) broken = kept (subst Broken e broken)
none_more Broken k ks kept none other (inr more) broken = none other more broken

past_kept : (Broken : List ℕ → Type 0) (k : List ℕ) (ks : List (List ℕ)) (l : Least Broken ks) → ¬ Broken k → (other : List ℕ) → Among other (k ∷ ks) → Before other l.key → ¬ Broken other
past_kept Broken k ks l kept other (inl e) before broken = kept (subst Broken e broken)
past_kept Broken k ks l kept other (inr more) before broken = l.least other more before broken

past_later : (Broken : List ℕ → Type 0) (k : List ℕ) (ks : List (List ℕ)) (l : Least Broken ks) → ¬ Before k l.key → (other : List ℕ) → Among other (k ∷ ks) → Before other l.key → ¬ Broken other
past_later Broken k ks l later other (inl e) before broken = later (subst (λ o. Before o l.key) e before)
past_later Broken k ks l later other (inr more) before broken = l.least other more before broken

before_first : (Broken : List ℕ → Type 0) (k : List ℕ) (ks : List (List ℕ)) → ((other : List ℕ) → Among other ks → Before other k → ¬ Broken other) → (other : List ℕ) → Among other (k ∷ ks) → Before other k → ¬ Broken other
before_first Broken k ks none other (inl e) before broken = not_before_itself k (subst (λ o. Before o k) e before)
before_first Broken k ks none other (inr more) before broken = none other more before broken

with_broken : (Broken : List ℕ → Type 0) (k : List ℕ) (ks : List (List ℕ)) → Broken k → (Least Broken ks ⊎ NoneOf Broken ks) → ¬ ¬ Least Broken (k ∷ ks)
with_broken Broken k ks broken (inr none) = λ not_so. not_so record { key = k; breaks = broken; least = before_first Broken k ks (λ other among before. none other among) }
with_broken Broken k ks broken (inl l) = split {A = Before k l.key}
    (λ earlier not_so. not_so record {
      key = k;
      breaks = broken;
      least = before_first Broken k ks (λ other among before. l.least other among (nat_list_cmp_total.trans other k l.key before earlier));
    })
    (λ later not_so. not_so record { key = l.key; breaks = l.breaks; least = past_later Broken k ks l later })

with_kept : (Broken : List ℕ → Type 0) (k : List ℕ) (ks : List (List ℕ)) → ¬ Broken k → (Least Broken ks ⊎ NoneOf Broken ks) → Least Broken (k ∷ ks) ⊎ NoneOf Broken (k ∷ ks)
with_kept Broken k ks kept (inl l) = inl record { key = l.key; breaks = l.breaks; least = past_kept Broken k ks l kept }
with_kept Broken k ks kept (inr none) = inr (none_more Broken k ks kept none)

some_least : (Broken : List ℕ → Type 0) (ks : List (List ℕ)) → ¬ ¬ (Least Broken ks ⊎ NoneOf Broken ks)
some_least Broken [] = λ none. none (inr (λ other among. absurd among))
some_least Broken (k ∷ ks) = follow (some_least Broken ks) (λ h. split {A = Broken k}
    (λ broken none. with_broken Broken k ks broken h (λ l. none (inl l)))
    (λ kept none. none (with_kept Broken k ks kept h)))

-- a rule is broken at a first key, or kept, where some keys alone can break it
some_first_key : (Broken : List ℕ → Type 0) (ks : List (List ℕ)) → ((key : List ℕ) → Broken key → Among key ks) → ¬ ¬ (((key : List ℕ) × IsFirstKey Broken key) ⊎ Holds Broken)
some_first_key Broken ks within = follow {C = ((key : List ℕ) × IsFirstKey Broken key) ⊎ Holds Broken} (some_least Broken ks) (λ h none. elim h [
  | inl l ↦ none (inl (l.key, record { breaks = l.breaks; first = λ other before broken. l.least other (within other broken) before broken }))
  | inr lacks ↦ none (inr (λ key broken. lacks key (within key broken) broken))
])

-- ---- the least rule

-- some keys alone can break it
abbrev pub IsBounded : (List ℕ → Type 0) → Type 0
IsBounded Broken = (ks : List (List ℕ)) × ((key : List ℕ) → Broken key → Among key ks)

abbrev pub AreBounded : List Rule → Type 0
AreBounded [] = Unit {0}
AreBounded (r ∷ rs) = IsBounded r.Broken × AreBounded rs

past_rule : (r : Rule) (rs : List Rule) → Holds r.Broken → (((f : DefFault) × IsFault rs f) ⊎ AllHold rs) → ((f : DefFault) × IsFault (r ∷ rs) f) ⊎ AllHold (r ∷ rs)
past_rule r rs holds (inl fault) = inl (fault.0, inr (holds, fault.1))
past_rule r rs holds (inr all) = inr (holds, all)

pub some_fault : (rs : List Rule) → AreBounded rs → ¬ ¬ (((f : DefFault) × IsFault rs f) ⊎ AllHold rs)
some_fault [] bounded = λ none. none (inr tt)
some_fault (r ∷ rs) bounded = follow {C = ((f : DefFault) × IsFault (r ∷ rs) f) ⊎ AllHold (r ∷ rs)} (some_first_key r.Broken bounded.0.0 bounded.0.1) (λ h. elim h [
  | inl first ↦ λ none. none (inl (record { rule = r.number; key = first.0 }, inl (refl, first.1)))
  | inr holds ↦ follow {C = ((f : DefFault) × IsFault (r ∷ rs) f) ⊎ AllHold (r ∷ rs)} (some_fault rs bounded.1) (λ k none. none (past_rule r rs holds k))
])

-- ---- the rules of a definition

at_one : (name : List ℕ) (W : Type 0) → IsBounded (At name W)
at_one name W = (name ∷ [], λ key h. inl h.0)

at_two : (a b : List ℕ) (A B : Type 0) → IsBounded (λ key. At a A key ⊎ At b B key)
at_two a b A B = (a ∷ b ∷ [], λ key h. elim h [ inl x ↦ inl x.0 | inr x ↦ inr (inl x.0) ])

at_three : (a b c : List ℕ) (A B C : Type 0) → IsBounded (λ key. At a A key ⊎ At b B key ⊎ At c C key)
at_three a b c A B C = (a ∷ b ∷ c ∷ [], λ key h. elim h [ inl x ↦ inl x.0 | inr x ↦ elim x [ inl y ↦ inr (inl y.0) | inr y ↦ inr (inr (inl y.0)) ] ])

among_left : (key : List ℕ) (ks ls : List (List ℕ)) → Among key ks → Among key (ks ++ ls)
among_left key [] ls none = absurd none
among_left key (k ∷ ks) ls (inl e) = inl e
among_left key (k ∷ ks) ls (inr more) = inr (among_left key ks ls more)

among_right : (key : List ℕ) (ks ls : List (List ℕ)) → Among key ls → Among key (ks ++ ls)
among_right key [] ls among = among
among_right key (k ∷ ks) ls among = inr (among_right key ks ls among)

named_by : (key name : List ℕ) (names : List (List ℕ)) (b : Bool) → bytes_eq name key ≡ b → is_among (name ∷ names) key ≡ true → (is_among names key ≡ true → Among key names) → Among key (name ∷ names)
named_by key name names true same among more = inl (sym (bytes_same name key same))
named_by key name names false other among more = let rest : is_among names key ≡ true = rw other at among in inr (more rest)

among_names : (key : List ℕ) (names : List (List ℕ)) → is_among names key ≡ true → Among key names
among_names key [] among = absurd (false≢true among)
among_names key (name ∷ names) among = named_by key name names (bytes_eq name key) refl among (among_names key names)

at_or_behind : (key k : List ℕ) (d v : Document) (rest : Option Document) (ks : List (List ℕ)) (o : Ordering) → slice_cmp nat_cmp key k ≡ o → match_ordering o rest (Some d) rest ≡ Some v → (rest ≡ Some v → Among key ks) → Among key (k ∷ ks)
at_or_behind key k d v rest ks Less e at more = inr (more at)
at_or_behind key k d v rest ks Equal e at more = inl (same_key key k e)
at_or_behind key k d v rest ks Greater e at more = inr (more at)

among_keys : (key : List ℕ) (ms : Members) (v : Document) → member_at key ms ≡ Some v → Among key (keys_of ms)
among_keys key no_members v at = absurd cc
among_keys key (member k d ms) v at = at_or_behind key k d v (member_at key ms) (keys_of ms) (slice_cmp nat_cmp key k) refl at (among_keys key ms v)

keys_bounded : (d : Document) → IsBounded (KeyBreaks d)
keys_bounded (object ms) = (
  keys_of ms ++ required (object ms),
  λ key h. elim h [
    | inl unfit ↦ among_left key (keys_of ms) (required (object ms)) (among_keys key ms unfit.0 unfit.1)
    | inr missing ↦ among_right key (keys_of ms) (required (object ms)) (among_names key (required (object ms)) missing.0)
  ],
)
keys_bounded null = ([] ∷ [], λ key e. inl e)
keys_bounded (boolean b) = ([] ∷ [], λ key e. inl e)
keys_bounded (whole z) = ([] ∷ [], λ key e. inl e)
keys_bounded (text t) = ([] ∷ [], λ key e. inl e)
keys_bounded (array ds) = ([] ∷ [], λ key e. inl e)

pub rules_bounded : (d : Document) (id : List ℕ) → AreBounded (rules d id)
rules_bounded d id = (
  keys_bounded d,
  (
    at_three _ _ _ _ _ _,
    (
      at_two _ _ _ _,
      (
        at_one _ _,
        (
          at_one _ _,
          (
            at_one _ _,
            (
              at_one _ _,
              (at_one _ _, (at_one _ _, (at_three _ _ _ _ _ _, (at_one _ _, (at_one _ _, (at_one _ _, (at_two _ _ _ _, (at_one [] (IsTooLong d id), tt)))))))),
            ),
          ),
        ),
      ),
    ),
  ),
)
