-- The members of a map, and what they come to.
use Rattle.std.proofs.Common.{◌≡◌, ℕ, List, Option, Some, None, Ordering, Less, Equal, Greater, is_eq, nat_cmp, refl, sym, subst}
use Rattle.std.specs.Bool.{MatchBool}
use Rattle.std.specs.Cmp.Lexicographic.{slice_cmp}
use Rattle.std.specs.Ordering.{match_ordering}
use Rattle.farm_text.specs.Document.{Document, null, boolean, whole, text, array, object, Members, no_members, member, member_at}
use Rattle.farm_text.specs.Reading.{escaped}
use Rattle.jsone_render.specs.Answers.{LacksMap}
use Rattle.jsone_render.specs.Outcomes.{Outcome, given}
use Rattle.jsone_render.specs.Templates.{Under, Renders, MemberRenders, BranchRenders, InnerRenders}
use Rattle.jsone_render.proofs.OutcomeLemmas.{value_under}

pub some_is : (d e : Document) → Some d ≡ Some e → d ≡ e
some_is d e h = cc

at_member : (c : Ordering) (d e : Document) (rest : Option Document) (Here There : Type 0) → match_ordering c rest (Some e) rest ≡ Some d → (e ≡ d → Here) → (rest ≡ Some d → There) → MatchBool (is_eq c) Here There
at_member Less d e rest Here There h here there = there h
at_member Equal d e rest Here There h here there = here (some_is e d h)
at_member Greater d e rest Here There h here there = there h

at_none : (c : Ordering) (e : Document) (rest : Option Document) (Here There : Type 0) → match_ordering c rest (Some e) rest ≡ None → (rest ≡ None → There) → MatchBool (is_eq c) Here There
at_none Less e rest Here There h there = there h
at_none Equal e rest Here There h there = absurd (cc)
at_none Greater e rest Here There h there = there h

pub member_found : (key : List ℕ) (ms : Members) (d : Document) (scopes : List Document) (n : ℕ) (o : Outcome (Option Document)) → member_at key ms ≡ Some d → Under (escaped key) (Renders d scopes n) o → MemberRenders key ms scopes n o
member_found key no_members d scopes n o h under = absurd (cc)
member_found key (member k e ms) d scopes n o h under =
    at_member (slice_cmp nat_cmp key k) d e (member_at key ms) (Under (escaped key) (Renders e scopes n) o) (MemberRenders key ms scopes n o) h
    (λ same. subst (λ x. Under (escaped key) (Renders x scopes n) o) (sym same) under) (λ more. member_found key ms d scopes n o more under)

pub member_missing : (key : List ℕ) (ms : Members) (scopes : List Document) (n : ℕ) → member_at key ms ≡ None → MemberRenders key ms scopes n (given None n)
member_missing key no_members scopes n h = refl
member_missing key (member k e ms) scopes n h =
    at_none (slice_cmp nat_cmp key k) e (member_at key ms) (Under (escaped key) (Renders e scopes n) (given None n)) (MemberRenders key ms scopes n (given None n)) h (λ more. member_missing key ms scopes n more)

pub branch_found : (key inner : List ℕ) (ms : Members) (d : Document) (scopes : List Document) (n : ℕ) (o : Outcome (Option Document)) → member_at key ms ≡ Some d → Under (escaped key) (InnerRenders inner d scopes n) o → BranchRenders key inner ms scopes n o
branch_found key inner no_members d scopes n o h under = absurd (cc)
branch_found key inner (member k e ms) d scopes n o h under =
    at_member (slice_cmp nat_cmp key k) d e (member_at key ms) (Under (escaped key) (InnerRenders inner e scopes n) o) (BranchRenders key inner ms scopes n o) h
    (λ same. subst (λ x. Under (escaped key) (InnerRenders inner x scopes n) o) (sym same) under) (λ more. branch_found key inner ms d scopes n o more under)

pub branch_missing : (key inner : List ℕ) (ms : Members) (scopes : List Document) (n : ℕ) → member_at key ms ≡ None → BranchRenders key inner ms scopes n (given None n)
branch_missing key inner no_members scopes n h = refl
branch_missing key inner (member k e ms) scopes n h =
    at_none (slice_cmp nat_cmp key k) e (member_at key ms) (Under (escaped key) (InnerRenders inner e scopes n) (given None n)) (BranchRenders key inner ms scopes n (given None n)) h (λ more. branch_missing key inner ms scopes n more)

no_inner : (inner : List ℕ) (d : Document) (scopes : List Document) (n : ℕ) → LacksMap (Some d) → InnerRenders inner d scopes n (given None n)
no_inner inner (object ms) scopes n h = absurd h
no_inner inner null scopes n h = refl
no_inner inner (boolean b) scopes n h = refl
no_inner inner (whole z) scopes n h = refl
no_inner inner (text bs) scopes n h = refl
no_inner inner (array ds) scopes n h = refl

-- where no map stands at the key
pub no_branches : (key inner : List ℕ) (ms : Members) (scopes : List Document) (n : ℕ) (x : Option Document) → member_at key ms ≡ x → LacksMap x → BranchRenders key inner ms scopes n (given None n)
no_branches key inner ms scopes n None e h = branch_missing key inner ms scopes n e
no_branches key inner ms scopes n (Some d) e h = branch_found key inner ms d scopes n (given None n) e (value_under (escaped key) (InnerRenders inner d scopes n) None n (no_inner inner d scopes n h))
