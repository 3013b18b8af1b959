-- How the parts of a load go together.
use Rattle.std.proofs.Common.{◌≡◌, ℕ, zero, suc, ◌+◌, ◌-◌, ◌*◌, ◌/◌, ◌%◌, ◌^◌, ◌<◌, ◌≤◌, Option, Some, None, Result, Ok, Err, OnOk, subst₂, List, [], ◌∷◌, ◌++◌, replicate, refl, sym, ◌∙◌, ap, subst, arith, append_assoc, append-nil}
use Rattle.std.proofs.Math.Nat.{div-add-mod, div-mul-le_self}
use Rattle.farm_machine.specs.State.{State}
use Rattle.farm_bulk.specs.Bulk.{creations, after_draws, parts_of, AreCreated, Works, ends, goes_on}
use Rattle.farm_bulk.specs.Connections.{Converses}
use Rattle.load_requests.specs.Generator.{next, drawn}
use Rattle.farm_bulk.specs.Replies.{IsTold}
use Rattle.load_requests.specs.Requests.{creation_text, claim_text, report_text}
use Rattle.load_requests.specs.declared.requests.ClaimedRun.{ClaimedRun}

-- ---- creations over one connection

-- one more of those that are left
left_more : (number finish : ℕ) → number < finish → finish - number ≡ suc (finish - (number + 1))
left_more number finish within = omega arith

pub creations-start : (first count x : ℕ) → creations (first + count - first) first x ≡ creations count first x
creations-start first count x = let left : first + count - first ≡ count = omega arith in ap (λ n. creations n first x) left

pub creations-next : (text request : List ℕ) (number finish x : ℕ) → number < finish → request ≡ creation_text number (drawn (next x)) → (text ++ request) ++ creations (finish - (number + 1)) (number + 1) (next x) ≡ text ++ creations (finish - number) number x
creations-next text request number finish x within is =
    rw (left_more number finish within, is) (append_assoc text (creation_text number (drawn (next x))) (creations (finish - (number + 1)) (number + 1) (next x)))

pub creations-end : (text : List ℕ) (number finish x : ℕ) → finish ≤ number → text ++ creations (finish - number) number x ≡ text
creations-end text number finish x past = let left : finish - number ≡ 0 = omega arith in rw left (append-nil text)

pub after_draws-start : (first count x : ℕ) → after_draws (first + count - first) x ≡ after_draws count x
after_draws-start first count x = let left : first + count - first ≡ count = omega arith in ap (λ n. after_draws n x) left

pub after_draws-next : (number finish x : ℕ) → number < finish → after_draws (finish - (number + 1)) (next x) ≡ after_draws (finish - number) x
after_draws-next number finish x within = rw (left_more number finish within) refl

pub after_draws-end : (number finish x : ℕ) → finish ≤ number → x ≡ after_draws (finish - number) x
after_draws-end number finish x past = let left : finish - number ≡ 0 = omega arith in rw left refl

-- ---- many connections

pub after_draws-add : (m n x : ℕ) → after_draws (m + n) x ≡ after_draws n (after_draws m x)
after_draws-add zero n x = let none : zero + n ≡ n = omega arith in rw none refl
after_draws-add (suc m) n x = let more : suc m + n ≡ suc (m + n) = omega arith in rw more (after_draws-add m n (next x))

-- as much is drawn over all connections as for all tasks
pub after_draws-all : (tasks x : ℕ) → after_draws (tasks % 1000) (after_draws (tasks / 1000 * 1000) x) ≡ after_draws tasks x
after_draws-all tasks x =
    let whole : tasks / 1000 * 1000 + tasks % 1000 ≡ tasks = omega (arith, div-add-mod tasks 1000) in
    sym (after_draws-add (tasks / 1000 * 1000) (tasks % 1000) x) ∙ ap (λ n. after_draws n x) whole

-- no connection is made yet
pub AreCreated-start : (tasks x : ℕ) (before after : State) → AreCreated (replicate (tasks / 1000 - 0) 1000 ++ (tasks % 1000) ∷ []) (0 * 1000) x before after → AreCreated (parts_of tasks) 0 x before after
AreCreated-start tasks x before after left = let all : tasks / 1000 - 0 ≡ tasks / 1000 = omega arith in rw all at left

-- one of those that are left is made, and others follow
pub AreCreated-next : (part full rest x x' : ℕ) (before between after : State) (written : List ℕ) → part < full → x' ≡ after_draws 1000 x → Converses before between (creations 1000 (part * 1000) x) written
    → AreCreated (replicate (full - (part + 1)) 1000 ++ rest ∷ []) ((part + 1) * 1000) x' between after → AreCreated (replicate (full - part) 1000 ++ rest ∷ []) (part * 1000) x before after
AreCreated-next part full rest x x' before between after written within drawn_on talk left =
    let first : (part + 1) * 1000 ≡ part * 1000 + 1000 = omega arith in
    rw (left_more part full within) (between, written, talk, rw (first, drawn_on) at left)

-- the last one
pub AreCreated-last : (part full rest x : ℕ) (before after : State) (written : List ℕ) → part ≡ full → Converses before after (creations rest (full * 1000) x) written → AreCreated (replicate (full - part) 1000 ++ rest ∷ []) (part * 1000) x before after
AreCreated-last part full rest x before after written same talk =
    let none : full - part ≡ 0 = omega arith in
    rw (none, same) (after, written, talk, refl)

-- ---- claims

-- one claim more of those that there are asks for
pub left_claims : (most counter : ℕ) (left now : ℕ) → counter < most → 1000 * (most - counter) ≤ left → left ≤ now + 1000 → 1000 * (most - (counter + 1)) ≤ now
left_claims most counter left now within enough used =
    let more = left_more counter most within in
    let sum : 1000 * (most - counter) ≡ 1000 * (most - (counter + 1)) + 1000 = rw more (omega arith) in
    omega arith

-- ---- room

-- a connection has asks left
pub room_left : (tasks part old now : ℕ) → tasks < 2 ^ 32 → part ≤ tasks / 1000 → 2 ^ 33 ≤ old → old ≤ now + part * 1000 → 1000 ≤ now
room_left tasks part old now few within room used =
    let most = div-mul-le_self tasks 1000 in
    omega (arith, most)

-- and all of them use so many at most
pub spare_left : (tasks part old now new : ℕ) → tasks < 2 ^ 32 → part ≤ tasks / 1000 → old ≤ now + part * 1000 → now ≤ new + 1000 → old ≤ new + 2 ^ 33
spare_left tasks part old now new few within used more =
    let most = div-mul-le_self tasks 1000 in
    omega (arith, most)

pub spare_more : (part old now new : ℕ) → old ≤ now + part * 1000 → now ≤ new + 1000 → old ≤ new + (part + 1) * 1000
spare_more part old now new used more = omega arith

pub draws_more : (part x y z : ℕ) → y ≡ after_draws (part * 1000) x → z ≡ after_draws 1000 y → z ≡ after_draws ((part + 1) * 1000) x
draws_more part x y z first more =
    let sum : part * 1000 + 1000 ≡ (part + 1) * 1000 = omega arith in
    more ∙ (ap (after_draws 1000) first ∙ (sym (after_draws-add (part * 1000) 1000 x) ∙ ap (λ n. after_draws n x) sum))

pub draws_last : (tasks part x y z : ℕ) → part ≡ tasks / 1000 → y ≡ after_draws (part * 1000) x → z ≡ after_draws (tasks % 1000) y → z ≡ after_draws tasks x
draws_last tasks part x y z full first more = more ∙ (ap (after_draws (tasks % 1000)) (first ∙ ap (λ n. after_draws (n * 1000) x) full) ∙ after_draws-all tasks x)

-- what follows from what a call that is done gave
pub OnOk-map : {T E : Type 0} (r : Result T E) (P Q : Type 0) → (P → Q) → OnOk r P → OnOk r Q
OnOk-map (Ok t) P Q follows is = follows is
OnOk-map (Err e) P Q follows is = is

-- ---- a worker

pub Works-ends : (before after : State) (x : ℕ) (report first written : List ℕ) (claimed : Option ClaimedRun) → first ≡ report → Converses before after (first ++ claim_text) written → IsTold written claimed → claimed ≡ None → Works before x report after
Works-ends before after x report first written claimed same talk told none =
    ends written (subst (λ (r : List ℕ). Converses before after (r ++ claim_text) written) same talk) (subst (IsTold written) none told)

pub Works-goes : (before between after : State) (x x' draw : ℕ) (report first written text : List ℕ) (claimed : Option ClaimedRun) (run : ClaimedRun) → first ≡ report → Converses before between (first ++ claim_text) written → IsTold written claimed → claimed ≡ Some run
    → x' ≡ next x → draw ≡ drawn x' → text ≡ report_text run draw → Works between x' text after → Works before x report after
Works-goes before between after x x' draw report first written text claimed run same talk told some number drew said rest =
    let reported : text ≡ report_text run (drawn (next x)) = said ∙ ap (report_text run) (drew ∙ ap drawn number) in
    goes_on written run between (subst (λ (r : List ℕ). Converses before between (r ++ claim_text) written) same talk) (subst (IsTold written) some told) (subst₂ (λ (y : ℕ) (t : List ℕ). Works between y t after) number reported rest)
