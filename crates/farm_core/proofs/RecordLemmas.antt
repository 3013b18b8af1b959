-- Records one for one, and what asks keep of them one after the other.
use Rattle.std.proofs.Common.{◌≡◌, ℕ, ◌+◌, ◌-◌, ◌^◌, ◌<◌, ◌≤◌, min, List, [], ◌∷◌, ◌++◌, length, refl, subst, arith}
use Rattle.std.proofs.Math.ListN.{length-append}
use Rattle.disk_base.specs.Contents.{Contents}
use Rattle.disk_journal.specs.Keeping.{IsReady, Keeps}
use Rattle.disk_journal.specs.Records.{records}
use Rattle.disk_journal.proofs.KeepsLemmas.{Keeps-none, Keeps-then, few-records}
use Rattle.task_types.specs.declared.change.Change.{Change}
use Rattle.farm_record.specs.Records.{IsRecord}
use Rattle.farm_core.specs.Records.{AreRecords, KeepsRecords}

pub records-append : (changes more : List Change) (bodies others : List (List ℕ)) → AreRecords changes bodies → AreRecords more others → AreRecords (changes ++ more) (bodies ++ others)
records-append [] more [] others are them = them
records-append [] more (body ∷ bodies) others are them = cc
records-append (change ∷ changes) more [] others are them = absurd are
records-append (change ∷ changes) more (body ∷ bodies) others are them = (are.0, records-append changes more bodies others are.1 them)

-- nothing was kept
pub KeepsRecords-none : (disk : Contents) (end : ℕ) → KeepsRecords disk end disk end [] []
KeepsRecords-none disk end = record { bodies = []; others = []; recorded = refl; pending = refl; keeps = Keeps-none [] disk end }

-- one record was kept
pub KeepsRecords-one : (old : Contents) (old_end : ℕ) (new : Contents) (new_end : ℕ) (change : Change) (body : List ℕ) → IsRecord change body → Keeps [] old old_end new new_end (body ∷ []) [] → KeepsRecords old old_end new new_end (change ∷ []) []
KeepsRecords-one old old_end new new_end change body is keeps = record { bodies = body ∷ []; others = []; recorded = (is, refl); pending = refl; keeps = keeps }

-- one record failed
pub KeepsRecords-failed : (old : Contents) (old_end : ℕ) (new : Contents) (new_end : ℕ) (change : Change) (body : List ℕ) → IsRecord change body → Keeps [] old old_end new new_end [] (body ∷ []) → KeepsRecords old old_end new new_end [] (change ∷ [])
KeepsRecords-failed old old_end new new_end change body is keeps = record { bodies = []; others = body ∷ []; recorded = refl; pending = (is, refl); keeps = keeps }

-- some records, and then others
pub KeepsRecords-then : (a : Contents) (a_end : ℕ) (b : Contents) (b_end : ℕ) (c : Contents) (c_end : ℕ) (first second failed : List Change)
    → KeepsRecords a a_end b b_end first [] → KeepsRecords b b_end c c_end second failed → KeepsRecords a a_end c c_end (first ++ second) failed
KeepsRecords-then a a_end b b_end c c_end first second failed p q =
    let whole : Keeps [] a a_end b b_end p.bodies [] = subst (λ (l : List (List ℕ)). Keeps [] a a_end b b_end p.bodies l) p.pending p.keeps in
    record {
      bodies = p.bodies ++ q.bodies;
      others = q.others;
      recorded = records-append first second p.bodies q.bodies p.recorded q.recorded;
      pending = q.pending;
      keeps = Keeps-then [] a a_end b b_end c c_end p.bodies q.bodies q.others whole q.keeps;
    }

-- a journal that kept one more is ready behind it, and has one more: it has no more records than bytes
pub one-more : (old : Contents) (old_end old_count : ℕ) (new : Contents) (new_end new_count : ℕ) (body : List ℕ) → Keeps [] old old_end new new_end (body ∷ []) [] → new_count ≡ min (old_count + 1) (2 ^ 64 - 1) → new_end < 2 ^ 63
    → (bodies : List (List ℕ)) × IsReady [] old old_end bodies × (old_count ≡ length bodies) → (bodies : List (List ℕ)) × IsReady [] new new_end bodies × (new_count ≡ length bodies)
one-more old old_end old_count new new_end new_count body keeps counts within (bodies, ready, had) =
    let now = keeps.ready refl bodies ready in
    let place : new_end ≡ length (records (bodies ++ body ∷ [])) = omega (arith, now.place) in
    let few : length (bodies ++ body ∷ []) ≤ length (records (bodies ++ body ∷ [])) = few-records (bodies ++ body ∷ []) in
    let long : length (bodies ++ body ∷ []) ≡ length bodies + 1 = length-append bodies (body ∷ []) in
    (bodies ++ body ∷ [], now, omega arith)
