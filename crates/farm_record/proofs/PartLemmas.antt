-- What is read of each kind's fields is what was written of them.
use Rattle.std.proofs.Common.{◌≡◌, ℕ, zero, suc, ◌^◌, ◌<◌, ◌≤◌, Bool, true, false, cond, eqb, leb, List, [], ◌∷◌, ◌++◌, length, Option, Some, None, Ok, Err, Result, refl, sym, ap, subst, ◌∙◌, append_assoc, arith}
use Rattle.std.specs.Prelude.{◌&&◌}
use Rattle.std.specs.List.{flat_map, AllByRecursion}
use Rattle.std.specs.Int.{w32, to_be_bytes}
use Rattle.std.proofs.lemmas.List.{append-nil, nil_from_length}
use Rattle.std.proofs.lemmas.List.Concat.{flat_map-cons}
use Rattle.std.proofs.lemmas.Bool.{eqb-true}
use Rattle.std.proofs.lemmas.Option.{none-some}
use Rattle.farm_text.specs.Slug.{IsUuid4}
use Rattle.task_types.specs.declared.change.Reclaim.{Reclaim}
use Rattle.task_types.specs.declared.change.Report.{Report}
use Rattle.task_types.specs.declared.change.Report.TheVariants as reports
use Rattle.task_types.specs.declared.change.Resolution.{Resolution}
use Rattle.task_types.specs.declared.change.RunName.{RunName}
use Rattle.farm_record.specs.declared.unread.Unread.{Unread}
use Rattle.farm_record.specs.declared.unread.Unread.TheVariants.{NotARecord, NoMemory}
use Rattle.farm_record.specs.Fields.{IsMoment, moment_text, sized, IsRun, run_text, AreRuns, runs_text, IsReclaim, reclaim_text, report_number, IsResolution, resolution_text}
use Rattle.farm_record.specs.Reading.{◌>>=◌, Gives, Reads, pair_at, all_of, byte_at, number_at, moment_at, id_at, sized_at, run_at, names_at, runs_at, claim_at, reclaim_at, report_in, report_at, resolution_at, creation_at}
use Rattle.farm_record.proofs.FieldLemmas.{IsBytes, bind_some, guard_yes, some_is, Takes, Spells, Spells-pair, Spells-map, wide32, spells_byte, spells_number, spells_moment, spells_sized, spells_id}

-- ---- runs

pub spells_run : Spells run_text IsRun run_at
unfolding run_at
spells_run =
    Spells-map (λ (p : List ℕ × ℕ). record { id = p.0; run = p.1 }) (λ (n : RunName). (n.id, n.run)) _ _ _ (λ _. refl) (λ _. refl) (Spells-pair _ _ id_at _ _ byte_at spells_id spells_byte)

names_take : (n : ℕ) (bytes : List ℕ) (names : List RunName) (rest : List ℕ) → IsBytes bytes → names_at n bytes ≡ Some (names, rest) → Takes bytes (flat_map run_text names) rest × (length names ≡ n) × AllByRecursion IsRun names
unfolding names_at
names_take zero bytes names rest fits e =
    subst (λ (y : List RunName × List ℕ). Takes bytes (flat_map run_text y.0) y.1 × (length y.0 ≡ 0) × AllByRecursion IsRun y.0) (some_is ([], bytes) (names, rest) e) (record { parts = refl; rest_fits = fits }, refl, _)
names_take (suc n) bytes names rest fits e =
    let a = bind_some (run_at bytes) (λ first. names_at n first.1 >>= λ others. Some (first.0 ∷ others.0, others.1)) (names, rest) e in
    let b = bind_some (names_at n a.0.1) (λ others. Some (a.0.0 ∷ others.0, others.1)) (names, rest) a.2 in
    let first = spells_run.takes bytes a.0.0 a.0.1 fits a.1 in
    let second = names_take n a.0.1 b.0.0 b.0.1 first.0.rest_fits b.1 in
    let whole : bytes ≡ flat_map run_text (a.0.0 ∷ b.0.0) ++ b.0.1 =
    first.0.parts ∙ ap (λ (t : List ℕ). run_text a.0.0 ++ t) second.0.parts ∙ sym (append_assoc (run_text a.0.0) (flat_map run_text b.0.0) b.0.1) ∙ ap (λ (t : List ℕ). t ++ b.0.1) (sym (flat_map-cons run_text a.0.0 b.0.0)) in
    let is = some_is (a.0.0 ∷ b.0.0, b.0.1) (names, rest) b.2 in
    subst (λ (y : List RunName × List ℕ). Takes bytes (flat_map run_text y.0) y.1 × (length y.0 ≡ suc n) × AllByRecursion IsRun y.0) is (record { parts = whole; rest_fits = second.0.rest_fits }, ap suc second.1, (first.1, second.2))

names_again : (names : List RunName) (rest : List ℕ) → AllByRecursion IsRun names → names_at (length names) (flat_map run_text names ++ rest) ≡ Some (names, rest)
unfolding names_at
names_again [] rest fits = refl
names_again (n ∷ ns) rest fits =
    let regrouped : flat_map run_text (n ∷ ns) ++ rest ≡ run_text n ++ (flat_map run_text ns ++ rest) = ap (λ (x : List ℕ). x ++ rest) (flat_map-cons run_text n ns) ∙ append_assoc (run_text n) (flat_map run_text ns) rest in
    ap (names_at (suc (length ns))) regrouped ∙ rw (spells_run.again n (flat_map run_text ns ++ rest) fits.0, names_again ns rest fits.1) refl

few : (n : ℕ) → (leb 1 n && leb n 32) ≡ true → (1 ≤ n) × (n ≤ 32)
few n e = (grind (arith, e), grind (arith, e))

few_again : (n : ℕ) → 1 ≤ n → n ≤ 32 → (leb 1 n && leb n 32) ≡ true
few_again n low high = grind (arith, low, high)

pub spells_runs : Spells runs_text AreRuns runs_at
unfolding runs_at
spells_runs = record {
  takes = λ bytes names rest fits e.
      let a = bind_some (number_at w32 bytes) (λ n. cond (leb 1 n.0 && leb n.0 32) (names_at n.0 n.1) None) (names, rest) e in
      let g = guard_then (leb 1 a.0.0 && leb a.0.0 32) (names_at a.0.0 a.0.1) (names, rest) a.2 in
      let t = (spells_number w32 (2 ^ 32) wide32).takes bytes a.0.0 a.0.1 fits a.1 in
      let ns = names_take a.0.0 a.0.1 names rest t.0.rest_fits g.1 in
      let small = few a.0.0 g.0 in
      let whole : bytes ≡ (to_be_bytes w32 a.0.0 ++ flat_map run_text names) ++ rest =
      t.0.parts ∙ ap (λ (l : List ℕ). to_be_bytes w32 a.0.0 ++ l) ns.0.parts ∙ sym (append_assoc (to_be_bytes w32 a.0.0) (flat_map run_text names) rest) in
      let is : bytes ≡ runs_text names ++ rest = whole ∙ ap (λ (k : ℕ). (to_be_bytes w32 k ++ flat_map run_text names) ++ rest) (sym ns.1) in
      (record { parts = is; rest_fits = ns.0.rest_fits }, (omega (arith, small.0, ns.1), omega (arith, small.1, ns.1), ns.2));
  again = λ names rest fits.
      let test = few_again (length names) fits.0 fits.1 in
      let regrouped : runs_text names ++ rest ≡ to_be_bytes w32 (length names) ++ (flat_map run_text names ++ rest) = append_assoc (to_be_bytes w32 (length names)) (flat_map run_text names) rest in
      ap runs_at regrouped ∙ rw ((spells_number w32 (2 ^ 32) wide32).again (length names) (flat_map run_text names ++ rest) (omega (arith, fits.1)), test, names_again names rest fits.2) refl;
}
  where
    guard_then : {A : Type 0} (b : Bool) (r : Option A) (y : A) → cond b r None ≡ Some y → (b ≡ true) × (r ≡ Some y)
    guard_then true r y e = (refl, e)
    guard_then false r y e = absurd cc

-- ---- reports

pub none_is : {A : Type 0} (x : A) → None ≡ Some x → ⊥
none_is x e = none-some x e

-- by one test after the other
step : (n k : ℕ) (x r : Report) (rest : Option Report) → k ≡ report_number x → (rest ≡ Some r → n ≡ report_number r) → cond (eqb n k) (Some x) rest ≡ Some r → n ≡ report_number r
step n k x r rest is later e = by_test (eqb n k) refl e
  where
    by_test : (b : Bool) → eqb n k ≡ b → cond b (Some x) rest ≡ Some r → n ≡ report_number r
    by_test true same f = eqb-true n k same ∙ is ∙ ap report_number (some_is x r f)
    by_test false other f = later f

report-some : (n : ℕ) (r : Report) → report_in n ≡ Some r → n ≡ report_number r
unfolding report_in
report-some n r e =
    step n 1 reports.Completed r _ refl (step n 2 reports.Failed r _ refl (step n 3 reports.Superseded r _ refl (step n 4 reports.WorkerShutdown r _ refl
    (step n 5 reports.MalformedPayload r _ refl (step n 6 reports.ResourceUnavailable r _ refl (step n 7 reports.InternalError r _ refl
    (step n 8 reports.IntermittentTask r None refl (λ f. absurd (none_is r f))))))))) e

report-again : (r : Report) → report_in (report_number r) ≡ Some r
unfolding report_in
report-again reports.Completed = refl
report-again reports.Failed = refl
report-again reports.Superseded = refl
report-again reports.WorkerShutdown = refl
report-again reports.MalformedPayload = refl
report-again reports.ResourceUnavailable = refl
report-again reports.InternalError = refl
report-again reports.IntermittentTask = refl

report_small : (r : Report) → report_number r < 256
report_small reports.Completed = omega arith
report_small reports.Failed = omega arith
report_small reports.Superseded = omega arith
report_small reports.WorkerShutdown = omega arith
report_small reports.MalformedPayload = omega arith
report_small reports.ResourceUnavailable = omega arith
report_small reports.InternalError = omega arith
report_small reports.IntermittentTask = omega arith

pub spells_report : Spells (λ r. report_number r ∷ []) (λ _. Unit {0}) report_at
unfolding report_at
spells_report = record {
  takes = λ bytes r rest fits e.
      let a = bind_some (byte_at bytes) (λ b. report_in b.0 >>= λ r. Some (r, b.1)) (r, rest) e in
      let b = bind_some (report_in a.0.0) (λ r. Some (r, a.0.1)) (r, rest) a.2 in
      let t = spells_byte.takes bytes a.0.0 a.0.1 fits a.1 in
      let number = report-some a.0.0 b.0 b.1 in
      let whole : Takes bytes (report_number b.0 ∷ []) a.0.1 = record { parts = t.0.parts ∙ ap (λ (k : ℕ). k ∷ a.0.1) number; rest_fits = t.0.rest_fits } in
      (subst (λ (y : Report × List ℕ). Takes bytes (report_number y.0 ∷ []) y.1) (some_is (b.0, a.0.1) (r, rest) b.2) whole, _);
  again = λ r rest fits. rw (spells_byte.again (report_number r) rest (report_small r), report-again r) refl;
}

-- ---- the kinds

Spells-fits : {A : Type 0} (text : A → List ℕ) (Fits Suits : A → Type 0) (read : List ℕ → Option (A × List ℕ)) → ((a : A) → Fits a → Suits a) → ((a : A) → Suits a → Fits a) → Spells text Fits read → Spells text Suits read
Spells-fits text Fits Suits read there back one = record {
  takes = λ bytes a rest fits e. let t = one.takes bytes a rest fits e in (t.0, there a t.1);
  again = λ a rest fits. one.again a rest (back a fits);
}

pub spells_reclaim : Spells reclaim_text IsReclaim reclaim_at
unfolding reclaim_at
spells_reclaim =
    Spells-fits reclaim_text (λ (r : Reclaim). IsUuid4 r.id × ((r.run < 256) × IsMoment r.taken_until)) IsReclaim _ (λ r is. (is.0, is.1.0, is.1.1)) (λ r is. (is.0, (is.1, is.2)))
    (Spells-map (λ (p : List ℕ × (ℕ × ℕ)). record { id = p.0; run = p.1.0; taken_until = p.1.1 }) (λ (r : Reclaim). (r.id, (r.run, r.taken_until))) _ _ _ (λ _. refl) (λ _. refl)
    (Spells-pair _ _ id_at _ _ (pair_at byte_at moment_at) spells_id (Spells-pair _ _ byte_at _ _ moment_at spells_byte spells_moment)))

pub spells_resolution : Spells resolution_text IsResolution resolution_at
unfolding resolution_at
spells_resolution =
    Spells-fits resolution_text (λ (r : Resolution). IsUuid4 r.id × ((r.run < 256) × Unit {0})) IsResolution _ (λ r is. (is.0, is.1.0)) (λ r is. (is.0, (is.1, _)))
    (Spells-map (λ (p : List ℕ × (ℕ × Report)). record { id = p.0; run = p.1.0; reason = p.1.1 }) (λ (r : Resolution). (r.id, (r.run, r.reason))) _ _ _ (λ _. refl) (λ _. refl)
    (Spells-pair _ _ id_at _ _ (pair_at byte_at report_at) spells_id (Spells-pair _ _ byte_at _ _ report_at spells_byte spells_report)))

pub spells_claim : Spells (λ (p : ℕ × (List ℕ × (List ℕ × List RunName))). moment_text p.0 ++ (sized p.1.0 ++ (sized p.1.1.0 ++ runs_text p.1.1.1))) (λ p. IsMoment p.0 × ((length p.1.0 < 2 ^ 32) × ((length p.1.1.0 < 2 ^ 32) × AreRuns p.1.1.1))) claim_at
unfolding claim_at
spells_claim =
    Spells-pair _ _ moment_at _ _ (pair_at sized_at (pair_at sized_at runs_at)) spells_moment
    (Spells-pair _ _ sized_at _ _ (pair_at sized_at runs_at) spells_sized (Spells-pair _ _ sized_at _ _ runs_at spells_sized spells_runs))

pub spells_creation : Spells (λ (p : List ℕ × List ℕ). p.0 ++ sized p.1) (λ p. IsUuid4 p.0 × (length p.1 < 2 ^ 32)) creation_at
unfolding creation_at
spells_creation = Spells-pair _ _ id_at _ _ sized_at spells_id spells_sized

-- ---- all of the bytes

all-some : {A : Type 0} (read : Option (A × List ℕ)) (a : A) → all_of read ≡ Some a → read ≡ Some (a, [])
all-some (Some x) a e =
    let g = guard_yes (eqb (length x.1) 0) x.0 a e in
    let nothing : x.1 ≡ [] = nil_from_length x.1 (eqb-true _ _ g.0) in
    ap (λ (y : _). Some (y, x.1)) g.1 ∙ ap (λ (l : List ℕ). Some (a, l)) nothing
all-some None a e = absurd cc

-- what all of the bytes say
pub all_takes : {A : Type 0} (text : A → List ℕ) (Fits : A → Type 0) (read : List ℕ → Option (A × List ℕ)) → Spells text Fits read → (bytes : List ℕ) (a : A) → IsBytes bytes → all_of (read bytes) ≡ Some a → Fits a × (bytes ≡ text a)
all_takes text Fits read spells bytes a fits e =
    let t = spells.takes bytes a [] fits (all-some (read bytes) a e) in
    (t.1, t.0.parts ∙ append-nil (text a))

pub all_again : {A : Type 0} (text : A → List ℕ) (Fits : A → Type 0) (read : List ℕ → Option (A × List ℕ)) → Spells text Fits read → (bytes : List ℕ) (a : A) → Fits a × (bytes ≡ text a) → all_of (read bytes) ≡ Some a
all_again text Fits read spells bytes a is =
    let e : read bytes ≡ Some (a, []) = ap read (is.1 ∙ sym (append-nil (text a))) ∙ spells.again a [] is.0 in
    ap (λ r. all_of r) e

-- a call that gives what reading gives reads the value whose text the bytes are
pub reads_all : {A : Type 0} (text : A → List ℕ) (Fits : A → Type 0) (read : List ℕ → Option (A × List ℕ)) → Spells text Fits read → (bytes : List ℕ) → IsBytes bytes → (r : Result A Unread) → Gives (λ a. a) r (all_of (read bytes))
    → Reads (λ a. Fits a × (bytes ≡ text a)) r
reads_all text Fits read spells bytes fits (Ok a) given =
    (all_takes text Fits read spells bytes a fits given, λ b is. some_is a b (sym given ∙ all_again text Fits read spells bytes b is))
reads_all text Fits read spells bytes fits (Err NotARecord) given =
    λ a is. absurd (none_is a (sym given ∙ all_again text Fits read spells bytes a is))
reads_all text Fits read spells bytes fits (Err NoMemory) given = _
