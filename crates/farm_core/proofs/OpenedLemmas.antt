-- What the opening of a farm finds, from what the opening of its journal and its replay found.
use Rattle.std.proofs.Common.{◌≡◌, ℕ, List, [], length, None, Ok, Err, refl, sym, ◌∙◌, ap, subst, inl, inr}
use Rattle.disk_base.specs.Contents.{Contents as Disk, IsSettled}
use Rattle.disk_journal.specs.Keeping.{IsReady}
use Rattle.disk_journal.specs.Opening.{IsStill, ClosesGate, HasOpenCause}
use Rattle.disk_journal.specs.Records.{Opens, IsDamagedBehind}
use Rattle.disk_journal.proofs.AppendLemmas.{ready_image}
use Rattle.disk_journal.proofs.LawLemmas.{opens_one, opens_whole, image_opens}
use Rattle.disk_journal.specs.declared.fault.OpenFault.{OpenFault}
use Rattle.disk_journal.specs.declared.fault.OpenFault.TheVariants as faults
use Rattle.task_index.specs.Contents.{Contents}
use Rattle.farm_core.specs.Opened.{Replays, HasBodies, IsFarmDamaged, KeepsRefused, HasOpened}
use Rattle.farm_core.specs.Reading.{IsRestored, IsFirstFault}

-- all bodies were replayed
pub has-opened : (tells : Type 0) (file : List ℕ) (disk : Disk) (end count : ℕ) (bodies : List (List ℕ)) (contents : Contents) → (tells → Opens [] file bodies) → (tells → IsReady [] disk end bodies) → (tells → ClosesGate file end disk.bytes) → count ≡ length bodies
    → Replays bodies contents → HasOpened tells file disk end count contents
has-opened tells file disk end count bodies contents opens ready gate counted replays =
    record { bodies = bodies; replays = replays; counted = counted; opens = opens; ready = ready; gate = gate }

-- one was broken
pub restored-damaged : (file : List ℕ) (bodies : List (List ℕ)) (fault : OpenFault) (place : ℕ) → HasBodies file bodies → IsRestored bodies (Err fault) → fault ≡ faults.Damaged place → IsFarmDamaged file place
restored-damaged file bodies fault place opens restored is =
    let P : OpenFault → Type 0 = λ f. IsRestored bodies (Err f) in
    inr (bodies, opens, subst P is restored)

-- replaying calls no disk
pub restored-no_disk : (bodies : List (List ℕ)) (fault : OpenFault) → IsRestored bodies (Err fault) → fault ≡ faults.Disk → ⊥
restored-no_disk bodies fault restored is =
    let P : OpenFault → Type 0 = λ f. IsRestored bodies (Err f) in
    subst P is restored

-- one was broken before a journal's damage, or none was
pub first-damaged : (file : List ℕ) (bodies : List (List ℕ)) (fault first : OpenFault) (place : ℕ) → ((at : ℕ) → fault ≡ faults.Damaged at → IsDamagedBehind [] file bodies at) → IsFirstFault bodies fault first
    → first ≡ faults.Damaged place → IsFarmDamaged file place
first-damaged file bodies (faults.Damaged at) first place behind (inl none) is =
    let same : at ≡ place = cc in
    inl (bodies, subst (λ n. IsDamagedBehind [] file bodies n) same (behind at refl), none.1)
first-damaged file bodies (faults.Damaged at) first place behind (inr restored) is = restored-damaged file bodies first place (inr (at, behind at refl)) restored is
first-damaged file bodies faults.NoMemory first place behind found is = cc
first-damaged file bodies faults.Disk first place behind found is = cc

-- the first fault is one of the disk exactly where the journal's is
pub first-disk : (bodies : List (List ℕ)) (fault first : OpenFault) → IsFirstFault bodies fault first → first ≡ faults.Disk → fault ≡ faults.Disk
first-disk bodies (faults.Damaged at) first (inl none) is = cc
first-disk bodies (faults.Damaged at) first (inr restored) is = absurd (restored-no_disk bodies first restored is)
first-disk bodies faults.NoMemory first found is = cc
first-disk bodies faults.Disk first found is = refl

pub disk-first : (bodies : List (List ℕ)) (fault first : OpenFault) → IsFirstFault bodies fault first → fault ≡ faults.Disk → first ≡ faults.Disk
disk-first bodies (faults.Damaged at) first found is = cc
disk-first bodies faults.NoMemory first found is = cc
disk-first bodies faults.Disk first found is = found

-- what calls of the disk an opening counts, where all was replayed, where a body was broken, and where the journal was not opened
pub opened-cause : {T U : Type 0} (old now : ℕ) (journal : T) (farm : U) → HasOpenCause {T = T} old now (Ok journal) → HasOpenCause {T = U} old now (Ok farm)
opened-cause old now journal farm opening = record { later = opening.later; failed = λ is. cc; kept = opening.kept; spared = λ fault other is. cc }

pub restored-cause : {T U : Type 0} (old now : ℕ) (journal : T) (bodies : List (List ℕ)) (fault : OpenFault) → HasOpenCause {T = T} old now (Ok journal) → IsRestored bodies (Err fault) → HasOpenCause {T = U} old now (Err fault)
restored-cause old now journal bodies fault opening restored = record {
  later = opening.later;
  failed = λ is. let disk : fault ≡ faults.Disk = cc in absurd (restored-no_disk bodies fault restored disk);
  kept = tt;
  spared = λ told other is. opening.kept;
}

pub first-cause : {T U : Type 0} (old now : ℕ) (bodies : List (List ℕ)) (fault first : OpenFault) → HasOpenCause {T = T} old now (Err fault) → IsFirstFault bodies fault first → HasOpenCause {T = U} old now (Err first)
first-cause old now bodies fault first opening found = record {
  later = opening.later;
  failed = λ is. let disk : first ≡ faults.Disk = cc in opening.failed (ap Err (first-disk bodies fault first found disk));
  kept = tt;
  spared = λ told other is. let same : first ≡ told = cc in opening.spared fault (λ disk. other (sym same ∙ disk-first bodies fault first found disk)) refl;
}

-- a disk whose journal was not opened is as it was, and nothing is pending
pub still-keeps : (old new : Disk) → IsStill old new → IsSettled new → KeepsRefused old new
still-keeps old new still settled = record {
  as_it_was = λ place damaged. still;
  untouched = λ bodies opens image left. subst (λ (l : List ℕ). Opens [] l bodies) (sym (settled image left ∙ still.same)) opens;
}

-- one whose journal was opened has it at work
pub opened-keeps : (old new : Disk) (end : ℕ) (bodies : List (List ℕ)) → Opens [] old.bytes bodies → IsReady [] new end bodies → KeepsRefused old new
opened-keeps old new end bodies opens ready = record {
  as_it_was = λ place damaged. absurd (opens_whole [] old.bytes bodies place opens damaged);
  untouched = λ others opened image left.
      let now : Opens [] new.bytes bodies = image_opens [] bodies None new.bytes (ready_image [] new end bodies ready) in
      let same : bodies ≡ others = opens_one [] old.bytes bodies others opens opened in
      subst (λ (l : List (List ℕ)). Opens [] image l) same (subst (λ (l : List ℕ). Opens [] l bodies) (sym (ready.settled image left)) now);
}
