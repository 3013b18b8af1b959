-- What an opening found.
use Rattle.std.specs.Prelude.{◌≡◌, ◌≢◌, ℕ, List, [], length}
use Rattle.disk_base.specs.Contents.{Contents}
use Rattle.disk_journal.specs.declared.bodies.Bodies.{Bodies}
use Rattle.disk_journal.specs.declared.fault.OpenFault.{OpenFault}
use Rattle.disk_journal.specs.declared.fault.OpenFault.TheVariants.{Damaged}
use Rattle.disk_journal.specs.Bodies.{bodies_in, places_in}
use Rattle.disk_journal.specs.Keeping.{IsReady}
use Rattle.disk_journal.specs.Opening.{ClosesGate}
use Rattle.disk_journal.specs.Records.{records, Opens, IsDamagedBehind, placed}

-- the bodies, and each with the place of its gate
abbrev pub opened_bodies : Bodies → List (List ℕ)
opened_bodies b = bodies_in b.file.items b.spans.items

abbrev pub opened_places : Bodies → List (ℕ × List ℕ)
opened_places b = places_in b.file.items b.spans.items

-- A journal was opened: each body that was found stands at its place, and the end place behind them; and where the disk tells what it holds, they
-- are the bodies that its file opens to, ready, and nothing but the gate at the end place was written.
pub record HasFound (tells : Type 0) (file : List ℕ) (disk : Contents) (end : ℕ) (found : Bodies) : Type 0 where
  pub opens : tells → Opens [] file (opened_bodies found)
  pub places : opened_places found ≡ placed 0 (opened_bodies found)
  pub ready : tells → IsReady [] disk end (opened_bodies found)
  pub place : end ≡ length (records (opened_bodies found))
  pub gate : tells → ClosesGate file end disk.bytes

-- A journal was not opened: beside a fault that is no damage there are no bodies, and else each stands at its place; and where the disk tells what
-- it holds, the damage is the file's, and they are the bodies before it.
pub record HasBefore (tells : Type 0) (file : List ℕ) (fault : OpenFault) (before : Bodies) : Type 0 where
  pub damaged : tells → (place : ℕ) → fault ≡ Damaged place → IsDamagedBehind [] file (opened_bodies before) place
  pub undamaged : ((place : ℕ) → fault ≢ Damaged place) → opened_bodies before ≡ []
  pub places : opened_places before ≡ placed 0 (opened_bodies before)
