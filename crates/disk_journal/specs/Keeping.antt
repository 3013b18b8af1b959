-- What a journal at work has on its disk, and what appends do to it. All rules are own.
use Rattle.std.specs.Prelude.{◌≡◌, ℕ, ◌+◌, List, [], ◌∷◌, ◌++◌, length, Result, OnOk}
use Rattle.disk_base.specs.Contents.{Contents, LeftNow, IsSettled, StopsLeave}
use Rattle.disk_base.specs.Calls.{written, Torn}
use Rattle.disk_journal.specs.Records.{records, AreSized}
use Rattle.disk_journal.specs.Images.{IsWithin}

-- Nothing is pending, and the file has these bodies and then a closed gate at the end place.
pub record IsReady (head : List ℕ) (disk : Contents) (end : ℕ) (bodies : List (List ℕ)) : Type 0 where
  pub settled : IsSettled disk
  pub rest : List ℕ
  pub file : disk.bytes ≡ head ++ records bodies ++ 0 ∷ rest
  pub place : end ≡ length head + length (records bodies)
  pub sizes : AreSized bodies

-- What appends did to a journal, whatever bodies it had: those that are kept are on the disk, and after them the failed one, at most one, may be.
pub record Keeps (head : List ℕ) (old : Contents) (old_end : ℕ) (new : Contents) (new_end : ℕ) (kept failed : List (List ℕ)) : Type 0 where
  pub ready : failed ≡ [] → (bodies : List (List ℕ)) → IsReady head old old_end bodies → IsReady head new new_end (bodies ++ kept)
  pub images : (bodies : List (List ℕ)) → IsReady head old old_end bodies → (image : List ℕ) → LeftNow new image → IsWithin head (bodies ++ kept) failed image
  pub stops : (bodies : List (List ℕ)) → IsReady head old old_end bodies → StopsLeave old new (IsWithin head bodies (kept ++ failed))

-- A write that is synced at once, on a disk where nothing is pending.
pub record Puts {T E : Type 0} (at : ℕ) (bytes : List ℕ) (old new : Contents) (result : Result T E) : Type 0 where
  pub done : OnOk result (new.bytes ≡ written at bytes old.bytes)
  pub settled : OnOk result (IsSettled new)
  pub stops : StopsLeave old new (Torn at (length bytes) old.bytes)
