-- How far the open records of a file were followed.
use Rattle.std.specs.Prelude.{◌≡◌, ℕ, ◌<◌, ◌⊎◌, List, [], ◌++◌, length, drop}
use Rattle.disk_journal.specs.declared.spans.Span.{Span}
use Rattle.disk_journal.specs.declared.spans.Followed.{Followed}
use Rattle.disk_journal.specs.declared.spans.Followed.TheVariants.{End, Damaged}
use Rattle.disk_journal.specs.Records.{records, AreSized, EndsBefore, IsDamagedBehind, placed}
use Rattle.disk_journal.specs.Bodies.{bodies_in, places_in}

-- the file has these bodies up to this place, and behind the last of them there is a byte
pub record Reaches (file : List ℕ) (spans : List Span) (at : ℕ) : Type 0 where
  pub whole : file ≡ records (bodies_in file spans) ++ drop at file
  pub sizes : AreSized (bodies_in file spans)
  pub place : at ≡ length (records (bodies_in file spans))
  pub behind : (spans ≡ []) ⊎ (at < length file)
  pub places : places_in file spans ≡ placed 0 (bodies_in file spans)

-- the open records of a file end there, or it is damaged there
abbrev pub IsFollowed : List ℕ → Followed → Type 0
IsFollowed file (End spans end) = Reaches file spans.items end × EndsBefore (bodies_in file spans.items) (drop end file)
IsFollowed file (Damaged spans place) = Reaches file spans.items place × IsDamagedBehind [] file (bodies_in file spans.items) place
