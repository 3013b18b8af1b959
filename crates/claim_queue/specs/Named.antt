-- The places that are kept of the queues' names. The contracts of private functions alone speak of these.
use Rattle.std.specs.Prelude.{◌≡◌, ℕ, ◌<◌, List, String, length, Some}
use Rattle.std.specs.Global.{Global}
use Rattle.std.specs.BTreeMap.{BTreeMap, get_by_text}
use Rattle.claim_queue.specs.declared.queues.Queue.{Queue}
use Rattle.claim_queue.specs.Places.{name_at}

-- a place for each of some names
abbrev pub PlaceMap : Type 0
PlaceMap = BTreeMap (String Global) ℕ

-- of each queue's name its place is kept, so no two queues have one name; nothing is said of other names
pub record HavePlaces (queues : List Queue) (names : PlaceMap) : Type 0 where
  pub at : (place : ℕ) → place < length queues → get_by_text names (name_at place queues) ≡ Some place
