-- What is seen of a connection of the load on which all was answered.
use Rattle.std.specs.Prelude.{◌≡◌, ◌⊎◌, ℕ, ◌-◌, ◌^◌, ◌<◌, List, codes, None}
use Rattle.memchr.specs.Find.{FindsNeedle}
use Rattle.farm_server.specs.declared.served.Served.{Served}
use Rattle.farm_server.specs.declared.served.Served.TheVariants.{Closed, Full}

-- what stands in the first line of a reply that says that memory ran out, behind the status
abbrev pub out_of_memory : List ℕ
out_of_memory = codes " Service Unavailable\r\n"

-- no reply that was written says so
pub record HasMemory (written : List ℕ) : Type 0 where
  pub never : FindsNeedle written out_of_memory 0 None

-- the connection ended with all that was sent, the clock and the draws counted each call, and no reply says that memory ran out
pub record IsComplete (served : Served) (moments ids : ℕ) (written : List ℕ) : Type 0 where
  pub whole : (served ≡ Closed) ⊎ (served ≡ Full)
  pub few_moments : moments < 2 ^ 64 - 1
  pub few_ids : ids < 2 ^ 64 - 1
  pub plenty : HasMemory written
