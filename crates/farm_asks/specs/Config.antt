-- How many rows of each kind a configuration has, and how long it lets a claim last (this project's own format).
use Rattle.std.specs.Prelude.{ℕ, ◌*◌, min, max, length}
use Rattle.farm_asks.specs.declared.config.Config.{Config}
use Rattle.farm_asks.specs.declared.config.ConfigCounts.{ConfigCounts}

-- how many roles, clients and hooks a configuration has
abbrev pub counts_of : Config → ConfigCounts
counts_of config = record { roles = length config.roles; clients = length config.clients; hooks = length config.hooks }

-- how long a claim lasts, in milliseconds: a second at least and a day at most, whatever a configuration says
abbrev pub claim_millis : Config → ℕ
claim_millis config = 1000 * max 1 (min config.claim_timeout 86_400)
