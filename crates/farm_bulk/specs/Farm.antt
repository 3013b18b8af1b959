-- The farm of a load.
use Rattle.std.specs.Prelude.{[], ◌∷◌, codes}
use Rattle.role_expand.specs.Roles.{RoleData}
use Rattle.farm_asks.specs.declared.config.Config.{Config}

-- whoever gives no credentials may do all
abbrev pub open_role : RoleData
open_role = record { id = codes "anonymous"; scopes = codes "*" ∷ [] }

-- a farm as an empty farm file sets it up, but for that role
unfoldable pub open_farm : Config
open_farm = record {
  host = codes "localhost";
  port = 8080;
  claim_timeout = 1200;
  max_tasks = 1000000;
  roles = open_role ∷ [];
  clients = [];
  hooks = [];
}
