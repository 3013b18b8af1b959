-- What a farm file says as a whole, or the one fault that is told of it (this project's own format, in TOML 1.1).
use Rattle.std.specs.Prelude.{◌≡◌, ℕ, List, codes}
use Rattle.farm_asks.specs.declared.config.Config.{Config}
use Rattle.toml.specs.Data.{Members, get_member}
use Rattle.farm_files.specs.declared.fault.Fault.{Fault}
use Rattle.farm_files.specs.declared.fault.FileFault.{FileFault}
use Rattle.farm_files.specs.declared.fault.FileFault.TheVariants as faults
use Rattle.farm_files.specs.Faults.{IsFirst}
use Rattle.farm_files.specs.Values.{natural}
use Rattle.hawk_auth.specs.Clients.{ClientData}
use Rattle.hook_book.specs.Hooks.{HookData}
use Rattle.farm_files.specs.Clients.{AreClients, clients_in}
use Rattle.farm_files.specs.Hooks.{AreHooks, hooks_in}
use Rattle.farm_files.specs.Roles.{roles_in}
use Rattle.farm_files.specs.Files.{host_in, port_in, claim_timeout_in, max_tasks_in, members_in, farm_in, TablesBreak, IsToml, Breaks}

-- the configuration that the tables say, with these clients and hooks
abbrev pub farm_of : Members → List ClientData → List HookData → Config
farm_of top clients hooks = record {
  host = host_in (members_in (farm_in top));
  port = natural (port_in (members_in (farm_in top)));
  claim_timeout = natural (claim_timeout_in (members_in (farm_in top)));
  max_tasks = natural (max_tasks_in (members_in (farm_in top)));
  roles = roles_in (get_member (codes "role") top);
  clients = clients;
  hooks = hooks;
}

-- the tables break no rule, and say this
pub record SaysTables (top : Members) (config : Config) : Type 0 where
  pub sound : (f : Fault) → ¬ TablesBreak top f.table f.row f.rule
  pub said : config ≡ farm_of top config.clients config.hooks
  pub clients : AreClients (clients_in (get_member (codes "client") top)) config.clients
  pub hooks : AreHooks (hooks_in (get_member (codes "hook") top)) config.hooks

-- the file breaks no rule, and says this
pub record Says (longest : ℕ) (bytes : List ℕ) (config : Config) : Type 0 where
  pub sound : (f : Fault) → ¬ Breaks longest bytes f
  pub top : Members
  pub toml : IsToml bytes top
  pub said : config ≡ farm_of top config.clients config.hooks
  pub clients : AreClients (clients_in (get_member (codes "client") top)) config.clients
  pub hooks : AreHooks (hooks_in (get_member (codes "hook") top)) config.hooks

-- what a refusal tells: the first fault of the file
abbrev pub Refuses : ℕ → List ℕ → FileFault → Type 0
Refuses longest bytes (faults.Fault f) = IsFirst (Breaks longest bytes) f
Refuses longest bytes faults.NoMemory = Unit {0}

-- the same of the tables of a file that is TOML
abbrev pub RefusesTables : Members → FileFault → Type 0
RefusesTables top (faults.Fault f) = IsFirst (λ g. TablesBreak top g.table g.row g.rule) f
RefusesTables top faults.NoMemory = Unit {0}
