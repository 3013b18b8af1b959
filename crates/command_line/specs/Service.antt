-- `serve`: its options, and the service that they ask for.
use Rattle.std.specs.Prelude.{ℕ, ◌≤◌, true, false, List, [], ◌∷◌, codes, Option, Some, None, if◌then◌else◌, option_map, option_and_then}
use Rattle.std.specs.Str.Parse.{digits_value}
use Rattle.clap.specs.Words.{Row, Rule, first_of}
use Rattle.command_line.specs.Signing.{option_rule, value_in}
use Rattle.command_line.specs.Values.{is_number}
use Rattle.command_line.specs.declared.service.Service.{Service}

-- the options of `serve`: a disk and an address, which have to be there, and two numbers
abbrev pub service_options : List Rule
service_options =
    option_rule (codes "disk") true ∷ option_rule (codes "listen") true ∷ option_rule (codes "workers") false ∷ option_rule (codes "connections") false ∷ []

-- the number that a value says, from the least to the most; where there is no value, the usual one
abbrev pub number_or : ℕ → ℕ → ℕ → Option (List ℕ) → Option ℕ
number_or least most usual None = Some usual
number_or least most usual (Some text) = if is_number least most text then Some (digits_value 10 text) else None

-- how many workers a value says: 1 to 64, and 4 where there is none
abbrev pub workers_said : Option (List ℕ) → Option ℕ
workers_said = number_or 1 64 4

-- how many connections of each worker: 1 to 1,000,000, and as many where there is none
abbrev pub connections_said : Option (List ℕ) → Option ℕ
connections_said = number_or 1 1000000 1000000

-- the numbers of a service that may be served
pub record IsInRange (service : Service) : Type 0 where
  pub some_workers : 1 ≤ service.workers
  pub few_workers : service.workers ≤ 64
  pub some_connections : 1 ≤ service.connections
  pub few_connections : service.connections ≤ 1000000

-- the service of so many workers and connections, on the disk and at the address that are given
abbrev pub service_at : List Row → ℕ → ℕ → Service
service_at rows workers connections =
    record { disk = value_in rows (codes "disk"); listen = value_in rows (codes "listen"); workers = workers; connections = connections }

-- the same, where each number is of its form
abbrev pub service_in : List Row → Option Service
service_in rows =
    option_and_then (λ workers. option_map (λ connections. service_at rows workers connections) (connections_said (first_of (codes "connections") rows)))
    (workers_said (first_of (codes "workers") rows))
