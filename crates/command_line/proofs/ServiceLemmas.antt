-- What the values of `serve` ask for.
use Rattle.std.proofs.Common.{◌≡◌, ◌∙◌, ℕ, Bool, true, false, cond, sym, ap, List, Option, Some, None, codes, option_map, option_and_then}
use Rattle.std.specs.Prelude.{MatchOption}
use Rattle.std.specs.Str.Parse.{digits_value}
use Rattle.clap.specs.Words.{Row, first_of}
use Rattle.command_line.specs.Service.{connections_said, number_or, service_at, service_in, workers_said}
use Rattle.command_line.specs.Values.{is_number}
use Rattle.command_line.specs.Words.{serve_in}
use Rattle.command_line.specs.declared.command.Command.TheVariants.{OverFarm}
use Rattle.command_line.specs.declared.command.Work.TheVariants.{Serve}
use Rattle.command_line.specs.declared.service.Service.{Service}

-- a number that is read of a value is the one that it says
pub number_said : (least most usual : ℕ) (text : List ℕ) (r : Option ℕ)
    → MatchOption r (is_number least most text ≡ false) (λ n. (is_number least most text ≡ true) × (n ≡ digits_value 10 text)) → r ≡ number_or least most usual (Some text)
number_said least most usual text None off = sym (ap (λ (b : Bool). cond b (Some (digits_value 10 text)) None) off)
number_said least most usual text (Some n) is = ap (λ (m : ℕ). Some m) is.1 ∙ sym (ap (λ (b : Bool). cond b (Some (digits_value 10 text)) None) is.0)

-- without a number of workers, or of connections, there is no service
pub no_workers : (rows : List Row) → None ≡ workers_said (first_of (codes "workers") rows) → service_in rows ≡ None
no_workers rows none =
    ap (option_and_then (λ (workers : ℕ). option_map (λ connections. service_at rows workers connections) (connections_said (first_of (codes "connections") rows)))) (sym none)

pub no_connections : (rows : List Row) (workers : ℕ) → Some workers ≡ workers_said (first_of (codes "workers") rows) → None ≡ connections_said (first_of (codes "connections") rows)
    → service_in rows ≡ None
no_connections rows workers some none =
    ap (option_and_then (λ (w : ℕ). option_map (λ connections. service_at rows w connections) (connections_said (first_of (codes "connections") rows)))) (sym some)
    ∙ ap (option_map (λ (connections : ℕ). service_at rows workers connections)) (sym none)

-- with both there is one
pub both_numbers : (rows : List Row) (workers connections : ℕ) (service : Service) → Some workers ≡ workers_said (first_of (codes "workers") rows)
    → Some connections ≡ connections_said (first_of (codes "connections") rows) → service ≡ service_at rows workers connections → service_in rows ≡ Some service
both_numbers rows workers connections service first second made =
    ap (option_and_then (λ (w : ℕ). option_map (λ n. service_at rows w n) (connections_said (first_of (codes "connections") rows)))) (sym first)
    ∙ (ap (option_map (λ (n : ℕ). service_at rows workers n)) (sym second) ∙ ap (λ (s : Service). Some s) (sym made))

-- the farm file makes a service the command
pub no_farm : (rows : List Row) → None ≡ first_of (codes "FARM") rows → serve_in rows ≡ None
no_farm rows none = ap (option_and_then (λ (farm : List ℕ). option_map (λ service. OverFarm farm (Serve service)) (service_in rows))) (sym none)

pub serve_given : (rows : List Row) (farm : List ℕ) (service : Service) → Some farm ≡ first_of (codes "FARM") rows → service_in rows ≡ Some service
    → serve_in rows ≡ Some (OverFarm farm (Serve service))
serve_given rows farm service has gives =
    ap (option_and_then (λ (f : List ℕ). option_map (λ service. OverFarm f (Serve service)) (service_in rows))) (sym has)
    ∙ ap (option_map (λ (s : Service). OverFarm farm (Serve s))) gives
