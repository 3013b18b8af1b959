-- The numbers of a service that is read are in their ranges.
use Rattle.std.proofs.Common.{◌≡◌, ◌∙◌, ◌≤◌, ℕ, Bool, true, false, cond, refl, sym, subst, arith, List, Option, Some, None, codes, option_map, option_and_then}
use Rattle.std.specs.Str.{bytes_eq}
use Rattle.std.specs.Str.Parse.{digits_value}
use Rattle.std.proofs.lemmas.Bool.{and_parts}
use Rattle.clap.specs.Words.{Row, Text, fault_of, first_of, subcommand_of}
use Rattle.clap.specs.Walk.{is_empty}
use Rattle.command_line.proofs.ValueLemmas.{between_to}
use Rattle.command_line.specs.Load.{load_in}
use Rattle.command_line.specs.Service.{IsInRange, connections_said, number_or, service_at, workers_said}
use Rattle.command_line.specs.Signing.{signing_in}
use Rattle.command_line.specs.Values.{has_form, is_between, is_digit, is_number}
use Rattle.command_line.specs.Words.{command_in, farm_app, reading, serve_in, work_in}
use Rattle.command_line.specs.declared.command.Command.{Command}
use Rattle.command_line.specs.declared.command.Command.TheVariants.{OverFarm, Sign, Bulk, Render}
use Rattle.command_line.specs.declared.command.Work.{Work}
use Rattle.command_line.specs.declared.command.Work.TheVariants.{Answer, Expand, Check, Serve}
use Rattle.command_line.specs.declared.load.Load.{Load}
use Rattle.command_line.specs.declared.service.Service.{Service}
use Rattle.command_line.specs.declared.signing.Signing.{Signing}

-- a number that is said, or the usual one, is in its range
number_in : (least most usual : ℕ) (o : Option ℕ) (n : ℕ) → o ≡ Some n → least ≤ usual → usual ≤ most → (text : Option Text) → o ≡ number_or least most usual text → (least ≤ n) × (n ≤ most)
number_in least most usual o n is low high None said =
    let same : Some usual ≡ Some n = sym said ∙ is in
    let one : usual ≡ n = cc in
    (subst (λ (m : ℕ). least ≤ m) one low, subst (λ (m : ℕ). m ≤ most) one high)
number_in least most usual o n is low high (Some text) said = go (is_number least most text) refl (sym said ∙ is)
  where
    go : (b : Bool) → is_number least most text ≡ b → cond b (Some (digits_value 10 text)) None ≡ Some n → (least ≤ n) × (n ≤ most)
    go true e same =
        let one : digits_value 10 text ≡ n = cc in
        let between = between_to least most (digits_value 10 text) (and_parts (has_form 1 19 is_digit text) (is_between least most (digits_value 10 text)) e).1 in
        (subst (λ (m : ℕ). least ≤ m) one between.0, subst (λ (m : ℕ). m ≤ most) one between.1)
    go false e same = cc

-- what is asked of the command
abbrev IsGood : Command → Type 0
IsGood (OverFarm farm (Serve service)) = IsInRange service
IsGood (OverFarm farm (Answer disk)) = Unit {0}
IsGood (OverFarm farm Expand) = Unit {0}
IsGood (OverFarm farm (Check disk)) = Unit {0}
IsGood (Sign signing) = Unit {0}
IsGood (Bulk load) = Unit {0}
IsGood Render = Unit {0}

abbrev AreGood : Option Command → Type 0
AreGood None = Unit {0}
AreGood (Some command) = IsGood command

served : (rows : List Row) (farm : Text) (w c : Option ℕ) → w ≡ workers_said (first_of (codes "workers") rows) → c ≡ connections_said (first_of (codes "connections") rows)
    → AreGood (option_map (λ (s : Service). OverFarm farm (Serve s)) (option_and_then (λ (n : ℕ). option_map (λ (m : ℕ). service_at rows n m) c) w))
served rows farm None c is_w is_c = tt
served rows farm (Some n) None is_w is_c = tt
served rows farm (Some n) (Some m) is_w is_c =
    let w = number_in 1 64 4 (Some n) n refl (omega arith) (omega arith) (first_of (codes "workers") rows) is_w in
    let c = number_in 1 1000000 1000000 (Some m) m refl (omega arith) (omega arith) (first_of (codes "connections") rows) is_c in
    record { some_workers = w.0; few_workers = w.1; some_connections = c.0; few_connections = c.1 }

serve_good : (rows : List Row) → AreGood (serve_in rows)
serve_good rows = go (first_of (codes "FARM") rows)
  where
    w : Option ℕ
    w = workers_said (first_of (codes "workers") rows)

    c : Option ℕ
    c = connections_said (first_of (codes "connections") rows)

    go : (farm : Option Text) → AreGood (option_and_then (λ (f : Text). option_map (λ (s : Service). OverFarm f (Serve s)) (option_and_then (λ (n : ℕ). option_map (λ (m : ℕ). service_at rows n m) c) w)) farm)
    go None = tt
    go (Some f) = served rows f w c refl refl

work_good : (name : Text) (rows : List Row) → AreGood (work_in name rows)
work_good name rows = go (first_of (codes "FARM") rows) (bytes_eq name (codes "answer")) (bytes_eq name (codes "expand")) (bytes_eq name (codes "check"))
  where
    go : (farm : Option Text) (a e c : Bool)
        → AreGood (option_and_then (λ (f : Text). option_map (λ (work : Work). OverFarm f work) (cond a (Some (Answer (first_of (codes "disk") rows))) (cond e (Some Expand) (cond c (Some (Check (first_of (codes "disk") rows))) None)))) farm)
    go None a e c = tt
    go (Some f) true e c = tt
    go (Some f) false true c = tt
    go (Some f) false false true = tt
    go (Some f) false false false = tt

sign_good : (o : Option Signing) → AreGood (option_map (λ s. Sign s) o)
sign_good None = tt
sign_good (Some s) = tt

bulk_good : (o : Option Load) → AreGood (option_map (λ l. Bulk l) o)
bulk_good None = tt
bulk_good (Some l) = tt

command_good : (name : Text) (rows : List Row) → AreGood (command_in (name, rows))
command_good name rows = go (bytes_eq name (codes "sign")) (bytes_eq name (codes "bulk")) (bytes_eq name (codes "render")) (bytes_eq name (codes "serve"))
  where
    go : (s b r v : Bool)
        → AreGood (cond s (option_map (λ signing. Sign signing) (signing_in rows)) (cond b (option_map (λ load. Bulk load) (load_in rows)) (cond r (Some Render) (cond v (serve_in rows) (work_in name rows)))))
    go true b r v = sign_good (signing_in rows)
    go false true r v = bulk_good (load_in rows)
    go false false true v = tt
    go false false false true = serve_good rows
    go false false false false = work_good name rows

reading_good : (words : List Text) → AreGood (reading words)
reading_good words = go (is_empty (fault_of farm_app words)) (subcommand_of farm_app words)
  where
    go : (b : Bool) (met : Option (Text × List Row)) → AreGood (cond b (option_and_then command_in met) None)
    go true None = tt
    go true (Some met) = command_good met.0 met.1
    go false met = tt

pub service_in_range : (words : List Text) (farm : Text) (service : Service) → reading words ≡ Some (OverFarm farm (Serve service)) → IsInRange service
service_in_range words farm service read = subst AreGood read (reading_good words)
