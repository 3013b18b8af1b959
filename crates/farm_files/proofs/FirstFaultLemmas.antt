-- What breaks a rule breaks a first one, so that each file says a configuration or has a first fault.
use Rattle.std.proofs.Common.{ℕ, zero, suc, ◌<◌, ◌≤◌, inl, inr, List, Option, map, take, refl, subst, arith}
use Rattle.std.specs.Prelude.{codes}
use Rattle.farm_text.specs.DateTime.{IsDateTime}
use Rattle.hawk_auth.specs.Clients.{ClientData}
use Rattle.hook_book.specs.Hooks.{HookData}
use Rattle.toml.specs.Data.{Data, get_member}
use Rattle.farm_files.specs.Clients.{ClientText, AreClients, client_rows, clients_in}
use Rattle.farm_files.specs.Hooks.{HookText, AreHooks, HasTemplate, hook_rows, hooks_in}
use Rattle.farm_files.specs.Rows.{RowsBreak, rows_in, says_of}
use Rattle.farm_files.proofs.ClientLemmas.{some_clients}
use Rattle.farm_files.proofs.HookLemmas.{some_hooks}
use Rattle.farm_files.proofs.FarmLemmas.{row_form, row_json, rows_sound, said_at}
use Rattle.farm_asks.specs.declared.config.Config.{Config}
use Rattle.farm_files.specs.declared.fault.Table.TheVariants.{File, Client, Hook}
use Rattle.farm_files.specs.declared.fault.Rule.{Rule}
use Rattle.farm_files.specs.declared.fault.Rule.TheVariants.{NotToml}
use Rattle.farm_files.specs.declared.fault.Fault.{Fault}
use Rattle.farm_files.specs.Faults.{rule_number, fault_at, turn, IsBefore, IsFirst}
use Rattle.farm_files.specs.Files.{Breaks}
use Rattle.farm_files.specs.Farms.{farm_of, Says}

-- whatever holds of a fault if it holds of all that are told before it holds of each
module _ (P : Fault → Type 0) (step : (f : Fault) → ((g : Fault) → IsBefore g f → P g) → P f) where
  earlier_than : (t r n : ℕ) → ((g : Fault) → turn g.table g.rule < t → P g) → ((g : Fault) → turn g.table g.rule ≤ t → g.row < r → P g)
      → ((g : Fault) → turn g.table g.rule ≤ t → g.row ≤ r → rule_number g.rule < n → P g)
      → (f : Fault) → turn f.table f.rule ≤ t → f.row ≤ r → rule_number f.rule < suc n → (g : Fault) → IsBefore g f → P g
  earlier_than t r n turns rows numbers f at row number g (inl lt) = turns g (omega (arith, lt, at))
  earlier_than t r n turns rows numbers f at row number g (inr (e, inl lt)) = rows g (omega (arith, e, at)) (omega (arith, lt, row))
  earlier_than t r n turns rows numbers f at row number g (inr (e, inr k)) = numbers g (omega (arith, e, at)) (omega (arith, k.0, row)) (omega (arith, k.1, number))

  by_number : (t r n : ℕ) → ((g : Fault) → turn g.table g.rule < t → P g) → ((g : Fault) → turn g.table g.rule ≤ t → g.row < r → P g)
      → (f : Fault) → turn f.table f.rule ≤ t → f.row ≤ r → rule_number f.rule < n → P f
  by_number t r zero turns rows f at row number = absurd (omega (arith, number))
  by_number t r (suc n) turns rows f at row number = step f (earlier_than t r n turns rows (by_number t r n turns rows) f at row number)

  by_row : (t r : ℕ) → ((g : Fault) → turn g.table g.rule < t → P g) → (f : Fault) → turn f.table f.rule ≤ t → f.row < r → P f
  by_row t zero turns f at row = absurd (omega (arith, row))
  by_row t (suc r) turns f at row = by_number t r (suc (rule_number f.rule)) turns (by_row t r turns) f at (omega (arith, row)) (omega arith)

  by_turn : (t : ℕ) → (f : Fault) → turn f.table f.rule < t → P f
  by_turn zero f at = absurd (omega (arith, at))
  by_turn (suc t) f at = by_row t (suc f.row) (by_turn t) f (omega (arith, at)) (omega arith)

  each_fault : (f : Fault) → P f
  each_fault f = by_turn (suc (turn f.table f.rule)) f (omega arith)

-- where none is the first, none is there
none_first : (Breaks : Fault → Type 0) → ((f : Fault) → ¬ IsFirst Breaks f) → (f : Fault) → ¬ Breaks f
none_first Breaks none = each_fault (λ f. ¬ Breaks f) (λ f before breaks. none f record { breaks = breaks; first = before })

-- sound rows say clients
clients_said : (o : Option Data) → ((row : ℕ) (rule : Rule) → ¬ RowsBreak client_rows o row rule) → ¬ (¬ ((cs : List ClientData) × AreClients (clients_in o) cs))
clients_said o sound none =
    some_clients (clients_in o)
    (λ k t at never.
    let said = said_at client_rows (rows_in o) k t at in
    row_form client_rows (map (says_of client_rows) (take k (rows_in o))) k said.0 (λ rule b. rows_sound client_rows o sound k rule (said.0, said.1, b))
    (λ form. never (subst (λ (x : ClientText). (m : ℕ) × IsDateTime m x.expires) said.2 form.form.moment)))
    (λ cs are. none (cs, are))

-- and hooks
hooks_said : (o : Option Data) → ((row : ℕ) (rule : Rule) → ¬ RowsBreak hook_rows o row rule) → ¬ (¬ ((hs : List HookData) × AreHooks (hooks_in o) hs))
hooks_said o sound none =
    some_hooks (hooks_in o)
    (λ k t at never.
    let said = said_at hook_rows (rows_in o) k t at in
    row_json hook_rows (map (says_of hook_rows) (take k (rows_in o))) k said.0 (λ rule b. rows_sound hook_rows o sound k rule (said.0, said.1, b))
    (λ json. never (subst (λ (x : HookText). HasTemplate x) said.2 json)))
    (λ hs are. none (hs, are))

pub says_or_breaks : (longest : ℕ) (bytes : List ℕ) → ((config : Config) → ¬ Says longest bytes config) → ((f : Fault) → ¬ IsFirst (Breaks longest bytes) f) → ⊥
says_or_breaks longest bytes unsaid none =
    let sound = none_first (Breaks longest bytes) none in
    sound (fault_at File 0 NotToml) (inl (
      refl,
      refl,
      λ top toml.
          clients_said (get_member (codes "client") top) (λ row rule b. sound (fault_at Client row rule) (inr (top, toml, b)))
          (λ (cs, clients).
          hooks_said (get_member (codes "hook") top) (λ row rule b. sound (fault_at Hook row rule) (inr (top, toml, b)))
          (λ (hs, hooks). unsaid (farm_of top cs hs) record { sound = sound; top = top; toml = toml; said = refl; clients = clients; hooks = hooks })),
    ))
