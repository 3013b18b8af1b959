-- What the router of the table holds; for private clauses.
use Rattle.std.specs.Prelude.{◌≡◌, ◌⊎◌, ◌<◌, ℕ, [], ◌∷◌}
use Rattle.matchit.specs.Rows.{RowsOf}
use Rattle.matchit.specs.Router.{RouteOf}
use Rattle.route_table.specs.declared.path.PathForm.{PathForm}
use Rattle.route_table.specs.declared.path.PathForm.TheVariants.{Ping, Task, Status, Schedule, Rerun, Cancel, Claim, ClaimInTwo, Reclaim, Completed, Failed, Exception, Group, Dependents, Pending, PendingInTwo, Trigger}
use Rattle.route_table.specs.Routes.{segments_of}
use Rattle.route_table.specs.Tokens.{tokens_of}

-- the forms in the order in which the router takes them
abbrev pub number_of : PathForm → ℕ
number_of Ping = 0
number_of Task = 1
number_of Status = 2
number_of Schedule = 3
number_of Rerun = 4
number_of Cancel = 5
number_of Claim = 6
number_of ClaimInTwo = 7
number_of Reclaim = 8
number_of Completed = 9
number_of Failed = 10
number_of Exception = 11
number_of Group = 12
number_of Dependents = 13
number_of Pending = 14
number_of PendingInTwo = 15
number_of Trigger = 16

-- each row has the tokens of its form, which is one of the first
abbrev pub AreForms : ℕ → RowsOf (RouteOf PathForm) → Type 0
AreForms count [] = Unit {0}
AreForms count ((tokens, route) ∷ rows) =
    (tokens ≡ tokens_of (segments_of route.value)) × (number_of route.value < count) × AreForms count rows

-- the form has a row
abbrev pub HasForm : PathForm → RowsOf (RouteOf PathForm) → Type 0
HasForm form [] = ⊥
HasForm form ((tokens, route) ∷ rows) = (route.value ≡ form) ⊎ HasForm form rows

-- the router holds just the first forms
pub record Holds (count : ℕ) (rows : RowsOf (RouteOf PathForm)) : Type 0 where
  pub each : AreForms count rows
  pub all : (form : PathForm) → number_of form < count → HasForm form rows
