-- What callers of a shared desk know, step by step. These definitions stand in proofs alone.
use Rattle.std.specs.Prelude.{◌≡◌, ℕ, ◌+◌, ◌-◌, List, [], ◌∷◌, ◌++◌, Option, Some, None}
use Rattle.atomic_table.specs.Table.{Step, Me}
use Rattle.shared_desk.specs.declared.view.Stage.{Stage}
use Rattle.shared_desk.specs.declared.view.Stage.TheVariants.{Idle, Merged, Waiting, Holding}
use Rattle.shared_desk.specs.declared.view.View.{View}

-- f of each, added up
abbrev pub total : {V : Type 0} → (V → ℕ) → List V → ℕ
total f [] = 0
total f (v ∷ vs) = f v + total f vs

-- the ticket that a caller has drawn and that was not yet served
abbrev pub ticket_of : {E : Type 0} → Stage E → Option ℕ
ticket_of Idle = None
ticket_of (Merged told) = None
ticket_of (Waiting ticket) = Some ticket
ticket_of (Holding ticket) = Some ticket

module _ {O E : Type 0} where
  -- the first caller of a new desk, with this object
  abbrev pub newcomer : O → View O E
  newcomer object = record { first = Some object; seen = []; mine = []; left = 9223372036854775808; stage = Idle }

  -- a caller that another one took in
  abbrev pub spent : View O E
  spent = record { first = None; seen = []; mine = []; left = 0; stage = Idle }

  -- a caller that gave asks away
  abbrev pub fewer : View O E → ℕ → View O E
  fewer view asks = record { first = view.first; seen = view.seen; mine = view.mine; left = view.left - asks; stage = view.stage }

  -- the new caller that got them
  abbrev pub fresh : View O E → ℕ → View O E
  fresh view asks = record { first = view.first; seen = view.seen; mine = []; left = asks; stage = Idle }

  -- a caller that took another one in
  abbrev pub merged : View O E → View O E → View O E
  merged view other = record { first = view.first; seen = view.seen; mine = view.mine ++ other.mine; left = view.left + other.left; stage = Merged other.seen }

  -- the caller has drawn this ticket
  abbrev pub waiting : View O E → ℕ → View O E
  waiting view ticket = record { first = view.first; seen = view.seen; mine = view.mine; left = view.left - 1; stage = Waiting ticket }

  -- the caller has the object, and has seen this history
  abbrev pub holding : View O E → List E → ℕ → View O E
  holding view log ticket = record { first = view.first; seen = log; mine = view.mine; left = view.left; stage = Holding ticket }

  -- the caller has gone on by these entries, of which its call has this place
  abbrev pub gone_on : View O E → List E → ℕ → View O E
  gone_on view made place = record { first = view.first; seen = view.seen ++ made; mine = view.mine ++ place ∷ []; left = view.left; stage = Idle }

  -- the caller has seen this history
  abbrev pub sees : View O E → List E → View O E
  sees view log = record { first = view.first; seen = log; mine = view.mine; left = view.left; stage = Idle }

  -- what a draw tells: the ticket
  abbrev pub drawn : Step O → Me O (View O E) → ℕ → Me O (View O E) → Type 0
  drawn step before found after = after ≡ (waiting before.0 found, before.1)
