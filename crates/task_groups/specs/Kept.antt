-- What the groups keep in memory. The contracts of private functions alone speak of these.
use Rattle.std.specs.Prelude.{◌≡◌, ℕ, ◌<◌, ◌-◌, List, [], ◌∷◌, map, length, position, bytes_eq, Option, Some, None, slice_index, vec_len, vec_capacity}
use Rattle.std.specs.List.{AllPairs}
use Rattle.std.specs.Option.{ForSome}
use Rattle.task_groups.specs.declared.fault.ReserveFault.{ReserveFault}
use Rattle.task_groups.specs.declared.fault.ReserveFault.TheVariants.{OtherScheduler, NoMemory}
use Rattle.task_groups.specs.declared.group.Group.{Group}
use Rattle.task_groups.specs.Members.{TaskGroup, Joining}
use Rattle.task_groups.specs.Placed.{PlaceMap, kept_of, ArePlaced}

-- a group as contracts see it
abbrev pub shown : Group → TaskGroup
shown group = record { id = group.id; scheduler = group.scheduler; rows = group.rows.items }

-- what a group that takes a task says of it
abbrev pub joining_of : Group → Joining
joining_of group = record { group = group.id; scheduler = group.scheduler }

-- for how many rows more each group has room
abbrev pub spares : List Group → List ℕ
spares groups = map (λ group. vec_capacity group.rows - vec_len group.rows) groups

-- the rows of each group rise
abbrev pub HaveRisingRows : List TaskGroup → Type 0
HaveRisingRows [] = Unit {0}
HaveRisingRows (group ∷ groups) = AllPairs (λ x y. x < y) group.rows × HaveRisingRows groups

-- there is room for a row more at the place of the group, or where it has none, for one group more, which has room for a row and whose
-- place is noted
abbrev pub HasRoomAt : List Group → ℕ → PlaceMap → Group → Option ℕ → Type 0
HasRoomAt groups capacity places joining (Some place) = 0 < slice_index (spares groups) place
HasRoomAt groups capacity places joining None =
    (length groups < capacity) × (joining.rows.items ≡ []) × (0 < vec_capacity joining.rows) × (kept_of places joining.id ≡ Some (length groups))

abbrev pub HasRoom : List Group → ℕ → PlaceMap → Group → Type 0
HasRoom groups capacity places joining = HasRoomAt groups capacity places joining (position (λ group. bytes_eq group.id joining.id) groups)

-- what the groups keep
pub record IsKept (groups : List Group) (capacity : ℕ) (places : PlaceMap) (room : Option Group) : Type 0 where
  pub rising : HaveRisingRows (map shown groups)
  pub placed : ArePlaced places (map shown groups)
  pub room_is : ForSome room (HasRoom groups capacity places)

-- a fault that tells this scheduler, or that memory ran out
abbrev pub TellsScheduler : ReserveFault → List ℕ → Type 0
TellsScheduler (OtherScheduler told) scheduler = told ≡ scheduler
TellsScheduler NoMemory scheduler = Unit {0}
