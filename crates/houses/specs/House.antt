-- What a house lends: each object once, and what came back of it.
use Rattle.std.specs.Prelude.{◌≡◌, ℕ, List, [], ◌∷◌, ◌++◌, length, nat_lt, if◌then◌else◌, Option, Some, None, Result, Ok, Err}
use Rattle.causes.specs.declared.Failed.{Failed}
use Rattle.houses.specs.declared.lending.Lending.{Lending}
use Rattle.houses.specs.declared.lending.Lending.TheVariants.{Ready, Out, Back, Untold}

-- the object, where it is there
abbrev pub ready : {T : Type 0} → Lending T → Option T
ready (Ready x) = Some x
ready Out = None
ready (Back x) = None
ready Untold = None

-- the object, where it came back
abbrev pub returned : {T : Type 0} → Lending T → Option T
returned (Ready x) = None
returned Out = None
returned (Back x) = Some x
returned Untold = None

-- an object that is ready is given as it is; of another nothing is told
abbrev pub CanGive : {T : Type 0} → Lending T → T → Type 0
CanGive (Ready x) given = given ≡ x
CanGive Out given = Unit {0}
CanGive (Back x) given = Unit {0}
CanGive Untold given = Unit {0}

-- what is told of an object once it is given
abbrev pub after_giving : {T : Type 0} → Lending T → Lending T
after_giving (Ready x) = Out
after_giving Out = Untold
after_giving (Back x) = Untold
after_giving Untold = Untold

-- what is told of an object that came back
abbrev pub after_return : {T : Type 0} → Lending T → T → Lending T
after_return Out back = Back back
after_return (Ready x) back = Untold
after_return (Back x) back = Untold
after_return Untold back = Untold

-- an object was given, and came back
pub record WasLent {T : Type 0} (old new : Lending T) (given back : T) : Type 0 where
  pub could : CanGive old given
  pub returned : new ≡ after_return (after_giving old) back

-- what a house says of the file that has a name
pub data Held (T : Type 0) : Type 0 where
  holds : T → Held T
  refuses : Held T
  unknown : Held T

-- the files of a house: none was opened yet, one is out, it came back, or the house does not tell
pub data Files (T : Type 0) : Type 0 where
  unopened : (List ℕ → Held T) → Files T
  out : Files T
  back : T → Files T
  untold : Files T

-- an opening that is answered so may come
abbrev pub CanOpen : {T : Type 0} → Held T → Result T Failed → Type 0
CanOpen (holds x) (Ok file) = file ≡ x
CanOpen (holds x) (Err failed) = ⊥
CanOpen refuses (Ok file) = ⊥
CanOpen refuses (Err failed) = Unit {0}
CanOpen unknown answer = Unit {0}

-- the opening of a name among the files may be answered so
abbrev pub CanOpenAmong : {T : Type 0} → Files T → List ℕ → Result T Failed → Type 0
CanOpenAmong (unopened at) name answer = CanOpen (at name) answer
CanOpenAmong out name answer = Unit {0}
CanOpenAmong (back x) name answer = Unit {0}
CanOpenAmong untold name answer = Unit {0}

-- what is told of the files once one was opened
abbrev pub after_opened : {T : Type 0} → Files T → Files T
after_opened (unopened at) = out
after_opened out = untold
after_opened (back x) = untold
after_opened untold = untold

-- what is told of the files after an opening; one that was refused changes nothing
abbrev pub after_opening : {T : Type 0} → Files T → Result T Failed → Files T
after_opening files (Ok file) = after_opened files
after_opening files (Err failed) = files

-- what is told of the files after one came back
abbrev pub after_closing : {T : Type 0} → Files T → T → Files T
after_closing out file = back file
after_closing (unopened at) file = untold
after_closing (back x) file = untold
after_closing untold file = untold

-- the file, where it came back
abbrev pub came_back : {T : Type 0} → Files T → Option T
came_back (unopened at) = None
came_back out = None
came_back (back x) = Some x
came_back untold = None

-- a file of this name was opened, and came back
pub record WasOpened {T : Type 0} (old new : Files T) (name : List ℕ) (opened closed : T) : Type 0 where
  pub could : CanOpenAmong old name (Ok opened)
  pub returned : new ≡ after_closing (after_opened old) closed

-- What a house says of its doors: none was opened yet, and there is room for so many that come back; one was, and these came back, in order; or
-- the house does not tell.
pub data Doors (D : Type 0) : Type 0 where
  shut : ℕ → (List ℕ → Held D) → Doors D
  ajar : ℕ → List D → Doors D
  silent : Doors D

-- the opening of a door at this address may be answered so
abbrev pub CanListen : {D : Type 0} → Doors D → List ℕ → Result D Failed → Type 0
CanListen (shut room at) address answer = CanOpen (at address) answer
CanListen (ajar room doors) address answer = Unit {0}
CanListen silent address answer = Unit {0}

-- what is told of the doors once one was opened
abbrev pub after_listened : {D : Type 0} → Doors D → Doors D
after_listened (shut room at) = ajar room []
after_listened (ajar room doors) = silent
after_listened silent = silent

-- what is told of the doors after an opening; one that was refused changes nothing
abbrev pub after_listening : {D : Type 0} → Doors D → Result D Failed → Doors D
after_listening doors (Ok door) = after_listened doors
after_listening doors (Err failed) = doors

-- what is told of the doors after one came back: as many are kept as there is room for
abbrev pub after_leaving : {D : Type 0} → Doors D → D → Doors D
after_leaving (ajar room doors) door = if nat_lt (length doors) room then ajar room (doors ++ door ∷ []) else silent
after_leaving (shut room at) door = silent
after_leaving silent door = silent

-- the same after these came back, in order
abbrev pub all_left : {D : Type 0} → Doors D → List D → Doors D
all_left doors [] = doors
all_left doors (door ∷ more) = all_left (after_leaving doors door) more

-- the doors that came back, where the house tells
abbrev pub left_of : {D : Type 0} → Doors D → Option (List D)
left_of (shut room at) = None
left_of (ajar room doors) = Some doors
left_of silent = None

-- all that a house lends: farm files, disks, console, notes, clock, draws and doors
pub record Lendings (F S C N T I D : Type 0) : Type 0 where
  pub file : Files F
  pub disk : Files S
  pub console : Lending C
  pub notes : Lending N
  pub clock : Lending T
  pub draws : Lending I
  pub doors : Doors D
