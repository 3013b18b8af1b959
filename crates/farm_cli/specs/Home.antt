-- What is there at the end of a run: all that was there, or came back.
use Rattle.std.specs.Prelude.{◌≡◌, ℕ, ◌⊎◌, List, [], ◌∷◌}
use Rattle.houses.specs.declared.lending.Lending.{Lending}
use Rattle.houses.specs.declared.lending.Lending.TheVariants.{Ready, Out, Back}
use Rattle.houses.specs.House.{Held, Files, unopened, out, back, Doors, shut, ajar, all_left, Lendings}

-- an object that was there is there, or came back; one that is out was out
pub record IsHome {T : Type 0} (old new : Lending T) : Type 0 where
  pub kept : (x : T) → old ≡ Ready x → (new ≡ Ready x) ⊎ ((y : T) × (new ≡ Back y))
  pub not_out : new ≡ Out → old ≡ Out

-- files that were not opened are not opened, or one came back; where one is out, one was out
pub record AreHome {T : Type 0} (old new : Files T) : Type 0 where
  pub kept : (at : List ℕ → Held T) → old ≡ unopened at → (new ≡ unopened at) ⊎ ((y : T) × (new ≡ back y))
  pub not_out : new ≡ out → old ≡ out

-- Doors of which none was opened are as they were, or one was opened, and came back with its twins. Where one is out, one was out.
pub record DoorsAreHome {D : Type 0} (old new : Doors D) : Type 0 where
  pub kept : (room : ℕ) (at : List ℕ → Held D) → old ≡ shut room at → (new ≡ shut room at) ⊎ ((door : D) × (twins : List D) × (new ≡ all_left (ajar room []) (door ∷ twins)))
  pub not_out : (room : ℕ) → new ≡ ajar room [] → old ≡ ajar room []

-- all of a house is home
pub record AllHome {F S C N T I D : Type 0} (old new : Lendings F S C N T I D) : Type 0 where
  pub file : AreHome old.file new.file
  pub disk : AreHome old.disk new.disk
  pub console : IsHome old.console new.console
  pub notes : IsHome old.notes new.notes
  pub clock : IsHome old.clock new.clock
  pub draws : IsHome old.draws new.draws
  pub doors : DoorsAreHome old.doors new.doors
