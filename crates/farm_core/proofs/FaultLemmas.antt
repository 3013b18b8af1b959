-- What the count of a disk's faults tells of the parts of an ask.
use Rattle.std.proofs.Common.{◌≡◌, ℕ, ◌≤◌, true, false, Bool, subst, arith}
use Rattle.causes.specs.Causes.{Rose}
use Rattle.farm_core.specs.Farm.{TellsFaults}

-- no call failed
pub tells-kept : (old now : ℕ) (halted : Bool) → halted ≡ false → now ≡ old → TellsFaults old now halted
tells-kept old now halted still same = record { later = omega arith; rose = λ fell. cc; stays = λ _. same }

-- one did
pub tells-rose : (old now : ℕ) (halted : Bool) → halted ≡ true → old ≤ now → Rose old now → TellsFaults old now halted
tells-rose old now halted fell later rose = record { later = later; rose = λ _. rose; stays = λ still. cc }

-- first none, and then perhaps one
pub tells-then : (old between now : ℕ) (halted : Bool) → between ≡ old → TellsFaults between now halted → TellsFaults old now halted
tells-then old between now halted same tells = subst (λ (n : ℕ). TellsFaults n now halted) same tells

-- a count that rose from one which is as it was
pub rose-from : (before between after : ℕ) → between ≡ before → Rose between after → Rose before after
rose-from before between after same rose = subst (λ (n : ℕ). Rose n after) same rose
