-- What a command asks its house for.
use Rattle.std.specs.Prelude.{◌≡◌}
use Rattle.http_wire.specs.Calls.{LinkState}
use Rattle.houses.specs.House.{WasLent, Lendings}
use Rattle.farm_cli.specs.Views.{Views, talk_of}

-- the console, the clock and the draws were not asked for, nor a disk or a door
pub record LeavesConsole {F S C N T I D : Type 0} (old new : Lendings F S C N T I D) : Type 0 where
  pub disk : new.disk ≡ old.disk
  pub console : new.console ≡ old.console
  pub clock : new.clock ≡ old.clock
  pub draws : new.draws ≡ old.draws
  pub doors : new.doors ≡ old.doors

-- the console alone was asked for, and came back after this was done with it
pub record UsedConsole {F S C N T I D : Type 0} (views : Views F S C N T I D) (old new : Lendings F S C N T I D) (Did : LinkState → LinkState → Type 0) : Type 0 where
  pub disk : new.disk ≡ old.disk
  pub given : C
  pub back : C
  pub console : WasLent old.console new.console given back
  pub clock : new.clock ≡ old.clock
  pub draws : new.draws ≡ old.draws
  pub doors : new.doors ≡ old.doors
  pub did : Did (talk_of views given) (talk_of views back)
