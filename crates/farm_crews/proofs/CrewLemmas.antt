-- How workers are gathered, one after the other.
use Rattle.std.proofs.Common.{◌≡◌, ℕ, suc, ◌+◌, ◌-◌, ◌<◌, ◌≤◌, List, [], ◌∷◌, length, map, Option, Some, None, Result, Ok, Err, refl, sym, ◌∙◌, ap, arith}
use Rattle.std.specs.List.{All}
use Rattle.std.specs.Prelude.{IfErr}
use Rattle.std.proofs.lemmas.List.{length-map}
use Rattle.causes.specs.Causes.{Rose}
use Rattle.farm_text.specs.Logs.{LogGrows}
use Rattle.farm_text.proofs.LogsLemmas.{LogGrows-none, LogGrows-then}
use Rattle.farm_text.specs.Told.{IsNewBeside}
use Rattle.farm_serving.specs.Connections.{Station}
use Rattle.farm_crews.specs.Crew.{IsStill, IsBeside, AreCrew, IsWholeCrew, IsKeptCrew, IsDoorFailed}

-- a log beside which another one is new is told no longer, or that one is new beside it still
beside_later : {A : Type 0} (before after other : Option (List A)) → LogGrows before after [] → IsNewBeside before other → IsNewBeside after other
beside_later before None other grows new = tt
beside_later None (Some told) other grows new = absurd grows
beside_later (Some told) (Some more) other grows new = new

pub IsStill-none : (at : Station) → IsStill at at
IsStill-none at = record {
  moments = LogGrows-none at.company.moments;
  ids = LogGrows-none at.company.ids;
  gate = refl;
  given = LogGrows-none at.given;
  taken = LogGrows-none at.taken;
  out = refl;
  accepts = refl;
  faults = omega arith;
}

pub IsStill-then : (a b c : Station) → IsStill a b → IsStill b c → IsStill a c
IsStill-then a b c first second = record {
  moments = LogGrows-then a.company.moments b.company.moments c.company.moments [] [] first.moments second.moments;
  ids = LogGrows-then a.company.ids b.company.ids c.company.ids [] [] first.ids second.ids;
  gate = second.gate ∙ first.gate;
  given = LogGrows-then a.given b.given c.given [] [] first.given second.given;
  taken = LogGrows-then a.taken b.taken c.taken [] [] first.taken second.taken;
  out = second.out ∙ first.out;
  accepts = second.accepts ∙ first.accepts;
  faults = omega (arith, first.faults, second.faults);
}

IsBeside-later : (before after other : Station) → IsStill before after → IsBeside before other → IsBeside after other
IsBeside-later before after other still beside = record {
  moments = beside_later before.company.moments after.company.moments other.company.moments still.moments beside.moments;
  ids = beside_later before.company.ids after.company.ids other.company.ids still.ids beside.ids;
  gate = beside.gate ∙ sym still.gate;
  given = beside_later before.given after.given other.given still.given beside.given;
  taken = beside_later before.taken after.taken other.taken still.taken beside.taken;
  out = beside.out;
  accepts = beside.accepts;
  faults = beside.faults;
}

pub AllBeside-later : (before after : Station) (others : List Station) → IsStill before after → All (IsBeside before) others → All (IsBeside after) others
AllBeside-later before after others still beside = λ k other lt. IsBeside-later before after _ still (beside k other lt)

-- the first, and those beside it, are a crew
pub AreCrew-made : {W : Type 0} (tells : W → Station) (lent : Station) (first : W) (others row : List W) → row ≡ first ∷ others → IsStill lent (tells first) → All (IsBeside (tells first)) (map tells others)
    → AreCrew lent (map tells row)
AreCrew-made tells lent first others row is still beside = record { first = tells first; others = map tells others; are = ap (map tells) is; still = still; beside = beside }

pub IsWholeCrew-made : {W : Type 0} (tells : W → Station) (count : ℕ) (lent : Station) (first : W) (others row : List W) → row ≡ first ∷ others → IsStill lent (tells first) → All (IsBeside (tells first)) (map tells others)
    → 0 < count → length others ≡ count - 1 → (tells first).faults ≡ lent.faults → IsWholeCrew count lent (map tells row)
unfolding AreCrew-made
IsWholeCrew-made tells count lent first others row is still beside some counted kept = record {
  is_crew = AreCrew-made tells lent first others row is still beside;
  counted = ap (λ ws. length (map tells ws)) is ∙ (ap suc (length-map others tells ∙ counted) ∙ omega (arith, some));
  kept = kept;
}

pub IsKeptCrew-made : {W : Type 0} (tells : W → Station) (lent : Station) (first : W) (others row : List W) → row ≡ first ∷ others → IsStill lent (tells first) → All (IsBeside (tells first)) (map tells others)
    → (tells first).faults ≡ lent.faults → IsKeptCrew lent (map tells row)
unfolding AreCrew-made
IsKeptCrew-made tells lent first others row is still beside kept = record { is_crew = AreCrew-made tells lent first others row is still beside; kept = kept }

-- every worker that was asked for stands, so no twin failed
pub IsKeptCrew-whole : (count : ℕ) (lent : Station) (crew : List Station) → IsWholeCrew count lent crew → IsKeptCrew lent crew
IsKeptCrew-whole count lent crew whole = record { is_crew = whole.is_crew; kept = whole.kept }

pub IsDoorFailed-made : {W : Type 0} (tells : W → Station) (lent : Station) (first : W) (others row : List W) → row ≡ first ∷ others → IsStill lent (tells first) → All (IsBeside (tells first)) (map tells others)
    → Rose lent.faults (tells first).faults → IsDoorFailed lent (map tells row)
unfolding AreCrew-made
IsDoorFailed-made tells lent first others row is still beside rose = record { is_crew = AreCrew-made tells lent first others row is still beside; rose = rose }

-- what follows from an answer follows wherever it came
pub if_err : {T E : Type 0} {P Q : E → Type 0} (r : Result T E) → ((e : E) → P e → Q e) → IfErr r P → IfErr r Q
if_err (Ok x) f h = tt
if_err (Err e) f h = f e h
