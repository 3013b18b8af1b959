-- What serving leaves together.
use Rattle.std.proofs.Common.{◌≡◌, ◌≢◌, ℕ, ◌+◌, ◌^◌, ◌⊎◌, List, [], ◌∷◌, ◌++◌, length, take, drop, refl, sym, ◌∙◌, ap, subst, inl, inr, arith}
use Rattle.std.specs.List.Sorted.{IsPermutation}
use Rattle.farm_desk.specs.Home.{Home}
use Rattle.history.specs.Asks.{LeadsAlone}
use Rattle.http_wire.specs.Calls.{LinkState}
use Rattle.shared_desk.specs.Standing.{Standing, fresh_token, home_of}
use Rattle.farm_machine.specs.Entry.{Entry}
use Rattle.farm_machine.specs.Law.{Opening as History, opened}
use Rattle.farm_machine.specs.State.{State}
use Rattle.farm_machine.specs.Step.{farm_rules}
use Rattle.farm_serving.specs.Connections.{Station}
use Rattle.farm_crews.specs.declared.crew.Lack.{Lack}
use Rattle.farm_crews.specs.declared.crew.Lack.TheVariants as lacks
use Rattle.console_commands.specs.declared.status.Status.{Status}
use Rattle.console_commands.specs.declared.status.Status.TheVariants.{Done, Usage, FarmFile, Input, Opening, Disk, Door, Read, Write, NoMemory, Wire, Damaged}
use Rattle.farm_crews.specs.Crew.{status_of_lack, IsWholeCrew, IsKeptCrew, IsDoorFailed}
use Rattle.farm_crews.proofs.CrewLemmas.{IsKeptCrew-whole}
use Rattle.farm_crews.specs.Serves.{ready_text, ServesReady, IsUnready, NeverServed, IsLed, ServesAll}
use Rattle.console_commands.specs.Writing.{SameReads, SameWrites, WritesText}

-- a text that was not written whole was broken off
pub unwritten : (before after : LinkState) (text : List ℕ) (status : Status) → WritesText before after text status → ¬ (status ≡ Done) → (status ≡ Write) × WritesText before after text Write
unwritten before after text Done writes undone = absurd (undone refl)
unwritten before after text Write writes undone = (refl, writes)
unwritten before after text Usage writes undone = absurd writes
unwritten before after text FarmFile writes undone = absurd writes
unwritten before after text Input writes undone = absurd writes
unwritten before after text Opening writes undone = absurd writes
unwritten before after text Disk writes undone = absurd writes
unwritten before after text Door writes undone = absurd writes
unwritten before after text Read writes undone = absurd writes
unwritten before after text NoMemory writes undone = absurd writes
unwritten before after text Wire writes undone = absurd writes
unwritten before after text Damaged writes undone = absurd writes

-- nothing was led through
pub IsLed-none : (state : State) (Held : History → List Entry → Type 0) → IsLed state state Held Held [] []
IsLed-none state Held = record {
  leads = record { legal = tt; leads = refl; all = refl; made = ([], refl) };
  holds = λ opening begins held. held;
}

-- what a desk leads to that began with this object
pub IsLed-closed : {O : Type 0} (state : O → State) (holds : O → History → List Entry → Type 0) (object first : O) (new : State) (Holds : History → List Entry → Type 0) (history : List Entry) (calls : List ℕ)
    → first ≡ object → LeadsAlone farm_rules (state first) history calls new
    → ((opening : History) → opened opening ≡ state first → holds first opening [] → Holds opening history)
    → IsLed (state object) new (holds object) Holds history calls
IsLed-closed {O} state holds object first new Holds history calls is leads goes =
    subst (λ (o : O). IsLed (state o) new (holds o) Holds history calls) is (record { leads = leads; holds = goes })

-- workers that were lacking served nothing
pub NeverServed-lack : (at : LinkState) (lent : Station) (crew : List Station) (lack : Lack) (status : Status) → (lack ≡ lacks.Door → IsDoorFailed lent crew) → (lack ≡ lacks.Memory → IsKeptCrew lent crew)
    → status ≡ status_of_lack lack → NeverServed at at lent crew status
NeverServed-lack at lent crew lacks.Door status failed kept is = rw is (record { left = refl; faults = refl }, record { written = refl; faults = refl }, failed refl)
NeverServed-lack at lent crew lacks.Memory status failed kept is = rw is (record { left = refl; faults = refl }, record { written = refl; faults = refl }, kept refl)

-- nobody served, and the object is as it was
pub ServesAll-never : (count connections : ℕ) (before after : LinkState) (lent : Station) (afters : List Station) (state : State) (Held : History → List Entry → Type 0) (status : Status)
    → NeverServed before after lent afters status → ServesAll count connections before after lent afters state state Held Held status
ServesAll-never count connections before after lent afters state Held status never =
    record { history = []; calls = []; led = IsLed-none state Held; did = inr (refl, never) }

module _ (connections : ℕ) (before after : LinkState) (old new : Standing State Entry) (befores afters : List Station) (status : Status)
    (did : ServesReady connections before after old new befores afters status ⊎ IsUnready before after old new befores afters status) where
  -- the token is of the desk that it was of, and has as many asks and calls together
  pub home_kept : home_of new ≡ home_of old
  home_kept = elim did [
    | inl serves ↦ serves.serves.1.home
    | inr unready ↦ ap home_of unready.unasked
  ]

  pub desk_kept : new.desk ≡ old.desk
  desk_kept = ap (λ (home : Home State). home.desk) home_kept

  pub asks_kept : new.left + length new.mine ≡ old.left + length old.mine
  asks_kept = ap (λ (home : Home State). home.asks) home_kept

-- workers served, or `ready` could not be written
pub ServesAll-served : (count connections : ℕ) (before after : LinkState) (lent : Station) (crew afters : List Station) (old new : State) (Held Holds : History → List Entry → Type 0) (first token : Standing State Entry)
    (calls : List ℕ) (status : Status)
    → first ≡ fresh_token first.desk old → IsWholeCrew count lent crew → IsPermutation token.mine calls → IsLed old new Held Holds token.seen calls
    → ServesReady connections before after first token crew afters status ⊎ IsUnready before after first token crew afters status
    → ServesAll count connections before after lent afters old new Held Holds status
ServesAll-served count connections before after lent crew afters old new Held Holds first token calls status fresh whole all led (inl served) = record {
  history = token.seen;
  calls = calls;
  led = led;
  did = inl (record { crew = crew; whole = whole; first = first; fresh = fresh; token = token; seen = refl; all = all; served = served });
}
ServesAll-served count connections before after lent crew afters old new Held Holds first token calls status fresh whole all led (inr unready) =
    let none : token.seen ≡ [] = ap (λ (t : Standing State Entry). t.seen) (unready.unasked ∙ fresh) in
    record {
      history = token.seen;
      calls = calls;
      led = led;
      did = inr (none, rw unready.status_is (unready.unread, unready.broken, subst (IsKeptCrew lent) (sym unready.unused) (IsKeptCrew-whole count lent crew whole)));
    }

-- what was taken out as a slice stands there again
pub put_back : {W : Type 0} (n : ℕ) (slice row : List W) → length slice ≡ length row → n ≡ length row → take n (slice ++ drop (length slice) row) ≡ slice
put_back n slice row same all = rw all (whole slice row same)
  where
    whole : {W : Type 0} (xs ys : List W) → length xs ≡ length ys → take (length ys) (xs ++ drop (length xs) ys) ≡ xs
    whole [] [] same = refl
    whole [] (y ∷ ys) same = cc
    whole (x ∷ xs) [] same = cc
    whole (x ∷ xs) (y ∷ ys) same = ap (λ zs. x ∷ zs) (whole xs ys (omega (arith, same)))
