-- How what a worker did goes together, connection by connection.
use Rattle.std.proofs.Common.{◌≡◌, ℕ, ◌+◌, ◌*◌, ◌-◌, ◌^◌, ◌<◌, ◌≤◌, ◌⊎◌, inl, inr, List, [], ◌∷◌, ◌++◌, length, length-append, map, refl, sym, ◌∙◌, ap, subst, append-nil, arith}
use Rattle.std.specs.List.{sum_by}
use Rattle.std.proofs.lemmas.List.{map-append}
use Rattle.std.proofs.lemmas.List.Concat.{flat_map-append}
use Rattle.std.proofs.lemmas.List.Elements.{All-nil, All-cons}
use Rattle.std.proofs.lemmas.List.Sums.{sum_by-cons}
use Rattle.causes.specs.Causes.{Rose}
use Rattle.farm_text.specs.Logs.{LogGrows}
use Rattle.farm_text.proofs.LogsLemmas.{LogGrows-none, LogGrows-then}
use Rattle.history.specs.Asks.{AsksInTurn}
use Rattle.history.proofs.AsksLemmas.{AsksInTurn-none, AsksInTurn-then}
use Rattle.http_wire.specs.Calls.{LinkState}
use Rattle.farm_machine.specs.Law.{opened}
use Rattle.farm_machine.specs.Step.{farm_rules}
use Rattle.farm_server.specs.Served.{Standing, questions_of, IsCount}
use Rattle.farm_server.specs.declared.served.Served.{Served}
use Rattle.farm_server.specs.declared.served.Served.TheVariants.{Closed, EndedInside, WireFault, ReadFault, WriteFault, Full, NoMemory}
use Rattle.farm_serving.specs.Connections.{Connection, Company, InTurn, Station, Part, HasCounted, Worked, ServesLink, questions_in, replies_in}
use Rattle.listeners.specs.Doors.{IsMore}
use Rattle.farm_serving.specs.Numbers.{of_nothing, of_refusal, of_connection, FitTogether, both}
use Rattle.farm_serving.specs.Serving.{Works}
use Rattle.farm_serving.specs.Tally.{IsTally}
use Rattle.farm_serving.specs.declared.ended.Ended.{Ended}
use Rattle.farm_serving.proofs.TallyLemmas.{IsTally-joined, AreAtMost-accepts, FitTogether-most}

-- connections in turn, and others after them
InTurn-then : (before between after : Company) (cs ds : List Connection) → InTurn before between cs → InTurn between after ds → InTurn before after (cs ++ ds)
InTurn-then before between after [] ds first second = subst (λ (c : Company). InTurn c after ds) first second
InTurn-then before between after (c ∷ cs) ds first second =
    (first.0, first.1, InTurn-then first.0 between after cs ds first.2 second)

-- one count and then another
counted_on : (m n a b c : ℕ) → (a + m ≤ b) ⊎ (2 ^ 64 - 1 ≤ b) → (b + n ≤ c) ⊎ (2 ^ 64 - 1 ≤ c) → (a + (m + n) ≤ c) ⊎ (2 ^ 64 - 1 ≤ c)
counted_on m n a b c (inl first) (inl second) = inl (omega (arith, first, second))
counted_on m n a b c (inr first) (inl second) = inr (omega (arith, first, second))
counted_on m n a b c first (inr second) = inr second

HasCounted-then : (m n a b c : ℕ) → HasCounted m a b → HasCounted n b c → HasCounted (m + n) a c
HasCounted-then m n a b c first second =
    (λ none. second.0 (omega (arith, none)) ∙ first.0 (omega (arith, none)), counted_on m n a b c first.1 second.1)

HasCounted-none : (before after : ℕ) → after ≡ before → HasCounted 0 before after
HasCounted-none before after same = (λ none. same, inl (omega (arith, same)))

HasCounted-one : (before after : ℕ) → Rose before after → HasCounted 1 before after
HasCounted-one before after (inl rose) = (λ none. absurd (omega (arith, none)), inl (omega (arith, rose)))
HasCounted-one before after (inr last) = (λ none. absurd (omega (arith, none)), inr (omega (arith, last)))

-- one count of accepts and then another
IsMore-then : (m n a b c : ℕ) → IsMore m a b → IsMore n b c → IsMore (m + n) a c
IsMore-then m n a b c (inl first) (inl second) = inl (omega (arith, first, second))
IsMore-then m n a b c (inr first) (inl second) = inr (omega (arith, first.0, second), omega (arith, first.1, second))
IsMore-then m n a b c (inl first) (inr second) = inr (second.0, omega (arith, first, second.1))
IsMore-then m n a b c (inr first) (inr second) = inr (second.0, omega (arith, first.1, second.1))

-- the part that these make
abbrev part_of : Station → Station → ℕ → List Connection → Part
part_of before after failed connections = record { before = before; after = after; failed = failed; connections = connections }

-- a connection's link as it was given
abbrev given_link : Connection → LinkState
given_link c = c.given

-- and as it was taken back
abbrev taken_link : Connection → LinkState × ℕ
taken_link c = (c.back, length c.asks)

-- a part, and what follows it
Worked-then : (m n : ℕ) (before between after : Station) (f g : ℕ) (cs ds : List Connection) → Worked m (part_of before between f cs) → Worked n (part_of between after g ds) → Worked (m + n) (part_of before after (f + g) (cs ++ ds))
Worked-then m n before between after f g cs ds first second =
    let long = length-append cs ds in
    record {
      tried = omega (arith, long, first.tried, second.tried);
      turns = InTurn-then before.company between.company after.company cs ds first.turns second.turns;
      given = subst (λ (told : List LinkState). LogGrows before.given after.given told) (sym (map-append given_link cs ds)) (LogGrows-then before.given between.given after.given (map given_link cs) (map given_link ds) first.given second.given);
      taken = subst (λ (told : List (LinkState × ℕ)). LogGrows before.taken after.taken told) (sym (map-append taken_link cs ds)) (LogGrows-then before.taken between.taken after.taken (map taken_link cs) (map taken_link ds) first.taken second.taken);
      out = second.out ∙ first.out;
      made = IsMore-then m n before.accepts between.accepts after.accepts first.made second.made;
      faults = HasCounted-then f g before.faults between.faults after.faults first.faults second.faults;
    }

-- no accept was made
pub Works-none : (at : Standing) (before : Station) → Works 0 at at before before of_nothing
Works-none at before = record {
  failed = 0;
  connections = [];
  worked = record {
    tried = refl;
    turns = refl;
    given = LogGrows-none before.given;
    taken = LogGrows-none before.taken;
    out = refl;
    made = inl (omega arith);
    faults = HasCounted-none before.faults before.faults refl;
  };
  tally = record { served = refl; accept_faults = refl; read_faults = refl; write_faults = refl; wire_faults = refl; no_memory = refl };
  asked = AsksInTurn-none farm_rules opened at.stands;
  spent = omega arith;
}

-- an accept was made, and failed
pub Works-refused : (at : Standing) (before after : Station) → after.company ≡ before.company → LogGrows before.given after.given [] → LogGrows before.taken after.taken [] → after.out ≡ before.out → IsMore 1 before.accepts after.accepts → Rose before.faults after.faults → Works 1 at at before after of_refusal
Works-refused at before after company given taken out made rose = record {
  failed = 1;
  connections = [];
  worked = record {
    tried = refl;
    turns = company;
    given = given;
    taken = taken;
    out = out;
    made = made;
    faults = HasCounted-one before.faults after.faults rose;
  };
  tally = record { served = refl; accept_faults = refl; read_faults = refl; write_faults = refl; wire_faults = refl; no_memory = refl };
  asked = AsksInTurn-none farm_rules opened at.stands;
  spent = omega arith;
}

-- the numbers of one connection
tally_of : (ended : Ended) (before after : Station) (c : Connection) → ended ≡ of_connection (length c.asks) c.served → IsTally ended (part_of before after 0 (c ∷ []) ∷ [])
tally_of ended before after c is =
    subst (λ (e : Ended). IsTally e (part_of before after 0 (c ∷ []) ∷ [])) (sym is) (record { served = omega arith; accept_faults = omega arith; read_faults = omega arith; write_faults = omega arith; wire_faults = omega arith; no_memory = omega arith })

-- an accept was made, and the link that came was served and handed back
pub Works-one : (given : LinkState) (old new : Standing) (before between after : Station) (ended : Ended) → between.company ≡ before.company → LogGrows before.given between.given (given ∷ []) → LogGrows before.taken between.taken [] → between.out ≡ before.out + 1 → IsMore 1 before.accepts between.accepts → between.faults ≡ before.faults → ServesLink given old new between after ended → Works 1 old new before after ended
Works-one given old new before between after ended company gave taken out made faults serves =
    let c : Connection = record { given = given; back = serves.back; asks = serves.asks; replies = serves.replies; served = serves.served } in
    record {
      failed = 0;
      connections = c ∷ [];
      worked = record {
        tried = refl;
        turns = subst (λ (own : Company). InTurn own after.company (c ∷ [])) company (after.company, serves.spoke, refl);
        given = LogGrows-then before.given between.given after.given (given ∷ []) [] gave serves.none_given;
        taken = LogGrows-then before.taken between.taken after.taken [] ((serves.back, length serves.asks) ∷ []) taken serves.taken;
        out = omega (arith, out, serves.out);
        made = subst (IsMore 1 before.accepts) (sym serves.none_made) made;
        faults = HasCounted-none before.faults after.faults (serves.faults ∙ faults);
      };
      tally = tally_of ended before after c serves.counted;
      asked = subst (λ qs. AsksInTurn farm_rules opened old.stands new.stands qs (serves.replies ++ [])) (sym (append-nil (questions_of serves.asks))) (subst (λ rs. AsksInTurn farm_rules opened old.stands new.stands (questions_of serves.asks) rs) (sym (append-nil serves.replies)) serves.asked);
      spent = serves.spent ∙ ap (λ (n : ℕ). new.spare + n) (sym (ap (λ (e : Ended). e.served) serves.counted));
    }

-- what a worker did, and what it did then
pub Works-then : (m n : ℕ) (old middle new : Standing) (before between after : Station) (first second : Ended) → Works m old middle before between first → Works n middle new between after second → Works (m + n) old new before after (both first second)
Works-then m n old middle new before between after first second front back = record {
  failed = front.failed + back.failed;
  connections = front.connections ++ back.connections;
  worked = Worked-then m n before between after front.failed back.failed front.connections back.connections front.worked back.worked;
  tally = IsTally-joined first second (part_of before between front.failed front.connections) (part_of between after back.failed back.connections) (part_of before after (front.failed + back.failed) (front.connections ++ back.connections)) refl refl front.tally back.tally;
  asked = subst (λ qs. AsksInTurn farm_rules opened old.stands new.stands qs (replies_in (front.connections ++ back.connections))) (sym (flat_map-append (λ (c : Connection). questions_of c.asks) front.connections back.connections)) (subst (λ rs. AsksInTurn farm_rules opened old.stands new.stands (questions_in front.connections ++ questions_in back.connections) rs) (sym (flat_map-append (λ (c : Connection). c.replies) front.connections back.connections)) (AsksInTurn-then farm_rules opened old.stands middle.stands new.stands (questions_in front.connections) (questions_in back.connections) (replies_in front.connections) (replies_in back.connections) front.asked back.asked));
  spent = omega (arith, front.spent, back.spent);
}

-- the numbers of both fit where the accepts do, and the asks that the desk has left
pub Works-fit : (m n : ℕ) (old middle new : Standing) (before between after : Station) (first second : Ended) → m + n < 2 ^ 64 → old.spare < 2 ^ 64 → Works m old middle before between first → Works n middle new between after second → FitTogether first second
Works-fit m n old middle new before between after first second few spare front back =
    let p = part_of before between front.failed front.connections in
    let q = part_of between after back.failed back.connections in
    let most = AreAtMost-accepts m first (p ∷ []) (All-cons (Worked m) p [] front.worked (All-nil (Worked m))) front.tally in
    let more = AreAtMost-accepts n second (q ∷ []) (All-cons (Worked n) q [] back.worked (All-nil (Worked n))) back.tally in
    let whole : length (p ∷ []) * m ≡ m = omega arith in
    let rest : length (q ∷ []) * n ≡ n = omega arith in
    FitTogether-most first second (length (p ∷ []) * m) (length (q ∷ []) * n) (omega (arith, few, whole, rest)) (omega (arith, spare, front.spent, back.spent)) most more

-- a connection's messages that were asked are at most those that there is room for
IsCount-le : (room count : ℕ) (served : Served) → IsCount room count served → count ≤ room
IsCount-le room count Closed counted = omega (arith, counted)
IsCount-le room count EndedInside counted = omega (arith, counted)
IsCount-le room count (WireFault reason) counted = omega (arith, counted)
IsCount-le room count ReadFault counted = omega (arith, counted)
IsCount-le room count WriteFault counted = omega (arith, counted)
IsCount-le room count Full counted = omega (arith, counted)
IsCount-le room count NoMemory counted = omega (arith, counted)

asks_within : (before after : Company) (cs : List Connection) → InTurn before after cs → sum_by (λ c. length c.asks) cs ≤ length cs * 1000
asks_within before after [] turns = omega arith
asks_within before after (c ∷ cs) turns =
    let here = IsCount-le 1000 (length c.asks) c.served turns.1.count in
    let rest = asks_within turns.0 after cs turns.2 in
    let sum = sum_by-cons (λ (c : Connection). length c.asks) c cs in
    omega (arith, here, rest, sum)

-- where so many accepts were made and one more is to be, there are asks left for it
pub Works-room : (made accepts : ℕ) (old new : Standing) (before after : Station) (ended : Ended) → made < accepts → accepts * 1000 ≤ old.spare → Works made old new before after ended → 1000 ≤ new.spare
Works-room made accepts old new before after ended more room works =
    let asks = asks_within before.company after.company works.connections works.worked.turns in
    omega (arith, more, room, asks, works.tally.served, works.spent, works.worked.tried)
