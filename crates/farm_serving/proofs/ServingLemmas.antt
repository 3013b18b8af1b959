-- Whose places are whose: from what one worker did, and from two rows of workers to both.
use Rattle.std.proofs.Common.{◌≡◌, ◌≢◌, ℕ, Bool, true, suc, zero, ◌+◌, ◌*◌, ◌-◌, ◌^◌, ◌<◌, ◌≤◌, List, [], ◌∷◌, ◌++◌, length, length-append, map, take, drop, Some, Option, refl, sym, ◌∙◌, ap, subst, append_assoc, append-nil, slice_index_or, slice_set, All, AllPairs, arith}
use mathlib.Core.List.{IsPrefix}
use Rattle.std.specs.Bool.{◌==◌}
use Rattle.std.specs.List.{flat_map}
use Rattle.std.proofs.lemmas.Bool.Decides.{nat_tests}
use Rattle.std.proofs.lemmas.List.{map-append, length-map, nil_from_length, take-append-drop}
use Rattle.std.proofs.lemmas.List.Concat.{flat_map-append}
use Rattle.std.proofs.lemmas.List.Elements.{All-nil, All-cons, All-append}
use Rattle.std.proofs.lemmas.List.Kept.{AllPairs-cons}
use Rattle.history.specs.Histories.{IsLegal, asked_at, reply_at}
use Rattle.history.specs.Asks.{IsRisingWithin}
use Rattle.history.proofs.HistoriesLemmas.{asked_at-each_stays, reply_at-each_stays}
use Rattle.farm_desk.specs.Home.{Home}
use Rattle.shared_desk.specs.Standing.{Standing, gave, given, AreJoined, StandsFor, home_of}
use Rattle.farm_machine.specs.Entry.{Entry}
use Rattle.farm_machine.specs.Law.{Opening, opened}
use Rattle.farm_machine.specs.State.{State}
use Rattle.farm_machine.specs.Step.{farm_rules}
use Rattle.farm_server.specs.Served.{questions_of}
use Rattle.farm_server.specs.Served.{Standing as DeskStanding}
use Rattle.farm_serving.specs.Connections.{Connection, Company, InTurn, Station, Part, Worked, questions_in, replies_in}
use Rattle.farm_serving.specs.Numbers.{of_nothing, FitTogether, both}
use Rattle.farm_serving.specs.Serving.{Works, IsPortion, ArePortions, AreShares, HasGained, AreParts, Serves, ServesLegal}
use Rattle.farm_serving.specs.Tally.{IsTally}
use Rattle.farm_serving.specs.declared.ended.Ended.{Ended}
use Rattle.farm_serving.proofs.TallyLemmas.{IsTally-both, AreAtMost-accepts, FitTogether-most}

-- what is found at places, cut in two where the first of it ends
cut : {X : Type 0} (f : ℕ → Option X) (places : List ℕ) (xs ys : List X) → map f places ≡ map Some (xs ++ ys) → (map f (take (length xs) places) ≡ map Some xs) × (map f (drop (length xs) places) ≡ map Some ys) × (length (take (length xs) places) ≡ length xs)
cut f places [] ys found = (refl, found, refl)
cut f [] (x ∷ xs) ys found = cc
cut {X = X} f (place ∷ places) (x ∷ xs) ys found =
    let here : f place ≡ Some x = cc in
    let there : map f places ≡ map Some (xs ++ ys) = cc in
    let rest = cut f places xs ys there in
    (ap (λ (o : Option X). o ∷ map f (take (length xs) places)) here ∙ ap (λ (os : List (Option X)). Some x ∷ os) rest.0, rest.1, ap suc rest.2)

-- a worker's places are cut into portions of its connections
ArePortions-all : (opening : State) (seen : List Entry) (before after : Company) (cs : List Connection) (places : List ℕ) → InTurn before after cs → map (asked_at farm_rules seen) places ≡ map Some (questions_in cs) → map (reply_at farm_rules opening seen) places ≡ map Some (replies_in cs) → ArePortions opening seen cs places
ArePortions-all opening seen before after [] [] turns asked replied = refl
ArePortions-all opening seen before after [] (place ∷ places) turns asked replied = cc
ArePortions-all opening seen before after (c ∷ cs) places turns asked replied =
    let n = length c.asks in
    let first = cut (asked_at farm_rules seen) places (questions_of c.asks) (questions_in cs) asked in
    let second = cut (reply_at farm_rules opening seen) places c.replies (replies_in cs) replied in
    let questions : length (questions_of c.asks) ≡ n = length-map c.asks _ in
    let replies : length c.replies ≡ n = turns.1.each in
    let portion : IsPortion opening seen c (take n places) = record {
      each = subst (λ k. length (take k places) ≡ k) questions first.2;
      asked = subst (λ k. map (asked_at farm_rules seen) (take k places) ≡ map Some (questions_of c.asks)) questions first.0;
      replied = subst (λ k. map (reply_at farm_rules opening seen) (take k places) ≡ map Some c.replies) replies second.0;
    } in (
      take n places,
      drop n places,
      sym (take-append-drop n places),
      portion,
      ArePortions-all opening seen turns.0 after cs (drop n places) turns.2 (subst (λ k. map (asked_at farm_rules seen) (drop k places) ≡ map Some (questions_in cs)) questions first.1) (subst (λ k. map (reply_at farm_rules opening seen) (drop k places) ≡ map Some (replies_in cs)) replies second.1),
    )

-- portions stay when the history goes on
ArePortions-stay : (opening : State) (seen since : List Entry) (cs : List Connection) (places : List ℕ) → ArePortions opening seen cs places → ArePortions opening (seen ++ since) cs places
ArePortions-stay opening seen since [] places are = are
ArePortions-stay opening seen since (c ∷ cs) places are = (
  are.0,
  are.1,
  are.2,
  record {
    each = are.3.each;
    asked = asked_at-each_stays farm_rules seen since are.0 (questions_of c.asks) are.3.asked;
    replied = reply_at-each_stays farm_rules opening seen since are.0 c.replies are.3.replied;
  },
  ArePortions-stay opening seen since cs are.1 are.4,
)

-- places that rise within a history rise within a longer one
rising_longer : (first end later : ℕ) (places : List ℕ) → end ≤ later → IsRisingWithin first end places → IsRisingWithin first later places
rising_longer first end later [] le rise = omega (arith, le, rise)
rising_longer first end later (place ∷ places) le rise = (rise.0, rising_longer (place + 1) end later places le rise.1)

-- shares stay when the history goes on
AreShares-stay : (opening : State) (seen since : List Entry) (first : ℕ) (parts : List Part) (shares : List (List ℕ)) → AreShares opening seen first parts shares → AreShares opening (seen ++ since) first parts shares
AreShares-stay opening seen since first [] shares are = are
AreShares-stay opening seen since first (part ∷ parts) shares are =
    let longer : length seen ≤ length (seen ++ since) = let sum = length-append seen since in omega (arith, sum) in (
      are.0,
      are.1,
      are.2,
      rising_longer first (length seen) (length (seen ++ since)) are.0 longer are.3,
      ArePortions-stay opening seen since part.connections are.0 are.4,
      AreShares-stay opening seen since first parts are.1 are.5,
    )

-- the same of a history that begins with this one
AreShares-within : (opening : State) (seen longer : List Entry) (first : ℕ) (parts : List Part) (shares : List (List ℕ)) → IsPrefix seen longer → AreShares opening seen first parts shares → AreShares opening longer first parts shares
AreShares-within opening seen longer first parts shares begins are =
    subst (λ (es : List Entry). AreShares opening es first parts shares) begins.1 (AreShares-stay opening seen begins.0 first parts shares are)

-- the shares of some parts, and of others
AreShares-both : (opening : State) (seen : List Entry) (first : ℕ) (ps qs : List Part) (shares more : List (List ℕ)) → AreShares opening seen first ps shares → AreShares opening seen first qs more → AreShares opening seen first (ps ++ qs) (shares ++ more)
AreShares-both opening seen first [] qs shares more are others =
    subst (λ (ss : List (List ℕ)). AreShares opening seen first qs (ss ++ more)) (sym are) others
AreShares-both opening seen first (part ∷ ps) qs shares more are others = (
  are.0,
  are.1 ++ more,
  ap (λ (ss : List (List ℕ)). ss ++ more) are.2,
  are.3,
  are.4,
  AreShares-both opening seen first ps qs are.1 more are.5 others,
)

-- no place stands twice
abbrev AreOnce : List ℕ → Type 0
AreOnce places = AllPairs (λ place another. place ≢ another) places

AreOnce-none : AreOnce []
AreOnce-none = λ i j d before within. absurd (omega arith)

-- places that rise from above a place are others
others_above : (place first end : ℕ) (places : List ℕ) → place < first → IsRisingWithin first end places → All (λ another. place ≢ another) places
others_above place first end [] above rise = All-nil (λ another. place ≢ another)
others_above place first end (next ∷ places) above rise =
    let other : place ≢ next = λ same. absurd (omega (arith, above, rise.0, same)) in
    All-cons (λ another. place ≢ another) next places other (others_above place (next + 1) end places (omega (arith, above, rise.0)) rise.1)

-- places that rise stand once each
AreOnce-rising : (first end : ℕ) (places : List ℕ) → IsRisingWithin first end places → AreOnce places
AreOnce-rising first end [] rise = AreOnce-none
AreOnce-rising first end (place ∷ places) rise =
    AllPairs-cons (λ place another. place ≢ another) place places (others_above place (place + 1) end places (omega arith) rise.1) (AreOnce-rising (place + 1) end places rise.1)

-- what stands once in all stands once in the second part of it
AreOnce-second : (xs ys : List ℕ) → AreOnce (xs ++ ys) → AreOnce ys
AreOnce-second [] ys once = once
AreOnce-second (x ∷ xs) ys once =
    AreOnce-second xs ys (λ i j d before within. once (suc i) (suc j) d (omega arith) (omega arith))

-- an opening that begins in this state
abbrev opening_in : State → Opening
opening_in state = record { state = state; records = []; faults = 0 }

-- what a pass's desk stands for, and how many asks it has left
abbrev pub standing_of : Standing State Entry → DeskStanding
standing_of at = record { stands = λ opening seen mine. StandsFor farm_rules opened at opening seen mine; spare = at.left }

-- what a desk gained by one part
gains_one : (accepts : ℕ) (old new : Standing State Entry) (before after : Station) (ended : Ended) (works : Works accepts (standing_of old) (standing_of new) before after ended) (opening : State) → old.opening ≡ Some opening → IsLegal farm_rules opening old.seen → HasGained opening old new (record { before = before; after = after; failed = works.failed; connections = works.connections } ∷ [])
gains_one accepts old new before after ended works opening is legal =
    let gains = works.asked (opening_in opening) old.seen old.mine (refl, refl, is, legal) in
    let now = gains.stands_now in
    let rising : IsRisingWithin (length old.seen) (length new.seen) gains.gained = subst (λ (es : List Entry). IsRisingWithin (length old.seen) (length es) gains.gained) now.0 gains.rising in
    let asked = subst (λ (es : List Entry). map (asked_at farm_rules es) gains.gained ≡ map Some (questions_in works.connections)) now.0 gains.asked in
    let replied = subst (λ (es : List Entry). map (reply_at farm_rules opening es) gains.gained ≡ map Some (replies_in works.connections)) now.0 gains.replied in
    record {
      begins = (gains.since, now.0);
      legal = subst (IsLegal farm_rules opening) now.0 now.3;
      shares = gains.gained ∷ [];
      mine = sym now.1 ∙ ap (λ (places : List ℕ). old.mine ++ places) (sym (append-nil gains.gained));
      once = subst AreOnce (sym (append-nil gains.gained)) (AreOnce-rising (length old.seen) (length new.seen) gains.gained rising);
      are = (gains.gained, [], refl, rising, ArePortions-all opening new.seen before.company after.company works.connections gains.gained works.worked.turns asked replied, refl);
    }

-- what one worker did is what a row of one did
pub ServesLegal-one : (accepts : ℕ) (old new : Standing State Entry) (before after : Station) (ended : Ended) → home_of new ≡ home_of old → Works accepts (standing_of old) (standing_of new) before after ended → ServesLegal accepts old new (before ∷ []) (after ∷ []) ended
ServesLegal-one accepts old new before after ended home works =
    let part : Part = record { before = before; after = after; failed = works.failed; connections = works.connections } in (
      part ∷ [],
      record {
        began = refl;
        became = refl;
        worked = All-cons (Worked accepts) part [] works.worked (All-nil (Worked accepts));
        tally = works.tally;
        home = home;
        spent = works.spent;
      },
      gains_one accepts old new before after ended works,
    )

-- what belongs to one desk, began in one state and has as many asks in all, has one home
home_same : (a b : Standing State Entry) → a.desk ≡ b.desk → a.opening ≡ b.opening → a.left + length a.mine ≡ b.left + length b.mine → home_of a ≡ home_of b
home_same a b desk opening asks = rw (desk, opening, asks) refl

-- a list begins one that begins a longer one
prefix_trans : (xs ys zs : List Entry) → IsPrefix xs ys → IsPrefix ys zs → IsPrefix xs zs
prefix_trans xs ys zs first second =
    (first.0 ++ second.0, sym (append_assoc xs first.0 second.0) ∙ (ap (λ (es : List Entry). es ++ second.0) first.1 ∙ second.1))

-- what a desk gained by two rows of parts, each over a pass of its own, where the second pass was cut off the first and joined to it
gains_both : (opening : State) (old low high new : Standing State Entry) (asks : ℕ) (ps qs : List Part) → AreJoined low high new → IsLegal farm_rules opening new.seen → HasGained opening (gave old asks) low ps → HasGained opening (given old asks) high qs → HasGained opening old new (ps ++ qs)
gains_both opening old low high new asks ps qs joined legal front back =
    let mine : new.mine ≡ old.mine ++ flat_map (λ (share : List ℕ). share) (front.shares ++ back.shares) = joined.mine ∙ (ap (λ (places : List ℕ). places ++ high.mine) front.mine ∙ (ap (λ (places : List ℕ). (old.mine ++ flat_map (λ share. share) front.shares) ++ places) back.mine ∙ (append_assoc old.mine (flat_map (λ share. share) front.shares) (flat_map (λ share. share) back.shares) ∙ ap (λ (places : List ℕ). old.mine ++ places) (sym (flat_map-append (λ (share : List ℕ). share) front.shares back.shares))))) in
    record {
      begins = prefix_trans old.seen low.seen new.seen front.begins joined.seen;
      legal = legal;
      shares = front.shares ++ back.shares;
      mine = mine;
      once = AreOnce-second old.mine (flat_map (λ (share : List ℕ). share) (front.shares ++ back.shares)) (subst AreOnce mine joined.once);
      are = AreShares-both opening new.seen (length old.seen) ps qs front.shares back.shares (AreShares-within opening low.seen new.seen (length old.seen) ps front.shares joined.seen front.are) (AreShares-within opening high.seen new.seen (length old.seen) qs back.shares joined.told back.are);
    }

-- the parts of two rows of workers
parts_both : (accepts : ℕ) (old low high new : Standing State Entry) (asks : ℕ) (lows_before lows_after highs_before highs_after : List Station) (first second : Ended) (ps qs : List Part) → asks ≤ old.left → AreJoined low high new → AreParts accepts (gave old asks) low lows_before lows_after first ps → AreParts accepts (given old asks) high highs_before highs_after second qs → AreParts accepts old new (lows_before ++ highs_before) (lows_after ++ highs_after) (both first second) (ps ++ qs)
parts_both accepts old low high new asks lows_before lows_after highs_before highs_after first second ps qs few joined front back =
    let low_asks : low.left + length low.mine ≡ old.left - asks + length old.mine = ap (λ (h : Home State). h.asks) front.home in
    let high_asks : high.left + length high.mine ≡ asks + 0 = ap (λ (h : Home State). h.asks) back.home in
    let mine : length new.mine ≡ length low.mine + length high.mine = ap length joined.mine ∙ length-append low.mine high.mine in
    record {
      began = map-append (λ (part : Part). part.before) ps qs ∙ (ap (λ (bs : List Station). bs ++ map (λ (part : Part). part.before) qs) front.began ∙ ap (λ (bs : List Station). lows_before ++ bs) back.began);
      became = map-append (λ (part : Part). part.after) ps qs ∙ (ap (λ (bs : List Station). bs ++ map (λ (part : Part). part.after) qs) front.became ∙ ap (λ (bs : List Station). lows_after ++ bs) back.became);
      worked = All-append (Worked accepts) ps qs front.worked back.worked;
      tally = IsTally-both first second ps qs front.tally back.tally;
      home = home_same new old (joined.desk ∙ ap (λ (h : Home State). h.desk) front.home) (joined.opening ∙ ap (λ (h : Home State). h.opening) front.home) (omega (arith, low_asks, high_asks, mine, joined.left, few));
      spent = omega (arith, joined.left, front.spent, back.spent, few);
    }

-- what two rows of workers did, each over a pass of its own, both did
pub ServesLegal-both : (accepts : ℕ) (old low high new : Standing State Entry) (asks : ℕ) (lows_before lows_after highs_before highs_after : List Station) (first second : Ended) → asks ≤ old.left → AreJoined low high new → ((opening : State) → low.opening ≡ Some opening → IsLegal farm_rules opening new.seen) → ServesLegal accepts (gave old asks) low lows_before lows_after first → ServesLegal accepts (given old asks) high highs_before highs_after second → ServesLegal accepts old new (lows_before ++ highs_before) (lows_after ++ highs_after) (both first second)
ServesLegal-both accepts old low high new asks lows_before lows_after highs_before highs_after first second few joined stays front back = (
  front.0 ++ back.0,
  parts_both accepts old low high new asks lows_before lows_after highs_before highs_after first second front.0 back.0 few joined front.1 back.1,
  λ opening is legal.
      let began : low.opening ≡ Some opening = ap (λ (h : Home State). h.opening) front.1.home ∙ is in
      gains_both opening old low high new asks front.0 back.0 joined (stays opening began) (front.2 opening is legal) (back.2 opening is legal),
)

-- as many parts as workers
parts_count : (accepts : ℕ) (old new : Standing State Entry) (befores afters : List Station) (ended : Ended) (parts : List Part) → AreParts accepts old new befores afters ended parts → length parts ≡ length befores
parts_count accepts old new befores afters ended parts are =
    sym (length-map parts (λ (part : Part). part.before)) ∙ ap length are.began

-- so many times as two numbers together is as often as each
times_both : (a b k : ℕ) → (a + b) * k ≡ a * k + b * k
times_both zero b k = omega arith
times_both (suc a) b k = let rest = times_both a b k in omega (arith, rest)

-- the numbers of two rows of workers fit, where the desk had this many asks
pub ServesLegal-fit : (accepts asks : ℕ) (old low high : Standing State Entry) (lows_before lows_after highs_before highs_after : List Station) (first second : Ended) → (length lows_before + length highs_before) * accepts < 2 ^ 64 → old.left < 2 ^ 64 → asks ≤ old.left → ServesLegal accepts (gave old asks) low lows_before lows_after first → ServesLegal accepts (given old asks) high highs_before highs_after second → FitTogether first second
ServesLegal-fit accepts asks old low high lows_before lows_after highs_before highs_after first second small room few front back =
    let most = AreAtMost-accepts accepts first front.0 front.1.worked front.1.tally in
    let more = AreAtMost-accepts accepts second back.0 back.1.worked back.1.tally in
    let lows = parts_count accepts (gave old asks) low lows_before lows_after first front.0 front.1 in
    let highs = parts_count accepts (given old asks) high highs_before highs_after second back.0 back.1 in
    let times = times_both (length lows_before) (length highs_before) accepts in
    let sum : length front.0 * accepts + length back.0 * accepts < 2 ^ 64 = rw (lows, highs) (omega (arith, small, times)) in
    FitTogether-most first second (length front.0 * accepts) (length back.0 * accepts) sum (omega (arith, room, few, front.1.spent, back.1.spent)) most more

-- from a token, what it saw is legal
Serves-legal : (accepts : ℕ) (old new : Standing State Entry) (befores afters : List Station) (ended : Ended) → ((opening : State) → old.opening ≡ Some opening → IsLegal farm_rules opening old.seen) → ServesLegal accepts old new befores afters ended → Serves accepts old new befores afters ended
Serves-legal accepts old new befores afters ended legal serves =
    (serves.0, serves.1, λ opening is. serves.2 opening is (legal opening is))

-- as many places are gained as messages were asked
Serves-gained : (accepts : ℕ) (old new : Standing State Entry) (befores afters : List Station) (ended : Ended) → ServesLegal accepts old new befores afters ended → length new.mine ≡ length old.mine + ended.served
Serves-gained accepts old new befores afters ended serves =
    let are = serves.1 in
    let asks : new.left + length new.mine ≡ old.left + length old.mine = ap (λ (h : Home State). h.asks) are.home in
    omega (arith, asks, are.spent)

-- no worker: nothing was done
pub ServesLegal-none : (accepts : ℕ) (at : Standing State Entry) (befores afters : List Station) (ended : Ended) → befores ≡ [] → afters ≡ [] → ended ≡ of_nothing → ServesLegal accepts at at befores afters ended
ServesLegal-none accepts at befores afters ended none none_after nothing = (
  [],
  record {
    began = sym none;
    became = sym none_after;
    worked = All-nil (Worked accepts);
    tally = subst (λ (e : Ended). IsTally e []) (sym nothing) (record { served = refl; accept_faults = refl; read_faults = refl; write_faults = refl; wire_faults = refl; no_memory = refl });
    home = refl;
    spent = subst (λ (e : Ended). at.left ≡ at.left + e.served) (sym nothing) (omega arith);
  },
  λ opening is legal. record {
    begins = ([], append-nil at.seen);
    legal = legal;
    shares = [];
    mine = sym (append-nil at.mine);
    once = AreOnce-none;
    are = refl;
  },
)

-- what there is for two rows of workers is enough for the second, and the rest for the first
pub room_for_both : (a b k n : ℕ) → (a + b) * k ≤ n → (b * k ≤ n) × (a * k ≤ n - b * k)
room_for_both a b k n room = let sum = times_both a b k in (omega (arith, room, sum), omega (arith, room, sum))

-- what is enough for some workers is enough for one
pub room_for_one : (a k n : ℕ) → 0 < a → a * k ≤ n → k ≤ n
room_for_one zero k n some room = absurd (omega (arith, some))
room_for_one (suc a) k n some room = omega (arith, room)

-- what is enough for the messages of connections is above their number
pub fewer_connections : (a c : ℕ) → a * c ≤ a * (c * 1000)
fewer_connections zero c = omega arith
fewer_connections (suc a) c = let rest = fewer_connections a c in omega (arith, rest)

-- the desk of both passes
pub ServesLegal-desk : (accepts asks : ℕ) (old cut rest low high : Standing State Entry) (lows_before lows_after highs_before highs_after : List Station) (first second : Ended) → cut ≡ gave old asks → rest ≡ given old asks → ServesLegal accepts cut low lows_before lows_after first → ServesLegal accepts rest high highs_before highs_after second → high.desk ≡ low.desk
ServesLegal-desk accepts asks old cut rest low high lows_before lows_after highs_before highs_after first second is also front back =
    ap (λ (h : Home State). h.desk) back.1.home ∙ (ap (λ (s : Standing State Entry). s.desk) also ∙ (sym (ap (λ (s : Standing State Entry). s.desk) is) ∙ sym (ap (λ (h : Home State). h.desk) front.1.home)))

-- what two rows of workers did, each over a pass of its own, both did
pub ServesLegal-joined : (accepts asks : ℕ) (old cut rest low high new : Standing State Entry) (lows_before lows_after highs_before highs_after : List Station) (first second : Ended) → cut ≡ gave old asks → rest ≡ given old asks → asks ≤ old.left → AreJoined low high new → ((opening : State) → low.opening ≡ Some opening → IsLegal farm_rules opening new.seen) → ServesLegal accepts cut low lows_before lows_after first → ServesLegal accepts rest high highs_before highs_after second → ServesLegal accepts old new (lows_before ++ highs_before) (lows_after ++ highs_after) (both first second)
ServesLegal-joined accepts asks old cut rest low high new lows_before lows_after highs_before highs_after first second is also few joined stays front back =
    ServesLegal-both accepts old low high new asks lows_before lows_after highs_before highs_after first second few joined stays (subst (λ (s : Standing State Entry). ServesLegal accepts s low lows_before lows_after first) is front) (subst (λ (s : Standing State Entry). ServesLegal accepts s high highs_before highs_after second) also back)

-- their numbers fit
ServesLegal-joined_fit : (accepts asks : ℕ) (old cut rest low high : Standing State Entry) (lows_before lows_after highs_before highs_after : List Station) (first second : Ended) → cut ≡ gave old asks → rest ≡ given old asks → (length lows_before + length highs_before) * (accepts * 1000) ≤ old.left → old.left < 2 ^ 64 → asks ≤ old.left → ServesLegal accepts cut low lows_before lows_after first → ServesLegal accepts rest high highs_before highs_after second → FitTogether first second
ServesLegal-joined_fit accepts asks old cut rest low high lows_before lows_after highs_before highs_after first second is also room small few front back =
    let fewer = fewer_connections (length lows_before + length highs_before) accepts in
    ServesLegal-fit accepts asks old low high lows_before lows_after highs_before highs_after first second (omega (arith, fewer, room, small)) small few (subst (λ (s : Standing State Entry). ServesLegal accepts s low lows_before lows_after first) is front) (subst (λ (s : Standing State Entry). ServesLegal accepts s high highs_before highs_after second) also back)

-- a token, and a pass of it that is served over: what the pass did, the token has done
over_token : (accepts : ℕ) (token pass last back : Standing State Entry) (befores afters : List Station) (ended : Ended) → pass ≡ token → back ≡ last → ServesLegal accepts pass last befores afters ended → ServesLegal accepts token back befores afters ended
over_token accepts token pass last back befores afters ended is also serves =
    subst (λ (s : Standing State Entry). ServesLegal accepts token s befores afters ended) (sym also) (subst (λ (s : Standing State Entry). ServesLegal accepts s last befores afters ended) is serves)

pub Serves-over : (accepts : ℕ) (token pass last back : Standing State Entry) (befores afters : List Station) (ended : Ended) → pass ≡ token → back ≡ last → ((opening : State) → token.opening ≡ Some opening → IsLegal farm_rules opening token.seen) → ServesLegal accepts pass last befores afters ended → Serves accepts token back befores afters ended
Serves-over accepts token pass last back befores afters ended is also legal serves =
    Serves-legal accepts token back befores afters ended legal (over_token accepts token pass last back befores afters ended is also serves)

pub gained-over : (accepts : ℕ) (token pass last back : Standing State Entry) (befores afters : List Station) (ended : Ended) → pass ≡ token → back ≡ last → ServesLegal accepts pass last befores afters ended → length back.mine ≡ length token.mine + ended.served
gained-over accepts token pass last back befores afters ended is also serves =
    Serves-gained accepts token back befores afters ended (over_token accepts token pass last back befores afters ended is also serves)

-- what one worker did, a row of it alone did
pub ServesLegal-row : {W : Type 0} (accepts : ℕ) (old new : Standing State Entry) (f : W → Station) (ws : List W) (other after : W) (ended : Ended) → length ws ≡ 1 → ServesLegal accepts old new (f (slice_index_or ws 0 other) ∷ []) (f after ∷ []) ended → ServesLegal accepts old new (map f ws) (map f (slice_set ws 0 after)) ended
ServesLegal-row accepts old new f [] other after ended one serves = absurd (omega (arith, one))
ServesLegal-row accepts old new f (w ∷ []) other after ended one serves = serves
ServesLegal-row accepts old new f (w ∷ v ∷ ws) other after ended one serves = absurd (omega (arith, one))

-- a row that is two rows together
pub ServesLegal-split : {W : Type 0} (accepts : ℕ) (old new : Standing State Entry) (f : W → Station) (ws low high lows highs : List W) (ended : Ended) → ws ≡ low ++ high → ServesLegal accepts old new (map f low ++ map f high) (map f lows ++ map f highs) ended → ServesLegal accepts old new (map f ws) (map f (lows ++ highs)) ended
ServesLegal-split accepts old new f ws low high lows highs ended is serves =
    subst (λ (befores : List Station). ServesLegal accepts old new befores (map f (lows ++ highs)) ended) (sym (ap (map f) is ∙ map-append f low high)) (subst (λ (afters : List Station). ServesLegal accepts old new (map f low ++ map f high) afters ended) (sym (map-append f lows highs)) serves)

-- what is enough for a row is enough for its halves
pub room_for_halves : (n a b middle k left : ℕ) → n * k ≤ left → a ≡ middle → b + middle ≡ n → (a + b) * k ≤ left
room_for_halves n a b middle k left room front back =
    let all : n ≡ a + b = omega (arith, front, back) in
    subst (λ (m : ℕ). m * k ≤ left) all room

-- no worker tells nothing
zero_is : (n : ℕ) (empty : Bool) → empty ≡ true → empty ≡ (n == 0) → n ≡ 0
zero_is n empty holds is = grind (arith, nat_tests)

pub no_worker : {W : Type 0} (f : W → Station) (ws : List W) (empty : Bool) → empty ≡ true → empty ≡ (length ws == 0) → map f ws ≡ []
no_worker f ws empty holds is = ap (map f) (nil_from_length ws (zero_is (length ws) empty holds is))

-- the numbers of two rows of workers fit
pub ServesLegal-rows_fit : {W : Type 0} (f : W → Station) (lows lows_after highs highs_after : List W) (accepts asks : ℕ) (old cut rest low high : Standing State Entry) (first second : Ended) → cut ≡ gave old asks → rest ≡ given old asks → (length lows + length highs) * (accepts * 1000) ≤ old.left → old.left < 2 ^ 64 → asks ≤ old.left → ServesLegal accepts cut low (map f lows) (map f lows_after) first → ServesLegal accepts rest high (map f highs) (map f highs_after) second → FitTogether first second
ServesLegal-rows_fit f lows lows_after highs highs_after accepts asks old cut rest low high first second is also room small few front back =
    let a : length (map f lows) ≡ length lows = length-map lows f in
    let b : length (map f highs) ≡ length highs = length-map highs f in
    ServesLegal-joined_fit accepts asks old cut rest low high (map f lows) (map f lows_after) (map f highs) (map f highs_after) first second is also (rw (a, b) room) small few front back
