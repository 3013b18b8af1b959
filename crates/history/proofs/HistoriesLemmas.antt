-- How a history goes on, and the places of its calls.
use Rattle.std.proofs.Common.{◌≡◌, ℕ, ◌+◌, ◌<◌, zero, suc, List, [], ◌∷◌, ◌++◌, length, map, Option, Some, None, IsSome, refl, sym, ◌∙◌, ap, subst, append_assoc, ◌↔◌, arith}
use Rattle.std.specs.List.{All, AllPairs, Contains}
use Rattle.std.proofs.lemmas.List.Elements.{All-nil, All-cons, All-contains, All-weaker, Contains-append_right}
use Rattle.std.proofs.lemmas.List.Kept.{AllPairs-cons}
use Rattle.history.specs.Rules.{Rules}
use Rattle.history.specs.Histories.{end_state, IsLegal, reply_at, asked_at, place_of, calls_of, Leads}

-- the state after two parts is the state after the second, from where the first ends
pub end_state-append : {Q A S E R : Type 0} (r : Rules Q A S E R) (state : S) (first next : List E) → end_state r state (first ++ next) ≡ end_state r (end_state r state first) next
end_state-append r state [] next = refl
end_state-append r state (entry ∷ first) next = end_state-append r (r.after state entry) first next

-- two parts are legal together where each is in its turn
pub IsLegal-append : {Q A S E R : Type 0} (r : Rules Q A S E R) (state : S) (first next : List E) → IsLegal r state first → IsLegal r (end_state r state first) next → IsLegal r state (first ++ next)
IsLegal-append r state [] next front back = back
IsLegal-append r state (entry ∷ first) next front back =
    (front.0, IsLegal-append r (r.after state entry) first next front.1 back)

-- the first part of a legal history is legal
pub IsLegal-front : {Q A S E R : Type 0} (r : Rules Q A S E R) (state : S) (first next : List E) → IsLegal r state (first ++ next) → IsLegal r state first
IsLegal-front r state [] next legal = tt
IsLegal-front r state (entry ∷ first) next legal = (legal.0, IsLegal-front r (r.after state entry) first next legal.1)

-- and so is the second, from where the first ends
pub IsLegal-back : {Q A S E R : Type 0} (r : Rules Q A S E R) (state : S) (first next : List E) → IsLegal r state (first ++ next) → IsLegal r (end_state r state first) next
IsLegal-back r state [] next legal = legal
IsLegal-back r state (entry ∷ first) next legal = IsLegal-back r (r.after state entry) first next legal.1

-- a history that leads to a state goes on by one that is legal from there
pub Leads-append : {Q A S E R : Type 0} (r : Rules Q A S E R) (opening : S) (seen since : List E) (old : S) → Leads r opening seen old → IsLegal r old since → Leads r opening (seen ++ since) (end_state r old since)
Leads-append r opening seen since old leads legal =
    let from_end : IsLegal r (end_state r opening seen) since = rw (← leads.1) legal in
    (IsLegal-append r opening seen since leads.0 from_end, rw (leads.1, end_state-append) refl)

-- the calls of two parts are those of the first and those of the second, moved on by the first's length
pub calls_of-append : {Q A S E R : Type 0} (r : Rules Q A S E R) (place : ℕ) (first next : List E) → calls_of r place (first ++ next) ≡ calls_of r place first ++ calls_of r (place + length first) next
calls_of-append r place [] next = ap (λ from. calls_of r from next) (omega arith)
calls_of-append r place (entry ∷ first) next =
    let moved : place + 1 + length first ≡ place + length (entry ∷ first) = omega arith in
    ap (λ calls. place_of (r.asked entry) place ++ calls) (calls_of-append r (place + 1) first next ∙ ap (λ from. calls_of r (place + 1) first ++ calls_of r from next) moved) ∙ sym (append_assoc (place_of (r.asked entry) place) (calls_of r (place + 1) first) (calls_of r (place + length (entry ∷ first)) next))

-- what was asked at a place stays when the history goes on
pub asked_at-append_left : {Q A S E R : Type 0} (r : Rules Q A S E R) (seen since : List E) (place : ℕ) (question : Q) → asked_at r seen place ≡ Some question → asked_at r (seen ++ since) place ≡ Some question
asked_at-append_left r [] since place question found = cc
asked_at-append_left r (entry ∷ seen) since zero question found = found
asked_at-append_left r (entry ∷ seen) since (suc place) question found = asked_at-append_left r seen since place question found

-- and so does the reply there
pub reply_at-append_left : {Q A S E R : Type 0} (r : Rules Q A S E R) (opening : S) (seen since : List E) (place : ℕ) (reply : R) → reply_at r opening seen place ≡ Some reply → reply_at r opening (seen ++ since) place ≡ Some reply
reply_at-append_left r opening [] since place reply found = cc
reply_at-append_left r opening (entry ∷ seen) since zero reply found = found
reply_at-append_left r opening (entry ∷ seen) since (suc place) reply found = reply_at-append_left r (r.after opening entry) seen since place reply found

-- the question of the entry that comes after a history stands at that history's length
pub asked_at-append_seam : {Q A S E R : Type 0} (r : Rules Q A S E R) (seen : List E) (entry : E) (since : List E) → asked_at r (seen ++ entry ∷ since) (length seen) ≡ r.asked entry
asked_at-append_seam r [] entry since = refl
asked_at-append_seam r (first ∷ seen) entry since = asked_at-append_seam r seen entry since

-- and so does its reply, in the state that the history leads to
pub reply_at-append_seam : {Q A S E R : Type 0} (r : Rules Q A S E R) (opening : S) (seen : List E) (entry : E) (since : List E) → reply_at r opening (seen ++ entry ∷ since) (length seen) ≡ r.reply (end_state r opening seen) entry
reply_at-append_seam r opening [] entry since = refl
reply_at-append_seam r opening (first ∷ seen) entry since = reply_at-append_seam r (r.after opening first) seen entry since

-- what is found at each of these places is found there by a reading that keeps what was found
found_at_each : {X : Type 0} (before after : ℕ → Option X) → ((place : ℕ) (x : X) → before place ≡ Some x → after place ≡ Some x) → (places : List ℕ) (xs : List X) → map before places ≡ map Some xs → map after places ≡ map Some xs
found_at_each before after keeps [] [] found = refl
found_at_each before after keeps [] (x ∷ xs) found = cc
found_at_each before after keeps (place ∷ places) [] found = cc
found_at_each before after keeps (place ∷ places) (x ∷ xs) found =
    let here : before place ≡ Some x = cc in
    let there : map before places ≡ map Some xs = cc in
    let kept = keeps place x here in
    let rest = found_at_each before after keeps places xs there in
    cc

-- questions found at their places stay found when the history goes on
pub asked_at-each_stays : {Q A S E R : Type 0} (r : Rules Q A S E R) (seen since : List E) (places : List ℕ) (questions : List Q) → map (asked_at r seen) places ≡ map Some questions → map (asked_at r (seen ++ since)) places ≡ map Some questions
asked_at-each_stays r seen since places questions found =
    found_at_each (asked_at r seen) (asked_at r (seen ++ since)) (asked_at-append_left r seen since) places questions found

-- and so do replies
pub reply_at-each_stays : {Q A S E R : Type 0} (r : Rules Q A S E R) (opening : S) (seen since : List E) (places : List ℕ) (replies : List R) → map (reply_at r opening seen) places ≡ map Some replies → map (reply_at r opening (seen ++ since)) places ≡ map Some replies
reply_at-each_stays r opening seen since places replies found =
    found_at_each (reply_at r opening seen) (reply_at r opening (seen ++ since)) (reply_at-append_left r opening seen since) places replies found

-- a place that stands this far on from where a list of places counts, and is a call
record IsCallFrom {Q A S E R : Type 0} (r : Rules Q A S E R) (from : ℕ) (seen : List E) (place : ℕ) : Type 0 where
  offset : ℕ
  place_is : place ≡ from + offset
  call : IsSome (asked_at r seen offset)

-- one entry before
later_call : {Q A S E R : Type 0} (r : Rules Q A S E R) (from : ℕ) (entry : E) (rest : List E) (place : ℕ) → IsCallFrom r (from + 1) rest place → IsCallFrom r from (entry ∷ rest) place
later_call r from entry rest place later = record {
  offset = suc later.offset;
  place_is = omega (arith, later.place_is);
  call = later.call;
}

-- the places of an entry's call and of the rest's
calls_of-cons : {Q A S E R : Type 0} (r : Rules Q A S E R) (from : ℕ) (entry : E) (rest : List E) (asked : Option Q) → r.asked entry ≡ asked → All (IsCallFrom r from (entry ∷ rest)) (calls_of r (from + 1) rest) → All (IsCallFrom r from (entry ∷ rest)) (place_of asked from ++ calls_of r (from + 1) rest)
calls_of-cons r from entry rest None is later = later
calls_of-cons r from entry rest (Some question) is later =
    All-cons (IsCallFrom r from (entry ∷ rest)) from (calls_of r (from + 1) rest) (record {
      offset = 0;
      place_is = omega arith;
      call = rw is refl;
    }) later

-- each of the places is a call's
calls_of-are_calls : {Q A S E R : Type 0} (r : Rules Q A S E R) (from : ℕ) (seen : List E) → All (IsCallFrom r from seen) (calls_of r from seen)
calls_of-are_calls r from [] = All-nil (IsCallFrom r from [])
calls_of-are_calls r from (entry ∷ rest) =
    calls_of-cons r from entry rest (r.asked entry) refl (All-weaker (IsCallFrom r (from + 1) rest) (IsCallFrom r from (entry ∷ rest)) (later_call r from entry rest) (calls_of r (from + 1) rest) (calls_of-are_calls r (from + 1) rest))

-- and each call's place is among them
calls_of-has_each : {Q A S E R : Type 0} (r : Rules Q A S E R) (from : ℕ) (seen : List E) (offset : ℕ) → IsSome (asked_at r seen offset) → Contains (calls_of r from seen) (from + offset)
calls_of-has_each r from [] offset call = cc
calls_of-has_each r from (entry ∷ rest) zero call = own_place (r.asked entry) from (calls_of r (from + 1) rest) call
  where
    own_place : {Q : Type 0} (asked : Option Q) (from : ℕ) (others : List ℕ) → IsSome asked → Contains (place_of asked from ++ others) (from + zero)
    own_place None from others call = cc
    own_place (Some question) from others call = (0, omega arith, omega arith)
calls_of-has_each r from (entry ∷ rest) (suc offset) call =
    let moved : from + 1 + offset ≡ from + suc offset = omega arith in
    let P : ℕ → Type 0 = Contains (calls_of r (from + 1) rest) in
    Contains-append_right (place_of (r.asked entry) from) (calls_of r (from + 1) rest) (from + suc offset) (subst P moved (calls_of-has_each r (from + 1) rest offset call))

-- a place is among the calls exactly where something was asked there
pub calls_of-exactly : {Q A S E R : Type 0} (r : Rules Q A S E R) (seen : List E) (place : ℕ) → Contains (calls_of r 0 seen) place ↔ IsSome (asked_at r seen place)
calls_of-exactly r seen place =
    (λ has. at_its_place (All-contains (IsCallFrom r 0 seen) (calls_of r 0 seen) place (calls_of-are_calls r 0 seen) has), λ call. calls_from_none call)
  where
    at_its_place : IsCallFrom r 0 seen place → IsSome (asked_at r seen place)
    at_its_place is = let same : place ≡ is.offset = omega (arith, is.place_is) in rw same is.call

    calls_from_none : IsSome (asked_at r seen place) → Contains (calls_of r 0 seen) place
    calls_from_none call = let same : 0 + place ≡ place = omega arith in let P : ℕ → Type 0 = Contains (calls_of r 0 seen) in subst P same (calls_of-has_each r 0 seen place call)

-- each place of a call is below those after it, if the others so rise
put_first : {Q A S E R : Type 0} (r : Rules Q A S E R) (from : ℕ) (rest : List E) (asked : Option Q) → AllPairs (λ x y. x < y) (calls_of r (from + 1) rest) → AllPairs (λ x y. x < y) (place_of asked from ++ calls_of r (from + 1) rest)
put_first r from rest None rise = rise
put_first r from rest (Some question) rise =
    let above = All-weaker (IsCallFrom r (from + 1) rest) (λ place. from < place) (λ place is. omega (arith, is.place_is)) (calls_of r (from + 1) rest) (calls_of-are_calls r (from + 1) rest) in
    AllPairs-cons (λ x y. x < y) from (calls_of r (from + 1) rest) above rise

-- the places of the calls rise, so none comes twice
pub calls_of-rise : {Q A S E R : Type 0} (r : Rules Q A S E R) (from : ℕ) (seen : List E) → AllPairs (λ x y. x < y) (calls_of r from seen)
calls_of-rise r from [] = λ i j d before within. absurd (omega arith)
calls_of-rise r from (entry ∷ rest) = put_first r from rest (r.asked entry) (calls_of-rise r (from + 1) rest)
