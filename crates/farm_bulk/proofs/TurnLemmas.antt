-- What turns were asked and told, of whose entries a history is made: the machine goes through them one by one.
use Rattle.std.proofs.Common.{◌≡◌, ℕ, ◌+◌, List, [], ◌∷◌, ◌++◌, length, length-append, map, Option, Some, refl, sym, ◌∙◌, ap, append_assoc}
use Rattle.history.specs.Rules.{Rules}
use Rattle.history.specs.Histories.{entries, end_state, reply_at, asked_at, calls_of}
use Rattle.history.specs.Asks.{IsAsk, AreEntries}
use Rattle.history.proofs.HistoriesLemmas.{end_state-append, calls_of-append, asked_at-append_seam, reply_at-append_seam}
use Rattle.history.proofs.AsksLemmas.{calls_of-ask}

-- both parts of two lists
map-cons : {X Y : Type 0} (f : X → Y) (x : X) (xs : List X) (y : Y) (ys : List Y) → f x ≡ y → map f xs ≡ ys → map f (x ∷ xs) ≡ y ∷ ys
map-cons f x xs y ys first rest = ap (λ v. v ∷ map f xs) first ∙ ap (λ vs. y ∷ vs) rest

-- What is found at the places of the calls: what is said of one entry, where it stands behind others.
module _ {Q A S E R X : Type 0} (r : Rules Q A S E R) (opening : S) (found : List E → ℕ → Option X) (value : List E → E → Option X) (wanted : Q × A → Option X)
    (seam : (seen : List E) (entry : E) (since : List E) → found (seen ++ entry ∷ since) (length seen) ≡ value seen entry)
    (tells : (front : List E) (state : S) (turn : Q × A) (call : E) (new : S) → state ≡ end_state r opening front → IsAsk r state turn.0 turn.1 call new → value (front ++ r.ticks state turn.0 turn.1) call ≡ wanted turn) where
  found_at_calls : (state : S) (turns : List (Q × A)) (made front : List E) → state ≡ end_state r opening front → AreEntries r state turns made → map (found (front ++ made)) (calls_of r (length front) made) ≡ map wanted turns
  found_at_calls state [] made front leads are = rw are refl
  found_at_calls state (turn ∷ turns) made front leads are =
      let ticks = r.ticks state turn.0 turn.1 in
      let call = are.0 in
      let rest = are.2 in
      let mine = entries r state turn.0 turn.1 call in
      let own : calls_of r (length front) mine ≡ (length front + length ticks) ∷ [] = calls_of-ask r (length front) [] state turn.0 turn.1 call are.1 are.3 in
      let further : calls_of r (length front) (mine ++ rest) ≡ (length front + length ticks) ∷ calls_of r (length front + length mine) rest = calls_of-append r (length front) mine rest ∙ ap (λ places. places ++ calls_of r (length front + length mine) rest) own in
      let at_call : front ++ (mine ++ rest) ≡ (front ++ ticks) ++ call ∷ rest = ap (λ es. front ++ es) (append_assoc ticks (call ∷ []) rest) ∙ sym (append_assoc front ticks (call ∷ rest)) in
      let here : found (front ++ (mine ++ rest)) (length front + length ticks) ≡ wanted turn = rw (at_call, ← length-append front ticks) (seam (front ++ ticks) call rest ∙ tells front state turn call are.1 leads are.3) in
      let leads_on : are.1 ≡ end_state r opening (front ++ mine) = are.3.leads ∙ (ap (λ s. end_state r s mine) leads ∙ sym (end_state-append r opening front mine)) in
      let later : map (found (front ++ (mine ++ rest))) (calls_of r (length front + length mine) rest) ≡ map wanted turns = rw (← append_assoc front mine rest, ← length-append front mine) (found_at_calls are.1 turns rest (front ++ mine) leads_on are.5) in
      rw (are.4, further) (map-cons (found (front ++ (mine ++ rest))) (length front + length ticks) (calls_of r (length front + length mine) rest) (wanted turn) (map wanted turns) here later)

-- the questions that stand at the places of the calls are those of the turns
pub asked_at-calls : {Q A S E R : Type 0} (r : Rules Q A S E R) (state : S) (turns : List (Q × A)) (made : List E) → AreEntries r state turns made → map (asked_at r made) (calls_of r 0 made) ≡ map (λ (turn : Q × A). Some turn.0) turns
asked_at-calls r state turns made are =
    found_at_calls r state (asked_at r) (λ seen entry. r.asked entry) (λ turn. Some turn.0) (asked_at-append_seam r) (λ front before turn call new leads ask. ask.asked) state turns made [] refl are

-- and so are the replies
pub reply_at-calls : {Q A S E R : Type 0} (r : Rules Q A S E R) (state : S) (turns : List (Q × A)) (made : List E) → AreEntries r state turns made → map (reply_at r state made) (calls_of r 0 made) ≡ map (λ (turn : Q × A). Some (r.told turn.1)) turns
reply_at-calls {Q = Q} {A = A} {S = S} {E = E} r state turns made are =
    found_at_calls r state (reply_at r state) (λ seen entry. r.reply (end_state r state seen) entry) (λ turn. Some (r.told turn.1)) (reply_at-append_seam r state) replied state turns made [] refl are
  where
    replied : (front : List E) (before : S) (turn : Q × A) (call : E) (new : S) → before ≡ end_state r state front → IsAsk r before turn.0 turn.1 call new → r.reply (end_state r state (front ++ r.ticks before turn.0 turn.1)) call ≡ Some (r.told turn.1)
    replied front before turn call new leads ask = rw (end_state-append r state front (r.ticks before turn.0 turn.1), ← leads) ask.reply
