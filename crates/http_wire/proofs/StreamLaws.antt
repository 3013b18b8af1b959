-- A stream has one outcome, and one list of messages.
use Rattle.std.proofs.Common.{◌≡◌, ℕ, zero, suc, ◌≤◌, ◌⊎◌, ◌+◌, ◌-◌, ◌<◌, inl, inr, Bool, true, false, List, [], ◌∷◌, ◌++◌, Option, Some, None, IfSome, length, drop, refl, sym, ap, ◌∙◌, subst, subst₂, arith, take-append-drop}
use Rattle.std.specs.Bool.{MatchBool}
use Rattle.httparse.specs.Grammar.{RequestHead, ReadsRequest}
use Rattle.httparse.proofs.GrammarLemmas.{request_unique}
use Rattle.http_wire.specs.declared.message.Message.{Message}
use Rattle.http_wire.specs.declared.message.Wire.{Wire}
use Rattle.http_wire.specs.Head.{head_limit, IsOpen, HasHead, HasFault, Next, message, fault, too_large, ended, inside, Begins}
use Rattle.std.proofs.lemmas.Bool.{cases_lt}
use Rattle.std.proofs.lemmas.Bool.Decides.{nat_tests}
use Rattle.http_wire.specs.Stream.{Outcome, whole, stops, finish, Gives, Ending, stopped, closed, full, closing, Messages, TakesOne, is_of_stream, Stops}
use Rattle.http_wire.specs.Needed.{AreFollowedBy}
use Rattle.http_wire.proofs.Taken.{TakesKnown, NoneCloses}

-- a head and a fault exclude each other
head_no_fault : (bytes : List ℕ) (h : RequestHead) (rest : List ℕ) (n : ℕ) → HasHead bytes h rest → HasFault bytes n → ⊥
head_no_fault bytes h rest n head fails =
    fails.never (drop n bytes) h rest (subst (λ s. ReadsRequest s h rest) (sym (take-append-drop n bytes)) head.reads)

next_unique : (bytes : List ℕ) (a b : Next) → Begins bytes a → Begins bytes b → a ≡ b
next_unique bytes (message h r) (message k q) x y =
    let same = request_unique bytes h k r q x.reads y.reads in
    ap (λ g. message g r) same.0 ∙ ap (λ t. message k t) same.1
next_unique bytes (message h r) fault x y = absurd (head_no_fault bytes h r y.0 x y.1)
next_unique bytes (message h r) too_large x y = absurd (y.1.no_head h r x)
next_unique bytes (message h r) ended x y = absurd (y.1.no_head h r x)
next_unique bytes (message h r) inside x y = absurd (y.1.no_head h r x)
next_unique bytes fault (message k q) x y = absurd (head_no_fault bytes k q x.0 y x.1)
next_unique bytes fault fault x y = refl
next_unique bytes fault too_large x y = absurd (y.1.no_fault x.0 x.1)
next_unique bytes fault ended x y = absurd (y.1.no_fault x.0 x.1)
next_unique bytes fault inside x y = absurd (y.1.no_fault x.0 x.1)
next_unique bytes too_large (message k q) x y = absurd (x.1.no_head k q y)
next_unique bytes too_large fault x y = absurd (x.1.no_fault y.0 y.1)
next_unique bytes too_large too_large x y = refl
next_unique bytes too_large ended x y = absurd (omega (arith, x.0, y.0))
next_unique bytes too_large inside x y = absurd (omega (arith, x.0, y.0))
next_unique bytes ended (message k q) x y = absurd (x.1.no_head k q y)
next_unique bytes ended fault x y = absurd (x.1.no_fault y.0 y.1)
next_unique bytes ended too_large x y = absurd (omega (arith, x.0, y.0))
next_unique bytes ended ended x y = refl
next_unique bytes ended inside x y = absurd (y.2 x.2)
next_unique bytes inside (message k q) x y = absurd (x.1.no_head k q y)
next_unique bytes inside fault x y = absurd (x.1.no_fault y.0 y.1)
next_unique bytes inside too_large x y = absurd (omega (arith, x.0, y.0))
next_unique bytes inside ended x y = absurd (x.2 y.2)
next_unique bytes inside inside x y = refl

pub outcome_unique : (bytes : List ℕ) (a b : Outcome) → Gives bytes a → Gives bytes b → a ≡ b
outcome_unique bytes a b (n, x, e) (k, y, f) = e ∙ ap finish (next_unique bytes n k x y) ∙ sym f

-- the same after one message, by whether it closes
after_unique : (b : Bool) (room : ℕ) (ms ns : List Message) (d e : Ending) (P Q : Type 0) → (P → Q → (ms ≡ ns) × (d ≡ e))
    → MatchBool b ((ms ≡ []) × (d ≡ closing room)) P → MatchBool b ((ns ≡ []) × (e ≡ closing room)) Q → (ms ≡ ns) × (d ≡ e)
after_unique true room ms ns d e P Q later x y = (x.0 ∙ sym y.0, x.1 ∙ sym y.1)
after_unique false room ms ns d e P Q later x y = later x y

pub messages_unique : (room : ℕ) (bytes : List ℕ) (ms ns : List Message) (d e : Ending) → Messages room bytes ms d → Messages room bytes ns e → (ms ≡ ns) × (d ≡ e)
messages_unique room bytes [] [] d e (inl x) (inl y) = (refl, x.1 ∙ sym y.1)
messages_unique room bytes [] [] d e (inl x) (inr y) = absurd (omega (arith, x.0, y.0))
messages_unique room bytes [] [] d e (inr x) (inl y) = absurd (omega (arith, x.0, y.0))
messages_unique room bytes [] [] d e (inr (some, (w, gives, ends))) (inr (some', (v, gives', ends'))) =
    let same : stops w ≡ stops v = outcome_unique bytes _ _ gives gives' in
    let reason : w ≡ v = cc in
    (refl, ends ∙ ap stopped reason ∙ sym ends')
messages_unique room bytes [] (n ∷ ns) d e (inl x) y = absurd (omega (arith, x.0, y.0))
messages_unique room bytes [] (n ∷ ns) d e (inr (some, (w, gives, ends))) (some', (rest, gives', after)) =
    let same : stops w ≡ whole n rest = outcome_unique bytes _ _ gives gives' in
    cc
messages_unique room bytes (m ∷ ms) [] d e x (inl y) = absurd (omega (arith, x.0, y.0))
messages_unique room bytes (m ∷ ms) [] d e (some, (rest, gives, after)) (inr (some', (w, gives', ends))) =
    let same : whole m rest ≡ stops w = outcome_unique bytes _ _ gives gives' in
    cc
messages_unique room bytes (m ∷ ms) (n ∷ ns) d e (some, (rest, gives, after)) (some', (rest', gives', after')) =
    let same : whole m rest ≡ whole n rest' = outcome_unique bytes _ _ gives gives' in
    let first : m ≡ n = cc in
    let remaining : rest ≡ rest' = cc in
    let later = subst₂ (λ (x : Message) (r : List ℕ). MatchBool x.closes ((ns ≡ []) × (e ≡ closing (room - 1))) (Messages (room - 1) r ns e)) (sym first) (sym remaining) after' in
    let both = after_unique m.closes (room - 1) ms ns d e _ _ (λ h k. messages_unique (room - 1) rest ms ns d e h k) after later in
    (ap (λ x. x ∷ ms) first ∙ ap (λ l. n ∷ l) both.0, both.1)

-- ---- no stream is without an outcome, and none without a list

pub some_outcome : (bytes : List ℕ) → ((outcome : Outcome) → ¬ Gives bytes outcome) → ⊥
some_outcome bytes none = by_length (cases_lt (length bytes) head_limit)
  where
    no_next : (next : Next) → Begins bytes next → ⊥
    no_next next begins = none (finish next) (next, begins, refl)

    is_open : IsOpen bytes
    is_open = record { no_head = λ h rest head. no_next (message h rest) head; no_fault = λ n fails. no_next fault (n, fails) }

    by_length : (length bytes < head_limit) ⊎ (head_limit ≤ length bytes) → ⊥
    by_length (inl short) = no_next inside (short, is_open, λ lines. no_next ended (short, is_open, lines))
    by_length (inr large) = no_next too_large (large, is_open)

-- one message, and where it does not close the messages after it
one_message : (room : ℕ) (bytes : List ℕ) (m : Message) (rest : List ℕ) (b : Bool) → m.closes ≡ b → Gives bytes (whole m rest)
    → (((ms : List Message) (e : Ending) → ¬ Messages room rest ms e) → ⊥) → ((ms : List Message) (e : Ending) → ¬ Messages (suc room) bytes ms e) → ⊥
one_message room bytes m rest true closes_ gives more none =
    none (m ∷ []) (closing (suc room - 1)) (
      omega arith,
      (
        rest,
        gives,
        subst (λ b. MatchBool b ((◌≡◌ {A = List Message} [] []) × (closing (suc room - 1) ≡ closing (suc room - 1))) (Messages (suc room - 1) rest [] (closing (suc room - 1)))) (sym closes_) (refl, refl),
      ),
    )
one_message room bytes m rest false open_ gives more none =
    let left : suc room - 1 ≡ room = omega arith in
    more (λ ms e later. none (m ∷ ms) e (
      omega arith,
      (
        rest,
        gives,
        subst (λ b. MatchBool b ((ms ≡ []) × (e ≡ closing (suc room - 1))) (Messages (suc room - 1) rest ms e)) (sym open_) (subst (λ k. Messages k rest ms e) (sym left) later),
      ),
    ))

by_outcome : (room : ℕ) (bytes : List ℕ) → ((rest : List ℕ) → ((ms : List Message) (e : Ending) → ¬ Messages room rest ms e) → ⊥)
    → ((ms : List Message) (e : Ending) → ¬ Messages (suc room) bytes ms e) → (outcome : Outcome) → ¬ Gives bytes outcome
by_outcome room bytes more none (stops wire) gives = none [] (stopped wire) (inr (omega arith, (wire, gives, refl)))
by_outcome room bytes more none (whole m rest) gives = one_message room bytes m rest m.closes refl gives (more rest) none

pub some_messages : (room : ℕ) (bytes : List ℕ) → ((ms : List Message) (e : Ending) → ¬ Messages room bytes ms e) → ⊥
some_messages zero bytes none = none [] full (inl (refl, refl))
some_messages (suc room) bytes none = some_outcome bytes (by_outcome room bytes (some_messages room) none)

-- ---- a list of messages, one message at a time

-- one more message
pub AreFollowedBy-push : (bytes : List ℕ) (ms : List Message) (rest : List ℕ) (m : Message) (after : List ℕ) → AreFollowedBy bytes ms rest → Gives rest (whole m after)
    → AreFollowedBy bytes (ms ++ m ∷ []) after
AreFollowedBy-push bytes [] rest m after took gives = (after, subst (λ b. Gives b (whole m after)) took gives, refl)
AreFollowedBy-push bytes (n ∷ ms) rest m after (next, first, took) gives = (next, first, AreFollowedBy-push next ms rest m after took gives)

-- messages that do not close, and then the reason why there is no further one
pub Messages-stopped : (room : ℕ) (bytes : List ℕ) (ms : List Message) (rest : List ℕ) (wire : Wire) → AreFollowedBy bytes ms rest → NoneCloses ms → length ms < room
    → Gives rest (stops wire) → Messages room bytes ms (stopped wire)
Messages-stopped room bytes [] rest wire took none fits gives =
    inr (fits, (wire, subst (λ b. Gives b (stops wire)) took gives, refl))
Messages-stopped room bytes (m ∷ ms) rest wire (next, first, took) (open_, none) fits gives = (
  omega arith,
  (
    next,
    first,
    subst (λ b. MatchBool b ((ms ≡ []) × (stopped wire ≡ closing (room - 1))) (Messages (room - 1) next ms (stopped wire))) (sym open_)
        (Messages-stopped (room - 1) next ms rest wire took none (omega arith) gives),
  ),
)

-- as many messages as there is room for, none of which closes
pub Messages-full : (room : ℕ) (bytes : List ℕ) (ms : List Message) (rest : List ℕ) → AreFollowedBy bytes ms rest → NoneCloses ms → length ms ≡ room → Messages room bytes ms full
Messages-full room bytes [] rest took none fits = inl (sym fits, refl)
Messages-full room bytes (m ∷ ms) rest (next, first, took) (open_, none) fits = (
  omega arith,
  (
    next,
    first,
    subst (λ b. MatchBool b ((ms ≡ []) × (full ≡ closing (room - 1))) (Messages (room - 1) next ms full)) (sym open_)
        (Messages-full (room - 1) next ms rest took none (omega arith)),
  ),
)

-- messages that do not close, and then one that does
pub Messages-closed : (room : ℕ) (bytes : List ℕ) (ms : List Message) (rest : List ℕ) (m : Message) (after : List ℕ) → AreFollowedBy bytes ms rest → NoneCloses ms → length ms < room
    → Gives rest (whole m after) → m.closes ≡ true → Messages room bytes (ms ++ m ∷ []) (closing (room - (length ms + 1)))
Messages-closed room bytes [] rest m after took none fits gives closes_ = (
  fits,
  (
    after,
    subst (λ b. Gives b (whole m after)) took gives,
    subst (λ b. MatchBool b ((◌≡◌ {A = List Message} [] []) × (closing (room - 1) ≡ closing (room - 1))) (Messages (room - 1) after [] (closing (room - 1)))) (sym closes_) (refl, refl),
  ),
)
Messages-closed room bytes (n ∷ ms) rest m after (next, first, took) (open_, none) fits gives closes_ =
    let left : (room - 1) - (length ms + 1) ≡ room - (length (n ∷ ms) + 1) = omega arith in
    let tail = Messages-closed (room - 1) next ms rest m after took none (omega arith) gives closes_ in
    let ends = closing (room - (length (n ∷ ms) + 1)) in (
      omega arith,
      (
        next,
        first,
        subst (λ b. MatchBool b ((ms ++ m ∷ [] ≡ []) × (ends ≡ closing (room - 1))) (Messages (room - 1) next (ms ++ m ∷ []) ends)) (sym open_)
            (subst (λ k. Messages (room - 1) next (ms ++ m ∷ []) (closing k)) left tail),
      ),
    )

-- ---- the same of a stream that may not be known

pub NoneCloses-push : (ms : List Message) (m : Message) → NoneCloses ms → m.closes ≡ false → NoneCloses (ms ++ m ∷ [])
NoneCloses-push [] m none open_ = (open_, tt)
NoneCloses-push (n ∷ ms) m (first, none) open_ = (first, NoneCloses-push ms m none open_)

pub TakesKnown-none : (a : Option (List ℕ)) → TakesKnown a [] a
TakesKnown-none None = tt
TakesKnown-none (Some bytes) = refl

pub TakesKnown-push : (a b c : Option (List ℕ)) (ms : List Message) (m : Message) → TakesKnown a ms b → TakesOne b m c → TakesKnown a (ms ++ m ∷ []) c
TakesKnown-push None b c ms m took one = tt
TakesKnown-push (Some bytes) None c ms m took one = absurd took
TakesKnown-push (Some bytes) (Some rest) None ms m took one = absurd one
TakesKnown-push (Some bytes) (Some rest) (Some after) ms m took one = AreFollowedBy-push bytes ms rest m after took one

pub known_stopped : (room : ℕ) (a b : Option (List ℕ)) (ms : List Message) (wire : Wire) → TakesKnown a ms b → NoneCloses ms → length ms < room
    → is_of_stream wire ≡ true → Stops b wire → IfSome a (λ bytes. Messages room bytes ms (stopped wire))
known_stopped room None b ms wire took none fits of_stream stop = tt
known_stopped room (Some bytes) None ms wire took none fits of_stream stop = absurd took
known_stopped room (Some bytes) (Some rest) ms wire took none fits of_stream stop =
    Messages-stopped room bytes ms rest wire took none fits
    (subst (λ (b : Bool). MatchBool b (Gives rest (stops wire)) (Unit {0})) of_stream stop)

pub known_full : (room : ℕ) (a b : Option (List ℕ)) (ms : List Message) → TakesKnown a ms b → NoneCloses ms → length ms ≡ room
    → IfSome a (λ bytes. Messages room bytes ms full)
known_full room None b ms took none fits = tt
known_full room (Some bytes) None ms took none fits = absurd took
known_full room (Some bytes) (Some rest) ms took none fits = Messages-full room bytes ms rest took none fits

pub known_closed : (room : ℕ) (a b c : Option (List ℕ)) (ms : List Message) (m : Message) → TakesKnown a ms b → NoneCloses ms → length ms < room
    → TakesOne b m c → m.closes ≡ true → IfSome a (λ bytes. Messages room bytes (ms ++ m ∷ []) (closing (room - (length ms + 1))))
known_closed room None b c ms m took none fits one closes_ = tt
known_closed room (Some bytes) None c ms m took none fits one closes_ = absurd took
known_closed room (Some bytes) (Some rest) None ms m took none fits one closes_ = absurd one
known_closed room (Some bytes) (Some rest) (Some after) ms m took none fits one closes_ = Messages-closed room bytes ms rest m after took none fits one closes_

-- ---- how a list ends whose last message closes

pub closing_some : (room : ℕ) → 0 < room → closing room ≡ closed
closing_some room some = grind (arith, nat_tests)

pub closing_none : (room : ℕ) → room ≡ 0 → closing room ≡ full
closing_none room none = grind (arith, nat_tests)
