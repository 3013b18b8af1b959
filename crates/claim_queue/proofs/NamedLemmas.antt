-- Where queues stand, by the places that are kept of their names.
use Rattle.std.proofs.Common.{◌≡◌, ◌≢◌, ℕ, zero, suc, ◌<◌, ◌⊎◌, inl, inr, Bool, true, false, cond, max, List, [], ◌∷◌, ◌++◌, length, map, Some, None, IfSome, IfNone, Result, Ok, Err, OnOk, OnErr, refl, sym, ap, ◌∙◌, slice_get, slice_set, slice_index_or, subst, arith, length-append}
use Rattle.std.specs.BTreeMap.{get_by_text}
use Rattle.std.specs.Option.{option_map_or}
use Rattle.std.specs.Str.{bytes_eq}
use Rattle.std.proofs.lemmas.List.{length-map}
use Rattle.claim_queue.specs.declared.queues.Queue.{Queue}
use Rattle.claim_queue.specs.Waits.{raised}
use Rattle.claim_queue.specs.Places.{name_at}
use Rattle.claim_queue.specs.WaitHeaps.{AreNamedApart}
use Rattle.claim_queue.specs.Named.{PlaceMap, HavePlaces}
use Rattle.claim_queue.proofs.HeapLemmas.{same?}
use Rattle.claim_queue.proofs.PlaceLemmas.{name-front, name-raised}
use Rattle.claim_queue.proofs.QueueLemmas.{same-name, name-same, other-name, tail-apart}

-- ---- the place of a name

-- the queue at a place has the name
abbrev stands : List Queue → List ℕ → ℕ → Bool
stands queues name place = option_map_or (λ (queue : Queue). bytes_eq queue.name name) (slice_get queues place) false

standing : (queues : List Queue) (name : List ℕ) (place : ℕ) → stands queues name place ≡ true → (place < length queues) × (name_at place queues ≡ name)
standing [] name place is = absurd (cc)
standing (queue ∷ queues) name zero is = (omega arith, same-name queue.name name is)
standing (queue ∷ queues) name (suc place) is = let more = standing queues name place is in (let lt = more.0 in omega arith, more.1)

other-stands : (queues : List Queue) (name : List ℕ) (place : ℕ) → stands queues name place ≡ false → place < length queues → bytes_eq (name_at place queues) name ≡ false
other-stands [] name place is within = absurd (omega arith)
other-stands (queue ∷ queues) name zero is within = is
other-stands (queue ∷ queues) name (suc place) is within = other-stands queues name place is (omega arith)

-- a place that was checked is that of the queue
pub checked-place : (queues : List Queue) (name : List ℕ) (place : ℕ) → IfSome (cond (stands queues name place) (Some place) None) (λ place. (place < length queues) × (name_at place queues ≡ name))
checked-place queues name place = by (stands queues name place) refl where
  by : (t : Bool) → stands queues name place ≡ t → IfSome (cond t (Some place) None) (λ place. (place < length queues) × (name_at place queues ≡ name))
  by true is = standing queues name place is
  by false is = tt

no-other : (queues : List Queue) (names : PlaceMap) (name : List ℕ) (place k : ℕ) → HavePlaces queues names → get_by_text names name ≡ Some place → stands queues name place ≡ false → k < length queues → name_at k queues ≡ name → ⊥
no-other queues names name place k have kept is lt same =
    let both : Some k ≡ Some place = sym (have.at k lt) ∙ (ap (get_by_text names) same ∙ kept) in
    let here : k ≡ place = cc in
    let no_ : bytes_eq (name_at k queues) name ≡ false = other-stands queues name k (ap (stands queues name) here ∙ is) lt in
    let yes_ : bytes_eq (name_at k queues) name ≡ true = name-same (name_at k queues) name same in
    let clash : true ≡ false = sym yes_ ∙ no_ in
    cc

-- where another queue stands at the place that is kept, no queue has the name
pub checked-none : (queues : List Queue) (names : PlaceMap) (name : List ℕ) (place : ℕ) → HavePlaces queues names → get_by_text names name ≡ Some place
    → IfNone (cond (stands queues name place) (Some place) None) ((k : ℕ) → k < length queues → bytes_eq (name_at k queues) name ≡ false)
checked-none queues names name place have kept = by (stands queues name place) refl where
  by : (t : Bool) → stands queues name place ≡ t → IfNone (cond t (Some place) None) ((k : ℕ) → k < length queues → bytes_eq (name_at k queues) name ≡ false)
  by true is = tt
  by false is = λ k lt. other-name (name_at k queues) name (λ same. no-other queues names name place k have kept is lt same)

-- no queue has a name of which no place is kept
pub unkept-none : (queues : List Queue) (names : PlaceMap) (name : List ℕ) → HavePlaces queues names → get_by_text names name ≡ None
    → (place : ℕ) → place < length queues → bytes_eq (name_at place queues) name ≡ false
unkept-none queues names name have none place within =
    other-name (name_at place queues) name (λ same. let both : Some place ≡ None = sym (have.at place within) ∙ (ap (get_by_text names) same ∙ none) in cc)

-- ---- a place that is noted

flipped : (xs ys : List ℕ) → bytes_eq xs ys ≡ false → bytes_eq ys xs ≡ false
flipped xs ys ne = other-name ys xs (λ same. let yes_ = name-same xs ys (sym same) in let both : true ≡ false = sym yes_ ∙ ne in cc)

-- where the place of a name that no queue has is noted, or memory was wanting, the queues' places stay
pub noted-keeps : {A E : Type 0} (old new : PlaceMap) (name : List ℕ) (place : ℕ) (result : Result A E) → OnOk result ((other : List ℕ) → get_by_text new other ≡ cond (bytes_eq name other) (Some place) (get_by_text old other))
    → OnErr result ((other : List ℕ) → get_by_text new other ≡ get_by_text old other) → (queues : List Queue) → ((k : ℕ) → k < length queues → bytes_eq (name_at k queues) name ≡ false) → HavePlaces queues old → HavePlaces queues new
noted-keeps old new name place (Ok a) noted same queues none have = record {
  at =
      λ k lt. noted (name_at k queues)
      ∙ (ap (λ b. cond b (Some place) (get_by_text old (name_at k queues))) (flipped (name_at k queues) name (none k lt)) ∙ have.at k lt);
}
noted-keeps old new name place (Err e) noted same queues none have = record { at = λ k lt. same (name_at k queues) ∙ have.at k lt }

pub noted-place : {A E : Type 0} (old new : PlaceMap) (name : List ℕ) (place : ℕ) (result : Result A E) → OnOk result ((other : List ℕ) → get_by_text new other ≡ cond (bytes_eq name other) (Some place) (get_by_text old other)) → OnOk result (get_by_text new name ≡ Some place)
noted-place old new name place (Ok a) noted = noted name ∙ ap (λ b. cond b (Some place) (get_by_text old name)) (name-same name name refl)
noted-place old new name place (Err e) noted = tt

-- ---- queues that change

last-name : (queues : List Queue) (made : Queue) → name_at (length queues) (queues ++ made ∷ []) ≡ made.name
last-name [] made = refl
last-name (queue ∷ queues) made = last-name queues made

-- a queue behind the others, whose place is noted
pub places-behind : (names : PlaceMap) (queues later : List Queue) (made : Queue) → HavePlaces queues names → get_by_text names made.name ≡ Some (length queues) → later ≡ queues ++ made ∷ [] → HavePlaces later names
places-behind names queues later made have noted is =
    let new : HavePlaces (queues ++ made ∷ []) names = record { at = λ place lt. by place lt (same? place (length queues)) } in
    subst (λ (k : List Queue). HavePlaces k names) (sym is) new
  where
    by : (place : ℕ) → place < length (queues ++ made ∷ []) → (place ≡ length queues) ⊎ (place ≢ length queues) → get_by_text names (name_at place (queues ++ made ∷ [])) ≡ Some place
    by place lt (inl last) =
        ap (λ n. get_by_text names (name_at n (queues ++ made ∷ []))) last ∙ (ap (get_by_text names) (last-name queues made) ∙ (noted ∙ ap Some (sym last)))
    by place lt (inr ne) =
        let within : place < length queues = omega (arith, length-append queues (made ∷ [])) in
        ap (get_by_text names) (name-front queues (made ∷ []) place within) ∙ have.at place within

-- queues with room in one of them
pub places-raised : (names : PlaceMap) (queues later : List Queue) (name : List ℕ) (room : ℕ) → HavePlaces queues names → later ≡ map (raised name room) queues → HavePlaces later names
places-raised names queues later name room have is =
    let new : HavePlaces (map (raised name room) queues) names =
    record { at = λ place lt. ap (get_by_text names) (name-raised name room queues place) ∙ have.at place (omega (arith, length-map queues (raised name room))) } in
    subst (λ (k : List Queue). HavePlaces k names) (sym is) new

-- the same queues
pub places-same : (names : PlaceMap) (queues later : List Queue) → HavePlaces queues names → later ≡ queues → HavePlaces later names
places-same names queues later have is = subst (λ (k : List Queue). HavePlaces k names) (sym is) have

-- queues of other names stay when room is made
others-stay : (name : List ℕ) (room : ℕ) (queues : List Queue) → ((k : ℕ) → k < length queues → bytes_eq (name_at k queues) name ≡ false) → map (raised name room) queues ≡ queues
others-stay name room [] ne = refl
others-stay name room (queue ∷ queues) ne =
    let first : bytes_eq queue.name name ≡ false = ne 0 (omega arith) in
    let head : raised name room queue ≡ queue = rw first refl in
    ap (λ (q : Queue). q ∷ map (raised name room) queues) head ∙ ap (λ (k : List Queue). queue ∷ k) (others-stay name room queues (λ k lt. ne (suc k) (omega arith)))

-- room is made in the queue at a place alone, since names are distinct
pub raised-at : (queues : List Queue) (place : ℕ) (held : Queue) (room : ℕ) → place < length queues → AreNamedApart queues → held ≡ slice_index_or queues place held
    → slice_set queues place (record { name = held.name; room = max held.room room }) ≡ map (raised (name_at place queues) room) queues
raised-at [] place held room within apart is = absurd (omega arith)
raised-at (queue ∷ queues) zero held room within apart is =
    let made : Queue → Queue = λ q. record { name = q.name; room = max q.room room } in
    let here : bytes_eq queue.name queue.name ≡ true = name-same queue.name queue.name refl in
    let others : map (raised queue.name room) queues ≡ queues =
    others-stay queue.name room queues (λ k lt. other-name (name_at k queues) queue.name (λ same. let e : suc k ≡ 0 = apart (suc k) 0 (omega arith) within same in omega arith)) in
    let head : raised queue.name room queue ≡ made queue = rw here refl in
    ap (λ (q : Queue). made q ∷ queues) is ∙ (ap (λ (q : Queue). q ∷ queues) (sym head) ∙ ap (λ (k : List Queue). raised queue.name room queue ∷ k) (sym others))
raised-at (queue ∷ queues) (suc place) held room within apart is =
    let first : bytes_eq queue.name (name_at place queues) ≡ false =
    other-name queue.name (name_at place queues) (λ same. let e : 0 ≡ suc place = apart 0 (suc place) (omega arith) within same in omega arith) in
    let head : raised (name_at place queues) room queue ≡ queue = rw first refl in
    ap (λ (k : List Queue). queue ∷ k) (raised-at queues place held room (omega arith) (tail-apart queue queues apart) is)
    ∙ ap (λ (q : Queue). q ∷ map (raised (name_at place queues) room) queues) (sym head)
