-- That a file opens to one list of bodies, or is damaged at one place.
use Rattle.std.proofs.Common.{◌≡◌, ℕ, suc, ◌+◌, ◌<◌, ◌≤◌, ◌^◌, inl, inr, List, [], ◌∷◌, ◌++◌, length, take, drop, Option, Some, None, refl, sym, ◌∙◌, ap, subst, arith, append_assoc, length-append}
use Rattle.std.proofs.lemmas.List.{take_at, drop_at, append_cancel_left, append-nil, nil_from_length}
use Rattle.std.proofs.lemmas.Nat.{from_be_bytes-to_be_bytes_4}
use Rattle.std.proofs.lemmas.Bool.{cases_eq}
use Rattle.std.specs.Int.{w32, to_be_bytes, from_be_bytes}
use Rattle.disk_journal.specs.Records.{sized, records, AreSized, EndsBefore, Opens, IsDamaged, IsDamagedBehind}
use Rattle.disk_journal.specs.Images.{IsImage, IsWithin}
use Rattle.disk_journal.proofs.RecordLemmas.{length-sized, sized-front}

fronts_one : (a b x y : List ℕ) → length a ≡ length b → a ++ x ≡ b ++ y → (a ≡ b) × (x ≡ y)
fronts_one a b x y long same = (
  sym (take_at a x (length a) refl) ∙ ap (λ (l : List ℕ). take (length a) l) same ∙ take_at b y (length a) (sym long),
  sym (drop_at a x (length a) refl) ∙ ap (λ (l : List ℕ). drop (length a) l) same ∙ drop_at b y (length a) (sym long),
)

sized_one : (a b x y : List ℕ) → length a < 2 ^ 32 → length b < 2 ^ 32 → sized a ++ x ≡ sized b ++ y → (a ≡ b) × (x ≡ y)
sized_one a b x y small_a small_b same =
    let lengths = fronts_one (to_be_bytes w32 (length a)) (to_be_bytes w32 (length b)) (a ++ x) (b ++ y) refl (sym (append_assoc (to_be_bytes w32 (length a)) a x) ∙ same ∙ append_assoc (to_be_bytes w32 (length b)) b y) in
    let long : length a ≡ length b = sym (from_be_bytes-to_be_bytes_4 (length a) small_a) ∙ ap (from_be_bytes w32) lengths.0 ∙ from_be_bytes-to_be_bytes_4 (length b) small_b in
    fronts_one a b x y long lengths.1

-- no whole record with a byte behind it begins here
abbrev Stands : List ℕ → Type 0
Stands rest = (body more : List ℕ) → length body < 2 ^ 32 → rest ≡ 165 ∷ (sized body ++ more) → more ≡ []

tail_of : (a b : ℕ) (x y : List ℕ) → a ∷ x ≡ b ∷ y → x ≡ y
tail_of a b x y same = cc

nil_front : (a b : List ℕ) → a ++ b ≡ [] → b ≡ []
nil_front [] b same = same
nil_front (x ∷ a) b same = cc

one_side : (body : List ℕ) (bodies : List (List ℕ)) (rest other : List ℕ) → length body < 2 ^ 32 → Stands other → (rest ≡ [] → body ∷ bodies ≡ []) → other ≡ records (body ∷ bodies) ++ rest → ⊥
one_side body bodies rest other small stands some same =
    let none : records bodies ++ rest ≡ [] = stands body (records bodies ++ rest) small (same ∙ ap (λ (l : List ℕ). 165 ∷ l) (append_assoc (sized body) (records bodies) rest)) in
    let empty : body ∷ bodies ≡ [] = some (nil_front (records bodies) rest none) in cc

-- the same bytes have the same records before what stands
pub records_one : (ps qs : List (List ℕ)) (x y : List ℕ) → AreSized ps → AreSized qs → Stands x → Stands y → (x ≡ [] → ps ≡ []) → (y ≡ [] → qs ≡ []) → records ps ++ x ≡ records qs ++ y → (ps ≡ qs) × (x ≡ y)
records_one [] [] x y sa sb ex ey nx ny same = (refl, same)
records_one [] (b ∷ qs) x y sa sb ex ey nx ny same = absurd (one_side b qs y x sb.0 ex ny same)
records_one (a ∷ ps) [] x y sa sb ex ey nx ny same = absurd (one_side a ps x y sa.0 ey nx (sym same))
records_one (a ∷ ps) (b ∷ qs) x y sa sb ex ey nx ny same =
    let inner : sized a ++ (records ps ++ x) ≡ sized b ++ (records qs ++ y) =
    sym (append_assoc (sized a) (records ps) x) ∙ tail_of 165 165 _ _ same ∙ append_assoc (sized b) (records qs) y in
    let first = sized_one a b (records ps ++ x) (records qs ++ y) sa.0 sb.0 inner in
    let others = records_one ps qs x y sa.1 sb.1 ex ey (λ none. absurd (no_nil a ps (nx none))) (λ none. absurd (no_nil b qs (ny none))) first.1 in
    (ap (λ (l : List ℕ). l ∷ ps) first.0 ∙ ap (λ (l : List (List ℕ)). b ∷ l) others.0, others.1)
  where
    no_nil : (c : List ℕ) (cs : List (List ℕ)) → c ∷ cs ≡ [] → ⊥
    no_nil c cs same = cc

ends_stand : (bodies : List (List ℕ)) (rest : List ℕ) → EndsBefore bodies rest → Stands rest
ends_stand bodies [] ends body more small same = cc
ends_stand bodies (gate ∷ rest) (inl shut) body more small same = absurd (shut cc)
ends_stand bodies (gate ∷ rest) (inr few) body more small same =
    nil_from_length more (omega (arith, few.1, ap length same, length-append (sized body) more, length-sized body))

ends_nil : (bodies : List (List ℕ)) (rest : List ℕ) → EndsBefore bodies rest → rest ≡ [] → bodies ≡ []
ends_nil bodies [] ends none = ends
ends_nil bodies (gate ∷ rest) ends none = cc

behind_head : (head a b x y : List ℕ) → head ++ a ++ x ≡ head ++ b ++ y → a ++ x ≡ b ++ y
behind_head head a b x y same = append_cancel_left head (a ++ x) (b ++ y) (sym (append_assoc head a x) ∙ same ∙ append_assoc head b y)

pub opens_one : (head file : List ℕ) (ps qs : List (List ℕ)) → Opens head file ps → Opens head file qs → ps ≡ qs
opens_one head file ps qs a b =
    (records_one ps qs a.rest b.rest a.sizes b.sizes (ends_stand ps a.rest a.ends) (ends_stand qs b.rest b.ends) (ends_nil ps a.rest a.ends) (ends_nil qs b.rest b.ends)
    (behind_head head (records ps) (records qs) a.rest b.rest (sym a.whole ∙ b.whole))).0

broken_stands : (rest : List ℕ) → ((body more : List ℕ) → length body < 2 ^ 32 → rest ≡ sized body ++ more → more ≡ []) → Stands (165 ∷ rest)
broken_stands rest broken body more small same = broken body more small (tail_of 165 165 _ _ same)

pub opens_whole : (head file : List ℕ) (bodies : List (List ℕ)) (place : ℕ) → Opens head file bodies → IsDamaged head file place → ⊥
opens_whole head file bodies place a d =
    let same = records_one bodies d.bodies a.rest (165 ∷ d.rest) a.sizes d.sizes (ends_stand bodies a.rest a.ends) (broken_stands d.rest d.broken) (ends_nil bodies a.rest a.ends) (λ none. cc)
    (behind_head head (records bodies) (records d.bodies) a.rest (165 ∷ d.rest) (sym a.whole ∙ d.whole)) in
    clash (subst (EndsBefore bodies) same.1 a.ends) same.0
  where
    clash : EndsBefore bodies (165 ∷ d.rest) → bodies ≡ d.bodies → ⊥
    clash (inl shut) same = shut refl
    clash (inr few) same = let five = d.some (sym same ∙ few.0) in omega (arith, few.1)

pub damaged_bodies : (head file : List ℕ) (p q : ℕ) (a : IsDamaged head file p) (b : IsDamaged head file q) → a.bodies ≡ b.bodies
damaged_bodies head file p q a b =
    (records_one a.bodies b.bodies (165 ∷ a.rest) (165 ∷ b.rest) a.sizes b.sizes (broken_stands a.rest a.broken) (broken_stands b.rest b.broken) (λ none. cc) (λ none. cc)
    (behind_head head (records a.bodies) (records b.bodies) (165 ∷ a.rest) (165 ∷ b.rest) (sym a.whole ∙ b.whole))).0

pub damaged_one : (head file : List ℕ) (p q : ℕ) → IsDamaged head file p → IsDamaged head file q → p ≡ q
damaged_one head file p q a b = a.at ∙ ap (λ (l : List (List ℕ)). length head + length (records l)) (damaged_bodies head file p q a b) ∙ sym b.at

pub behind_one : (head file : List ℕ) (bodies others : List (List ℕ)) (p q : ℕ) → IsDamagedBehind head file bodies p → IsDamagedBehind head file others q → bodies ≡ others
behind_one head file bodies others p q a b = a.1 ∙ damaged_bodies head file p q a.0 b.0 ∙ sym b.1

few_end : (rest : List ℕ) → length rest ≤ 1 → EndsBefore [] rest
few_end [] few = refl
few_end (gate ∷ rest) few = elim (cases_eq gate 165) [ inl open_gate ↦ inr (refl, omega arith) | inr shut ↦ inl shut ]

-- what a stop may leave of a journal opens to its bodies
pub image_opens : (head : List ℕ) (bodies : List (List ℕ)) (pending : Option (List ℕ)) (file : List ℕ) → IsImage head bodies pending file → Opens head file bodies
image_opens head bodies (Some body) file is = record { rest = is.1.0 ∷ (sized body ++ 0 ∷ is.1.1); whole = is.1.3; sizes = sized-front bodies body is.0; ends = inl is.1.2 }
image_opens head bodies None file is = elim is.1 [
  | inl whole ↦ record { rest = 0 ∷ whole.0; whole = whole.1; sizes = is.0; ends = inl (λ zero. omega arith) }
  | inr few ↦ subst (Opens head file) (sym few.0) record { rest = few.1.0; whole = few.1.2 ∙ ap (λ (l : List ℕ). l ++ few.1.0) (sym (append-nil head)); sizes = tt; ends = few_end few.1.0 few.1.1 }
]

-- a file within appends is an image of a front of them
pub within_image : (head file : List ℕ) (bodies more : List (List ℕ)) → IsWithin head bodies more file → (count : ℕ) × (pending : Option (List ℕ)) × IsImage head (bodies ++ take count more) pending file
within_image head file bodies [] is = (0, None, subst (λ (l : List (List ℕ)). IsImage head l None file) (sym (append-nil bodies)) is)
within_image head file bodies (body ∷ more) (inl is) = (0, None, subst (λ (l : List (List ℕ)). IsImage head l None file) (sym (append-nil bodies)) is)
within_image head file bodies (body ∷ more) (inr (inl is)) = (0, Some body, subst (λ (l : List (List ℕ)). IsImage head l (Some body) file) (sym (append-nil bodies)) is)
within_image head file bodies (body ∷ more) (inr (inr is)) =
    let others = within_image head file (bodies ++ body ∷ []) more is in
    (suc others.0, others.1, subst (λ (l : List (List ℕ)). IsImage head l others.1 file) (append_assoc bodies (body ∷ []) (take others.0 more)) others.2)

pub empty_image : (head : List ℕ) → IsImage head [] None head
empty_image head = (tt, inr (refl, ([], omega arith, sym (append-nil head))))
