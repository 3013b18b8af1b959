-- That each file opens to some bodies, or is damaged at some place.
use Rattle.std.proofs.Common.{◌≡◌, ℕ, zero, suc, ◌+◌, ◌<◌, ◌≤◌, ◌^◌, ◌⊎◌, inl, inr, Bool, true, false, Decides, nat_eq, List, [], ◌∷◌, ◌++◌, length, take, drop, refl, sym, ◌∙◌, ap, arith, append_assoc, length-append, length-drop, take-append-drop}
use Rattle.std.proofs.lemmas.List.{take_at, drop-drop, append-nil, length-take-le, nil_from_length}
use Rattle.std.proofs.lemmas.Nat.{from_be_bytes-to_be_bytes_4}
use Rattle.std.proofs.lemmas.Bool.{cases_eq, cases_lt}
use Rattle.std.proofs.lemmas.Bool.Decides.{not_from_Decides}
use Rattle.std.proofs.lemmas.Slice.Eq.{bytes_eq-Decides}
use Rattle.std.specs.Cmp.Lexicographic.{pointwise}
use Rattle.std.specs.Int.{w32, to_be_bytes, from_be_bytes}
use Rattle.disk_journal.specs.Records.{sized, records, AreSized, Opens, IsDamaged}
use Rattle.disk_journal.proofs.RecordLemmas.{opened, sized-push, length-sized}

-- what a test decides
decided : {P : Type 0} (r : Bool) → Decides r P → P ⊎ (P → ⊥)
decided true d = inl (d.0 refl)
decided false d = inr (not_from_Decides false d refl)

same_or_not : (x y : List ℕ) → (x ≡ y) ⊎ (x ≡ y → ⊥)
same_or_not x y = decided (pointwise nat_eq x y) (bytes_eq-Decides x y)

-- a whole record begins a text (behind its gate), and something stands behind it
record Holds (text : List ℕ) : Type 0 where
  pub body : List ℕ
  pub more : List ℕ
  pub small : length body < 2 ^ 32
  pub is : text ≡ sized body ++ more
  pub some : 0 < length more

-- none does
abbrev Lacks : List ℕ → Type 0
Lacks text = (body more : List ℕ) → length body < 2 ^ 32 → text ≡ sized body ++ more → more ≡ []

-- the length that the first four bytes tell
abbrev told : List ℕ → ℕ
told text = from_be_bytes w32 (take 4 text)

told_is : (text body more : List ℕ) → length body < 2 ^ 32 → text ≡ sized body ++ more → (take 4 text ≡ to_be_bytes w32 (length body)) × (told text ≡ length body)
told_is text body more small is =
    let front : take 4 text ≡ to_be_bytes w32 (length body) =
    ap (λ (l : List ℕ). take 4 l) (is ∙ append_assoc (to_be_bytes w32 (length body)) body more) ∙ take_at (to_be_bytes w32 (length body)) (body ++ more) 4 refl in
    (front, ap (from_be_bytes w32) front ∙ from_be_bytes-to_be_bytes_4 (length body) small)

holds : (text : List ℕ) → to_be_bytes w32 (told text) ≡ take 4 text → told text < 2 ^ 32 → 4 + told text < length text → Holds text
holds text same small room =
    let n = told text in
    let body = take n (drop 4 text) in
    let more = drop (4 + n) text in
    let long : length body ≡ n = length-take-le n (drop 4 text) (omega (arith, length-drop 4 text)) in
    let behind : drop 4 text ≡ body ++ more = sym (take-append-drop n (drop 4 text)) ∙ ap (λ (l : List ℕ). body ++ l) (drop-drop n 4 text ∙ ap (λ m. drop m text) (omega arith)) in
    let front : take 4 text ≡ to_be_bytes w32 (length body) = sym same ∙ ap (to_be_bytes w32) (sym long) in
    record {
      body = body;
      more = more;
      small = omega (arith, long);
      is = sym (take-append-drop 4 text) ∙ ap (λ (l : List ℕ). l ++ drop 4 text) front ∙ ap (λ (l : List ℕ). to_be_bytes w32 (length body) ++ l) behind ∙ sym (append_assoc (to_be_bytes w32 (length body)) body more);
      some = omega (arith, length-drop (4 + n) text);
    }

holds_or_lacks : (text : List ℕ) → Holds text ⊎ Lacks text
holds_or_lacks text =
    elim (same_or_not (to_be_bytes w32 (told text)) (take 4 text)) [
      | inr other ↦ inr (λ body more small is. let t = told_is text body more small is in absurd (other (ap (to_be_bytes w32) t.1 ∙ sym t.0)))
      | inl same ↦ (elim (cases_lt (told text) (2 ^ 32)) [
        | inr great ↦ inr (λ body more small is. let t = told_is text body more small is in absurd (omega (arith, t.1)))
        | inl little ↦ (elim (cases_lt (4 + told text) (length text)) [
          | inl room ↦ inl (holds text same little room)
          | inr short ↦ inr (λ body more small is. let t = told_is text body more small is in
              nil_from_length more (omega (arith, t.1, ap length is, length-append (sized body) more, length-sized body)))
        ])
      ])
    ]

abbrev OpensOrNot : List ℕ → List ℕ → Type 0
OpensOrNot head file = ((bodies : List (List ℕ)) × Opens head file bodies) ⊎ ((place : ℕ) × IsDamaged head file place)

-- at an open gate without a whole record
ended : (head file : List ℕ) (bodies : List (List ℕ)) (rest : List ℕ) → AreSized bodies → Lacks rest → file ≡ head ++ records bodies ++ 165 ∷ rest → OpensOrNot head file
ended head file [] rest sizes lacks whole =
    elim (cases_lt (length rest) 5) [
      | inl few ↦ inl ([], record { rest = 165 ∷ rest; whole = whole; sizes = sizes; ends = inr (refl, few) })
      | inr long ↦ inr (length head + length (records []), record { bodies = []; rest = rest; whole = whole; sizes = sizes; at = refl; broken = lacks; some = λ _. long })
    ]
ended head file (body ∷ bodies) rest sizes lacks whole = inr (
  length head + length (records (body ∷ bodies)),
  record { bodies = body ∷ bodies; rest = rest; whole = whole; sizes = sizes; at = refl; broken = lacks; some = λ none. cc },
)

-- behind these bodies, with at most so many bytes to go
walk : (head file : List ℕ) (n : ℕ) (bodies : List (List ℕ)) (rest : List ℕ) → length rest ≤ n → AreSized bodies → (rest ≡ [] → bodies ≡ []) → file ≡ head ++ records bodies ++ rest → OpensOrNot head file
walk head file n bodies [] few sizes some whole = inl (bodies, record { rest = []; whole = whole; sizes = sizes; ends = some refl })
walk head file zero bodies (gate ∷ rest) few sizes some whole = absurd (omega arith)
walk head file (suc n) bodies (gate ∷ rest) few sizes some whole =
    elim (cases_eq gate 165) [
      | inr shut ↦ inl (bodies, record { rest = gate ∷ rest; whole = whole; sizes = sizes; ends = inl shut })
      | inl open_gate ↦ let at_gate : file ≡ head ++ records bodies ++ 165 ∷ rest = whole ∙ ap (λ g. head ++ records bodies ++ g ∷ rest) open_gate in
          (elim (holds_or_lacks rest) [
            | inr lacks ↦ ended head file bodies rest sizes lacks at_gate
            | inl h ↦ walk head file n (bodies ++ h.body ∷ []) h.more
                (omega (arith, ap length h.is, length-append (sized h.body) h.more, length-sized h.body))
                (sized-push bodies h.body sizes h.small)
                (λ none. let some_ = h.some in absurd (omega (arith, ap length none)))
                (at_gate ∙ ap (λ (l : List ℕ). head ++ records bodies ++ 165 ∷ l) h.is ∙ opened head bodies h.body h.more)
          ])
    ]

-- each file with this text before its journal
pub opens_or_damaged : (head rest : List ℕ) → OpensOrNot head (head ++ rest)
opens_or_damaged head rest = walk head (head ++ rest) (length rest) [] rest (omega arith) tt (λ none. refl) (ap (λ (l : List ℕ). l ++ rest) (sym (append-nil head)))
