-- Attributes: a text begins with one at most, and is one list of them at most.
use Rattle.std.proofs.Common.{◌≡◌, ◌≢◌, ℕ, ◌<◌, ◌≤◌, List, [], ◌∷◌, ◌++◌, length, get_or, refl, sym, ap, ap₂, ◌∙◌, subst, arith, length-append}
use Rattle.std.specs.Prelude.{IsTrue, All}
use Rattle.std.proofs.Math.Seq.{get_or-append_seam}
use Rattle.std.proofs.lemmas.List.Elements.{All-tail, All-head}
use Rattle.hawk_auth.specs.Header.{AttributeData, BeginsWith, GoesOn, IsAttributes, IsValueByte, is_name}
use Rattle.hawk_auth.specs.Mac.{skip_spaces}

-- where a byte stands between two parts, and not in the first, the parts are determined
pub cut_once : (c : ℕ) (xs ys vs ws : List ℕ) → All (λ b. b ≢ c) xs → All (λ b. b ≢ c) vs → xs ++ c ∷ ys ≡ vs ++ c ∷ ws → (xs ≡ vs) × (ys ≡ ws)
cut_once c [] ys [] ws h k e = (refl, cc)
cut_once c [] ys (v ∷ vs) ws h k e = absurd (All-head (λ b. b ≢ c) v vs k cc)
cut_once c (x ∷ xs) ys [] ws h k e = absurd (All-head (λ b. b ≢ c) x xs h cc)
cut_once c (x ∷ xs) ys (v ∷ vs) ws h k e =
    let head : x ≡ v = cc in
    let tail : xs ++ c ∷ ys ≡ vs ++ c ∷ ws = cc in
    let (p, q) = cut_once c xs ys vs ws (All-tail (λ b. b ≢ c) x xs h) (All-tail (λ b. b ≢ c) v vs k) tail in
    (ap₂ (λ (y : ℕ) (zs : List ℕ). y ∷ zs) head p, q)

-- a byte that stands between two parts is there
pub has_byte : (c : ℕ) (xs ys text : List ℕ) → text ≡ xs ++ c ∷ ys → ((k : ℕ) → k < length text → get_or text k 0 ≢ c) → ⊥
has_byte c xs ys text e none =
    none (length xs) (omega (arith, ap length e, length-append xs (c ∷ ys))) (ap (λ (t : List ℕ). get_or t (length xs) 0) e ∙ get_or-append_seam xs c ys 0)

same_attribute : (a b : AttributeData) → a.name ≡ b.name → a.value ≡ b.value → a ≡ b
same_attribute a b p q = ap₂ {B = List ℕ} (λ (n : List ℕ) (v : List ℕ). let r : AttributeData = record { name = n; value = v } in r) p q

pub begins_once : (text : List ℕ) (a b : AttributeData) (after other : List ℕ) → BeginsWith text a after → BeginsWith text b other → (a ≡ b) × (after ≡ other)
begins_once text a b after other h k =
    let (names, quoted) = cut_once 61 a.name (34 ∷ (a.value ++ 34 ∷ after)) b.name (34 ∷ (b.value ++ 34 ∷ other)) h.no_equals k.no_equals (sym h.spelled ∙ k.spelled) in
    let same : a.value ++ 34 ∷ after ≡ b.value ++ 34 ∷ other = cc in
    let (values, rest) = cut_once 34 a.value after b.value other h.no_quote k.no_quote same in
    (same_attribute a b names values, rest)

pub goes_on_once : (ms ns : List AttributeData) (rest : List ℕ) → GoesOn ms rest → GoesOn ns rest → ms ≡ ns
goes_on_once [] [] rest h k = refl
goes_on_once [] (b ∷ ns) rest h (t, other, comma, begins, more) = let e : [] ≡ 44 ∷ t = sym h ∙ comma in absurd cc
goes_on_once (a ∷ ms) [] rest (t, after, comma, begins, more) k = let e : [] ≡ 44 ∷ t = sym k ∙ comma in absurd cc
goes_on_once (a ∷ ms) (b ∷ ns) rest (t, after, comma, begins, more) (u, other, comma', begins', more') =
    let both : 44 ∷ t ≡ 44 ∷ u = sym comma ∙ comma' in
    let texts : t ≡ u = cc in
    let (same, left) = begins_once (skip_spaces t) a b after other begins (subst (λ (x : List ℕ). BeginsWith (skip_spaces x) b other) (sym texts) begins') in
    let others = goes_on_once ms ns (skip_spaces after) more (subst (λ (x : List ℕ). GoesOn ns (skip_spaces x)) (sym left) more') in
    ap₂ (λ (x : AttributeData) (xs : List AttributeData). x ∷ xs) same others

pub attributes_once : (ms ns : List AttributeData) (text : List ℕ) → IsAttributes ms text → IsAttributes ns text → ms ≡ ns
attributes_once [] ns text h k = absurd h
attributes_once (a ∷ ms) [] text h k = absurd k
attributes_once (a ∷ ms) (b ∷ ns) text (after, begins, more) (other, begins', more') =
    let (same, left) = begins_once text a b after other begins begins' in
    let others = goes_on_once ms ns (skip_spaces after) more (subst (λ (x : List ℕ). GoesOn ns (skip_spaces x)) (sym left) more') in
    ap₂ (λ (x : AttributeData) (xs : List AttributeData). x ∷ xs) same others

-- no attribute at the front: no list of them
pub off_at_front : (text : List ℕ) → ((a : AttributeData) (after : List ℕ) → ¬ BeginsWith text a after) → (all : List AttributeData) → ¬ IsAttributes all text
off_at_front text none [] h = h
off_at_front text none (a ∷ ms) (after, begins, more) = none a after begins

module _ (text : List ℕ) (a : AttributeData) (after : List ℕ) (h : BeginsWith text a after) where
  -- the end after it: the list of it alone
  pub alone : skip_spaces after ≡ [] → (all : List AttributeData) → IsAttributes all text → all ≡ a ∷ []
  alone end all k = attributes_once all (a ∷ []) text k (after, h, end)

  -- neither the end nor a comma after it: no list
  pub off_after : skip_spaces after ≢ [] → ((more : List ℕ) → skip_spaces after ≢ 44 ∷ more) → (all : List AttributeData) → ¬ IsAttributes all text
  off_after full none [] k = k
  off_after full none (b ∷ []) (other, begins, more) =
      let (_, left) = begins_once text a b after other h begins in full (ap skip_spaces left ∙ more)
  off_after full none (b ∷ n ∷ ns) (other, begins, (t, follow, comma, next, more)) =
      let (_, left) = begins_once text a b after other h begins in none t (ap skip_spaces left ∙ comma)

  module _ (more : List ℕ) (comma : skip_spaces after ≡ 44 ∷ more) where
    -- a comma after it: a list that goes on
    pub longer : (ms : List AttributeData) → IsAttributes ms (skip_spaces more) → IsAttributes (a ∷ ms) text
    longer [] k = absurd k
    longer (m ∷ ms) (follow, begins, next) = (after, h, (more, follow, comma, begins, next))

    pub shorter : (all : List AttributeData) → IsAttributes all text → (ms : List AttributeData) × (all ≡ a ∷ ms) × IsAttributes ms (skip_spaces more)
    shorter [] k = absurd k
    shorter (b ∷ []) (other, begins, next) =
        let (_, left) = begins_once text a b after other h begins in
        let e : 44 ∷ more ≡ [] = sym comma ∙ ap skip_spaces left ∙ next in
        absurd cc
    shorter (b ∷ n ∷ ns) (other, begins, (t, follow, comma', next, rest)) =
        let (same, left) = begins_once text a b after other h begins in
        let both : 44 ∷ more ≡ 44 ∷ t = sym comma ∙ ap skip_spaces left ∙ comma' in
        let texts : t ≡ more = cc in (
          n ∷ ns,
          ap (λ (x : AttributeData). x ∷ n ∷ ns) (sym same),
          (follow, subst (λ (x : List ℕ). BeginsWith (skip_spaces x) n follow) texts next, rest),
        )

    pub fewer : length (skip_spaces more) ≤ length more → length (skip_spaces after) ≤ length after → length (skip_spaces more) < length text
    fewer p q = omega (arith, p, q, ap length comma, ap length h.spelled, length-append a.name (61 ∷ 34 ∷ (a.value ++ 34 ∷ after)), length-append a.value (34 ∷ after))

module _ (text : List ℕ) (a : AttributeData) (after : List ℕ) (h : BeginsWith text a after) where
  -- no `=`, then no quote after it, then no quote at the end of the value, then no such name or a value off its form
  pub off_without_equals : ((k : ℕ) → k < length text → get_or text k 0 ≢ 61) → ⊥
  off_without_equals none = has_byte 61 a.name (34 ∷ (a.value ++ 34 ∷ after)) text h.spelled none

  module _ (name rest : List ℕ) (cut : text ≡ name ++ 61 ∷ rest) (plain : All (λ b. b ≢ 61) name) where
    after_name : (a.name ≡ name) × ((34 ∷ (a.value ++ 34 ∷ after)) ≡ rest)
    after_name = cut_once 61 a.name (34 ∷ (a.value ++ 34 ∷ after)) name rest h.no_equals plain (sym h.spelled ∙ cut)

    pub off_without_quote : ((quoted : List ℕ) → rest ≢ 34 ∷ quoted) → ⊥
    off_without_quote none = none (a.value ++ 34 ∷ after) (sym after_name.1)

    module _ (quoted : List ℕ) (quote : rest ≡ 34 ∷ quoted) where
      after_quote : a.value ++ 34 ∷ after ≡ quoted
      after_quote = let e = after_name.1 ∙ quote in cc

      pub off_without_end : ((k : ℕ) → k < length quoted → get_or quoted k 0 ≢ 34) → ⊥
      off_without_end none = has_byte 34 a.value after quoted (sym after_quote) none

      pub off_form : (value follow : List ℕ) → quoted ≡ value ++ 34 ∷ follow → All (λ b. b ≢ 34) value → (IsTrue (is_name name) → All IsValueByte value → ⊥) → ⊥
      off_form value follow e clean off =
          let (values, _) = cut_once 34 a.value after value follow h.no_quote clean (after_quote ∙ e) in
          off (subst (λ (n : List ℕ). IsTrue (is_name n)) after_name.0 h.named) (subst (All IsValueByte) values h.plain)
