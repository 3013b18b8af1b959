-- What the collections answer is the least of what they hold.
use Rattle.std.proofs.Common.{◌≡◌, ℕ, ◌<◌, ◌≤◌, ◌||◌, ◌&&◌, ◌==◌, Bool, true, false, nat_lt, nat_le, List, Option, Some, None, option_map, refl, sym, ap, ◌∙◌, arith}
use Rattle.std.specs.Str.{bytes_eq}
use Rattle.std.specs.Cmp.{IsStrictWeakOrder}
use Rattle.std.proofs.lemmas.List.MinMax.{IsStrictWeakOrder-by_number}
use Rattle.std.proofs.lemmas.Bool.{leb-true, leb-false, le-leb}
use Rattle.std.proofs.lemmas.Bool.Decides.{nat_tests}
use Rattle.claim_queue.specs.Dues.{Dues, first_due_of}
use Rattle.claim_queue.specs.Waits.{Waiting, Waits, rank, goes_before, best_of}
use Rattle.claim_queue.specs.Firsts.{IsHeld, IsFirstDue, IsBest}
use Rattle.claim_queue.proofs.FirstLemmas.{IsFirst, first-is, first-one}

not-lt : (a b : ℕ) → nat_lt a b ≡ false → b ≤ a
not-lt a b is = grind (arith, nat_tests)

lt-not : (a b : ℕ) → b ≤ a → nat_lt a b ≡ false
lt-not a b le = grind (arith, nat_tests)

-- ---- what falls due

abbrev is_sooner : ℕ × ℕ → ℕ × ℕ → Bool
is_sooner one other = nat_lt one.0 other.0

abbrev is_due : ℕ → ℕ × ℕ → Bool
is_due moment due = nat_le due.0 moment

due-first : (moment : ℕ) (rows : List (Option ℕ)) (first : Option (ℕ × ℕ)) → IsFirst is_sooner (is_due moment) rows first → IsFirstDue moment rows first
due-first moment rows None p = λ row at held. by row at held (nat_le at moment) refl where
  by : (row at : ℕ) → IsHeld rows row at → (t : Bool) → nat_le at moment ≡ t → moment < at
  by row at held true is = absurd (p row at held is)
  by row at held false is = leb-false at moment is
due-first moment rows (Some e) p = (p.0, leb-true e.0 moment p.1, λ row at held. by row at held (nat_le at moment) refl) where
  by : (row at : ℕ) → IsHeld rows row at → (t : Bool) → nat_le at moment ≡ t → (e.0 ≤ at) × (at ≡ e.0 → e.1 ≤ row)
  by row at held true is =
      let follows = p.2 row at held is in
      (not-lt at e.0 follows.0, λ same. follows.1 (lt-not e.0 at (omega arith)))
  by row at held false is =
      let later : moment < at = leb-false at moment is in
      let early : e.0 ≤ moment = leb-true e.0 moment p.1 in
      (omega arith, λ same. absurd (omega arith))

first-due : (moment : ℕ) (rows : List (Option ℕ)) (first : Option (ℕ × ℕ)) → IsFirstDue moment rows first → IsFirst is_sooner (is_due moment) rows first
first-due moment rows None p = λ row at held passes. let later = p row at held in let early = leb-true at moment passes in omega arith
first-due moment rows (Some e) p = (
  p.0,
  le-leb e.0 moment p.1,
  λ row at held passes.
      let follows = p.2 row at held in
      (lt-not at e.0 follows.0, λ same. let ge = not-lt e.0 at same in let le = follows.0 in follows.1 (omega arith)),
)

pub first-due-is : (moment : ℕ) (dues : Dues) → IsFirstDue moment dues.rows (first_due_of moment dues)
first-due-is moment dues =
    due-first moment dues.rows (first_due_of moment dues) (first-is is_sooner (IsStrictWeakOrder-by_number (λ (e : ℕ × ℕ). e.0)) (is_due moment) dues.rows)

pub first-due-one : (moment : ℕ) (rows : List (Option ℕ)) (a b : Option (ℕ × ℕ)) → IsFirstDue moment rows a → IsFirstDue moment rows b → a ≡ b
first-due-one moment rows a b p q = first-one is_sooner (is_due moment) rows a b (first-due moment rows a p) (first-due moment rows b q)

-- ---- what waits

abbrev is_before : Waiting × ℕ → Waiting × ℕ → Bool
is_before one other = goes_before one.0 other.0

abbrev is_in : List ℕ → Waiting × ℕ → Bool
is_in name row = bytes_eq row.0.queue name

lex-one_way : (a b c d : ℕ) → (nat_lt a c || ((a == c) && nat_lt b d)) ≡ true → (nat_lt c a || ((c == a) && nat_lt d b)) ≡ false
lex-one_way a b c d is = grind (arith, nat_tests)

lex-chain : (a b c d e f : ℕ) → (nat_lt a c || ((a == c) && nat_lt b d)) ≡ false → (nat_lt c e || ((c == e) && nat_lt d f)) ≡ false → (nat_lt a e || ((a == e) && nat_lt b f)) ≡ false
lex-chain a b c d e f p q = grind (arith, nat_tests)

goes-order : IsStrictWeakOrder is_before
goes-order = record {
  one_way = λ x y is. lex-one_way (rank x.0.priority) x.0.number (rank y.0.priority) y.0.number is;
  chain = λ x y z p q. lex-chain (rank x.0.priority) x.0.number (rank y.0.priority) y.0.number (rank z.0.priority) z.0.number p q;
}

best-first : (name : List ℕ) (waits : Waits) (best : Option (Waiting × ℕ)) → IsFirst is_before (is_in name) waits.rows best → IsBest name waits (option_map (λ b. b.1) best)
best-first name waits None p = λ row waiting held. by row waiting held (bytes_eq waiting.queue name) refl where
  by : (row : ℕ) (waiting : Waiting) → IsHeld waits.rows row waiting → (t : Bool) → bytes_eq waiting.queue name ≡ t → bytes_eq waiting.queue name ≡ false
  by row waiting held true is = absurd (p row waiting held is)
  by row waiting held false is = is
best-first name waits (Some e) p = (e.0, p.0, p.1, λ other waiting held in_. p.2 other waiting held in_)

pub best-is : (name : List ℕ) (waits : Waits) → IsBest name waits (best_of name waits)
best-is name waits = best-first name waits _ (first-is is_before goes-order (is_in name) waits.rows)

none-first : (name : List ℕ) (waits : Waits) → IsBest name waits None → IsFirst is_before (is_in name) waits.rows None
none-first name waits p = λ row waiting held passes. let no_ = p row waiting held in let both : true ≡ false = sym passes ∙ no_ in cc

some-first : (name : List ℕ) (waits : Waits) (row : ℕ) (p : IsBest name waits (Some row)) → IsFirst is_before (is_in name) waits.rows (Some (p.0, row))
some-first name waits row p = (p.1, p.2, λ other waiting held in_. p.3 other waiting held in_)

pub best-one : (name : List ℕ) (waits : Waits) (a b : Option ℕ) → IsBest name waits a → IsBest name waits b → a ≡ b
best-one name waits None None p q = refl
best-one name waits None (Some row) p q =
    let same = first-one is_before (is_in name) waits.rows None (Some (q.0, row)) (none-first name waits p) (some-first name waits row q) in
    ap (option_map (λ (b : Waiting × ℕ). b.1)) same
best-one name waits (Some row) None p q =
    let same = first-one is_before (is_in name) waits.rows (Some (p.0, row)) None (some-first name waits row p) (none-first name waits q) in
    ap (option_map (λ (b : Waiting × ℕ). b.1)) same
best-one name waits (Some row) (Some other) p q =
    let same = first-one is_before (is_in name) waits.rows (Some (p.0, row)) (Some (q.0, other)) (some-first name waits row p) (some-first name waits other q) in
    ap (option_map (λ (b : Waiting × ℕ). b.1)) same
