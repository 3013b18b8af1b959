-- A field that is read is the field that was written, and what was written is read again.
use Rattle.std.proofs.Common.{◌≡◌, ℕ, suc, ◌+◌, ◌^◌, ◌<◌, ◌≤◌, Bool, true, false, cond, ltb, leb, List, [], ◌∷◌, ◌++◌, length, get_or, take, drop, All, Option, Some, None, refl, sym, ap, subst, ◌∙◌, append_assoc, arith, inl, inr}
use Rattle.std.specs.Prelude.{◌==◌, ◌&&◌, ◌/◌, nat_lt, slice_index}
use Rattle.std.specs.List.{list_all}
use Rattle.std.proofs.lemmas.List.Sums.{AllPass-from_list_all, list_all-from_AllPass}
use Rattle.std.specs.Int.{Width, w32, w64, byte_len, from_be_bytes, to_be_bytes}
use Rattle.std.proofs.lemmas.Bool.{cases_lt, ltb-false, le-ltb, lt-ltb, ltb-true, eqb-true, eq-eqb}
use Rattle.std.proofs.lemmas.List.{take_at, drop_at, take-append-drop, length-append, length-take, get_or-drop, get_or-take, get_or_past}
use Rattle.std.proofs.lemmas.Nat.{be_bytes_4, be_bytes_8, from_be_bytes-to_be_bytes_4, from_be_bytes-to_be_bytes_8}
use Rattle.farm_text.specs.Slug.{IsUuid4, is_uuid4}
use Rattle.farm_record.specs.Fields.{IsMoment, moment_text, sized}
use Rattle.farm_record.specs.Reading.{◌>>=◌, pair_at, map_at, byte_at, number_at, moment_in, moment_at, front_at, id_in, id_at, sized_at}

abbrev pub IsBytes : List ℕ → Type 0
IsBytes bytes = (i : ℕ) → get_or bytes i 0 < 256

IsBytes-drop : (n : ℕ) (bytes : List ℕ) → IsBytes bytes → IsBytes (drop n bytes)
IsBytes-drop n bytes h i = rw get_or-drop (h (n + i))

IsBytes-take : (n : ℕ) (bytes : List ℕ) → IsBytes bytes → IsBytes (take n bytes)
IsBytes-take n bytes h i =
    elim (cases_lt i n) [
      | inl lt ↦ rw (get_or-take n bytes i 0 lt) (h i)
      | inr le ↦ rw (get_or_past (take n bytes) i 0 (omega (arith, length-take n bytes))) (omega arith)
    ]

IsBytes-rest : (b : ℕ) (bytes : List ℕ) → IsBytes (b ∷ bytes) → IsBytes bytes
IsBytes-rest b bytes h i = h (suc i)

-- the value of a step that gave one
pub bind_some : {A B : Type 0} (r : Option A) (f : A → Option B) (y : B) → (r >>= f) ≡ Some y → (x : A) × (r ≡ Some x) × (f x ≡ Some y)
bind_some (Some x) f y e = (x, refl, e)
bind_some None f y e = absurd cc

-- a test that was not passed, and one that was
pub guard_not : {A : Type 0} (b : Bool) (x y : A) → cond b None (Some x) ≡ Some y → (b ≡ false) × (x ≡ y)
guard_not true x y e = absurd cc
guard_not false x y e = (refl, cc)

pub guard_none : {A : Type 0} (b : Bool) (r : Option A) (y : A) → cond b None r ≡ Some y → (b ≡ false) × (r ≡ Some y)
guard_none true r y e = absurd cc
guard_none false r y e = (refl, e)

pub guard_yes : {A : Type 0} (b : Bool) (x y : A) → cond b (Some x) None ≡ Some y → (b ≡ true) × (x ≡ y)
guard_yes true x y e = (refl, cc)
guard_yes false x y e = absurd cc

abbrev made : {A : Type 0} → A → Option A
made x = Some x

pub some_is : {A : Type 0} (x y : A) → made x ≡ made y → x ≡ y
some_is x y e = cc

-- what a reader took from the front
pub record Takes (bytes text rest : List ℕ) : Type 0 where
  pub parts : bytes ≡ text ++ rest
  pub rest_fits : IsBytes rest

-- a reader of values that fit, each with its text
pub record Spells {A : Type 0} (text : A → List ℕ) (Fits : A → Type 0) (read : List ℕ → Option (A × List ℕ)) : Type 0 where
  pub takes : (bytes : List ℕ) (a : A) (rest : List ℕ) → IsBytes bytes → read bytes ≡ Some (a, rest) → Takes bytes (text a) rest × Fits a
  pub again : (a : A) (rest : List ℕ) → Fits a → read (text a ++ rest) ≡ Some (a, rest)

-- ---- one behind another

pub Spells-pair : {A B : Type 0} (text : A → List ℕ) (Fits : A → Type 0) (f : List ℕ → Option (A × List ℕ)) (word : B → List ℕ) (Suits : B → Type 0) (g : List ℕ → Option (B × List ℕ))
    → Spells text Fits f → Spells word Suits g → Spells (λ p. text p.0 ++ word p.1) (λ p. Fits p.0 × Suits p.1) (pair_at f g)
Spells-pair text Fits f word Suits g one two = record {
  takes = λ bytes p rest fits e.
      let a = bind_some (f bytes) (λ a. g a.1 >>= λ b. Some ((a.0, b.0), b.1)) (p, rest) e in
      let b = bind_some (g a.0.1) (λ b. Some ((a.0.0, b.0), b.1)) (p, rest) a.2 in
      let first = one.takes bytes a.0.0 a.0.1 fits a.1 in
      let second = two.takes a.0.1 b.0.0 b.0.1 first.0.rest_fits b.1 in
      let is = some_is ((a.0.0, b.0.0), b.0.1) (p, rest) b.2 in
      let whole : bytes ≡ (text a.0.0 ++ word b.0.0) ++ b.0.1 =
      first.0.parts ∙ ap (λ (t : List ℕ). text a.0.0 ++ t) second.0.parts ∙ sym (append_assoc (text a.0.0) (word b.0.0) b.0.1) in
      subst (λ (x : (_ × _) × List ℕ). Takes bytes (text x.0.0 ++ word x.0.1) x.1 × (Fits x.0.0 × Suits x.0.1)) is (record { parts = whole; rest_fits = second.0.rest_fits }, (first.1, second.1));
  again = λ p rest fits.
      ap (pair_at f g) (append_assoc (text p.0) (word p.1) rest) ∙ rw (one.again p.0 (word p.1 ++ rest) fits.0, two.again p.1 rest fits.1) refl;
}

-- ---- made of another

pub Spells-map : {A B : Type 0} (make : A → B) (part : B → A) (text : A → List ℕ) (Fits : A → Type 0) (f : List ℕ → Option (A × List ℕ))
    → ((a : A) → part (make a) ≡ a) → ((b : B) → make (part b) ≡ b) → Spells text Fits f → Spells (λ b. text (part b)) (λ b. Fits (part b)) (map_at make f)
Spells-map make part text Fits f back there one = record {
  takes = λ bytes b rest fits e.
      let a = bind_some (f bytes) (λ a. Some (make a.0, a.1)) (b, rest) e in
      let first = one.takes bytes a.0.0 a.0.1 fits a.1 in
      let is = some_is (make a.0.0, a.0.1) (b, rest) a.2 in
      subst (λ (x : _ × List ℕ). Takes bytes (text (part x.0)) x.1 × Fits (part x.0)) is (subst (λ y. Takes bytes (text y) a.0.1 × Fits y) (sym (back a.0.0)) first);
  again = λ b rest fits. rw (one.again (part b) rest fits, there b) refl;
}

-- ---- bytes and numbers

pub spells_byte : Spells (λ b. b ∷ []) (λ b. b < 256) byte_at
unfolding byte_at
spells_byte = record {
  takes = byte_takes;
  again = λ b rest fits. refl;
}
  where
    byte_takes : (bytes : List ℕ) (b : ℕ) (rest : List ℕ) → IsBytes bytes → byte_at bytes ≡ Some (b, rest) → Takes bytes (b ∷ []) rest × (b < 256)
    byte_takes [] b rest fits e = absurd cc
    byte_takes (c ∷ bytes) b rest fits e =
        subst (λ (x : ℕ × List ℕ). Takes (c ∷ bytes) (x.0 ∷ []) x.1 × (x.0 < 256)) (some_is (c, bytes) (b, rest) e) (record { parts = refl; rest_fits = IsBytes-rest c bytes fits }, fits 0)

pub record IsWide (w : Width) (limit : ℕ) : Type 0 where
  pub len : (n : ℕ) → length (to_be_bytes w n) ≡ byte_len w
  pub back : (bytes : List ℕ) → length bytes ≡ byte_len w → IsBytes bytes → to_be_bytes w (from_be_bytes w bytes) ≡ bytes
  pub again : (n : ℕ) → n < limit → from_be_bytes w (to_be_bytes w n) ≡ n
  pub below : (bytes : List ℕ) → IsBytes bytes → from_be_bytes w bytes < limit

pub wide32 : IsWide w32 (2 ^ 32)
wide32 = record {
  len = λ n. refl;
  back = λ bytes len fits. be_bytes_4 bytes _ len fits refl;
  again = λ n lt. from_be_bytes-to_be_bytes_4 n lt;
  below = λ bytes fits. omega (arith, fits 0, fits 1, fits 2, fits 3);
}

pub wide64 : IsWide w64 (2 ^ 64)
wide64 = record {
  len = λ n. refl;
  back = λ bytes len fits. be_bytes_8 bytes _ len fits refl;
  again = λ n lt. from_be_bytes-to_be_bytes_8 n lt;
  below = λ bytes fits. omega (arith, fits 0, fits 1, fits 2, fits 3, fits 4, fits 5, fits 6, fits 7);
}

pub spells_number : (w : Width) (limit : ℕ) → IsWide w limit → Spells (to_be_bytes w) (λ n. n < limit) (number_at w)
unfolding number_at
spells_number w limit wide = record {
  takes = λ bytes n rest fits e.
      let g = guard_not (ltb (length bytes) (byte_len w)) (from_be_bytes w (take (byte_len w) bytes), drop (byte_len w) bytes) (n, rest) e in
      let long : byte_len w ≤ length bytes = ltb-false _ _ g.0 in
      let n-is : from_be_bytes w (take (byte_len w) bytes) ≡ n = ap (λ (p : ℕ × List ℕ). p.0) g.1 in
      let rest-is : drop (byte_len w) bytes ≡ rest = ap (λ (p : ℕ × List ℕ). p.1) g.1 in
      let front : to_be_bytes w n ≡ take (byte_len w) bytes = rw (← n-is) (wide.back (take (byte_len w) bytes) (omega (arith, length-take (byte_len w) bytes)) (IsBytes-take (byte_len w) bytes fits)) in (
        record { parts = rw (front, ← rest-is) (sym (take-append-drop (byte_len w) bytes)); rest_fits = rw (← rest-is) (IsBytes-drop (byte_len w) bytes fits) },
        rw (← n-is) (wide.below (take (byte_len w) bytes) (IsBytes-take (byte_len w) bytes fits)),
      );
  again = λ n rest lt.
      let len = wide.len n in
      let long : ltb (length (to_be_bytes w n ++ rest)) (byte_len w) ≡ false = le-ltb _ _ (omega (arith, length-append (to_be_bytes w n) rest)) in
      rw (long, take_at (to_be_bytes w n) rest (byte_len w) len, drop_at (to_be_bytes w n) rest (byte_len w) len, wide.again n lt) refl;
}

-- ---- moments

moment_in-some : (n m : ℕ) → moment_in n ≡ Some m → (n ≡ m) × IsMoment n
unfolding moment_in
moment_in-some n m e =
    let g = guard_yes (leb n 253402300799999) n m e in (g.1, grind (arith, g.0))

moment_in-again : (m : ℕ) → IsMoment m → moment_in m ≡ Some m
unfolding moment_in
moment_in-again m small =
    let test : leb m 253402300799999 ≡ true = grind (arith, small) in rw test refl

pub spells_moment : Spells moment_text IsMoment moment_at
unfolding moment_at
spells_moment = record {
  takes = λ bytes m rest fits e.
      let a = bind_some (number_at w64 bytes) (λ n. moment_in n.0 >>= λ m. Some (m, n.1)) (m, rest) e in
      let b = bind_some (moment_in a.0.0) (λ m. Some (m, a.0.1)) (m, rest) a.2 in
      let g = moment_in-some a.0.0 b.0 b.1 in
      let t = (spells_number w64 (2 ^ 64) wide64).takes bytes a.0.0 a.0.1 fits a.1 in
      let is : (a.0.0, a.0.1) ≡ (m, rest) = ap (λ (k : ℕ). (k, a.0.1)) g.0 ∙ some_is (b.0, a.0.1) (m, rest) b.2 in
      subst (λ (x : ℕ × List ℕ). Takes bytes (moment_text x.0) x.1 × IsMoment x.0) is (t.0, g.1);
  again = λ m rest lt. rw ((spells_number w64 (2 ^ 64) wide64).again m rest (omega (arith, lt)), moment_in-again m lt) refl;
}

-- ---- texts

pub spells_sized : Spells sized (λ text. length text < 2 ^ 32) sized_at
unfolding sized_at
spells_sized = record {
  takes = λ bytes text rest fits e.
      let b = bind_some (number_at w32 bytes) (λ n. cond (ltb (length n.1) n.0) None (Some (take n.0 n.1, drop n.0 n.1))) (text, rest) e in
      let n = b.0 in
      let t = (spells_number w32 (2 ^ 32) wide32).takes bytes n.0 n.1 fits b.1 in
      let g = guard_not (ltb (length n.1) n.0) (take n.0 n.1, drop n.0 n.1) (text, rest) b.2 in
      let long : n.0 ≤ length n.1 = ltb-false _ _ g.0 in
      let len : length (take n.0 n.1) ≡ n.0 = omega (arith, length-take n.0 n.1) in
      let whole : bytes ≡ (to_be_bytes w32 n.0 ++ take n.0 n.1) ++ drop n.0 n.1 =
      t.0.parts ∙ ap (λ (l : List ℕ). to_be_bytes w32 n.0 ++ l) (sym (take-append-drop n.0 n.1)) ∙ sym (append_assoc (to_be_bytes w32 n.0) (take n.0 n.1) (drop n.0 n.1)) in
      let both : Takes bytes (to_be_bytes w32 n.0 ++ take n.0 n.1) (drop n.0 n.1) = record { parts = whole; rest_fits = IsBytes-drop n.0 n.1 t.0.rest_fits } in
      let is : Takes bytes (sized (take n.0 n.1)) (drop n.0 n.1) = subst (λ (k : ℕ). Takes bytes (to_be_bytes w32 k ++ take n.0 n.1) (drop n.0 n.1)) (sym len) both in
      subst (λ (p : List ℕ × List ℕ). Takes bytes (sized p.0) p.1 × (length p.0 < 2 ^ 32)) g.1 (is, omega (arith, t.1, len));
  again = λ text rest lt.
      let long : ltb (length (text ++ rest)) (length text) ≡ false = le-ltb _ _ (omega (arith, length-append text rest)) in
      let regrouped : sized text ++ rest ≡ to_be_bytes w32 (length text) ++ (text ++ rest) = append_assoc (to_be_bytes w32 (length text)) text rest in
      ap sized_at regrouped ∙ rw ((spells_number w32 (2 ^ 32) wide32).again (length text) (text ++ rest) lt, long, take_at text rest (length text) refl, drop_at text rest (length text) refl) refl;
}

-- ---- ids

both : (b c : Bool) → (b && c) ≡ true → (b ≡ true) × (c ≡ true)
both true c e = (refl, e)
both false c e = absurd cc

octets_test : (uuid : List ℕ) → All (λ b. b < 256) uuid → list_all (λ b. nat_lt b 256) uuid ≡ true
octets_test uuid octets = list_all-from_AllPass (λ b. nat_lt b 256) uuid (λ k d here. lt-ltb (get_or uuid k d) 256 (octets k d here))

is_uuid4-true : (uuid : List ℕ) → IsUuid4 uuid → is_uuid4 uuid ≡ true
is_uuid4-true uuid u =
    rw (eq-eqb (length uuid) 16 u.len, octets_test uuid u.octets, eq-eqb (slice_index uuid 6 / 16) 4 u.version, eq-eqb (slice_index uuid 8 / 64) 2 u.variant) refl

IsUuid4-test : (uuid : List ℕ) → is_uuid4 uuid ≡ true → IsUuid4 uuid
IsUuid4-test uuid h =
    let p = both (length uuid == 16) _ h in
    let o = both (list_all (λ b. nat_lt b 256) uuid) _ p.1 in
    let q = both (slice_index uuid 6 / 16 == 4) _ o.1 in
    let each = AllPass-from_list_all (λ b. nat_lt b 256) uuid o.0 in
    record { len = eqb-true _ 16 p.0; octets = λ k d here. ltb-true (get_or uuid k d) 256 (each k d here); version = eqb-true _ 4 q.0; variant = eqb-true _ 2 q.1 }

pub id_in-again : (uuid id : List ℕ) → IsUuid4 uuid → id ≡ uuid → id_in uuid ≡ Some id
unfolding id_in
id_in-again uuid id u is =
    rw (is, is_uuid4-true uuid u) refl

id_in-not : (uuid : List ℕ) → is_uuid4 uuid ≡ false → id_in uuid ≡ None
unfolding id_in
id_in-not uuid e = rw e refl

pub id_in-none : (uuid : List ℕ) → ¬ IsUuid4 uuid → id_in uuid ≡ None
id_in-none uuid not_one = by_test (is_uuid4 uuid) refl
  where
    by_test : (b : Bool) → is_uuid4 uuid ≡ b → id_in uuid ≡ None
    by_test true e = absurd (not_one (IsUuid4-test uuid e))
    by_test false e = id_in-not uuid e

id_in-some : (uuid id : List ℕ) → id_in uuid ≡ Some id → (uuid ≡ id) × IsUuid4 uuid
unfolding id_in
id_in-some uuid id e =
    let g = guard_yes (is_uuid4 uuid) uuid id e in (g.1, IsUuid4-test uuid g.0)

front_takes : (n : ℕ) (bytes front rest : List ℕ) → IsBytes bytes → front_at n bytes ≡ Some (front, rest) → Takes bytes front rest
unfolding front_at
front_takes n bytes front rest fits e =
    let g = guard_not (ltb (length bytes) n) (take n bytes, drop n bytes) (front, rest) e in
    subst (λ (x : List ℕ × List ℕ). Takes bytes x.0 x.1) g.1 (record { parts = sym (take-append-drop n bytes); rest_fits = IsBytes-drop n bytes fits })

front_again : (n : ℕ) (front rest : List ℕ) → length front ≡ n → front_at n (front ++ rest) ≡ Some (front, rest)
unfolding front_at
front_again n front rest len =
    let long : ltb (length (front ++ rest)) n ≡ false = le-ltb _ _ (omega (arith, len, length-append front rest)) in
    rw (long, take_at front rest n len, drop_at front rest n len) refl

pub spells_id : Spells (λ id. id) IsUuid4 id_at
unfolding id_at
spells_id = record {
  takes = λ bytes id rest fits e.
      let a = bind_some (front_at 16 bytes) (λ front. id_in front.0 >>= λ id. Some (id, front.1)) (id, rest) e in
      let b = bind_some (id_in a.0.0) (λ id. Some (id, a.0.1)) (id, rest) a.2 in
      let g = id_in-some a.0.0 b.0 b.1 in
      let t = front_takes 16 bytes a.0.0 a.0.1 fits a.1 in
      let is : (a.0.0, a.0.1) ≡ (id, rest) = ap (λ (k : List ℕ). (k, a.0.1)) g.0 ∙ some_is (b.0, a.0.1) (id, rest) b.2 in
      subst (λ (x : List ℕ × List ℕ). Takes bytes x.0 x.1 × IsUuid4 x.0) is (t, g.1);
  again = λ id rest u. rw (front_again 16 id rest u.len, id_in-again id id u refl) refl;
}
