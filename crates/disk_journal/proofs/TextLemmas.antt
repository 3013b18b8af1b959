-- Writes at a byte in a file and behind it, whole or torn.
use Rattle.std.proofs.Common.{◌≡◌, ℕ, suc, ◌+◌, ◌<◌, ◌≤◌, List, [], ◌∷◌, ◌++◌, length, take, drop, get_or, sym, ◌∙◌, ap, arith, append_assoc, length-append, length-drop, take-append-drop}
use Rattle.std.proofs.lemmas.List.{length-take-le, take_at, take_all, drop_at, drop_all, drop_more, take-append-le, get_or-take, get_or-drop, ext_get_or}
use Rattle.disk_base.specs.Calls.{written, Torn}

-- the bytes below a torn range stay
torn_front : (at n : ℕ) (old image : List ℕ) → at ≤ length old → Torn at n old image → take at image ≡ take at old
torn_front at n old image within torn =
    ext_get_or 0 (take at image) (take at old)
    (length-take-le at image (omega (arith, torn.no_shorter)) ∙ sym (length-take-le at old within))
    (λ i lt. let below : i < at = omega (arith, length-take-le at image (omega (arith, torn.no_shorter))) in
    get_or-take at image i 0 below ∙ torn.before i below (omega arith) ∙ sym (get_or-take at old i 0 below))

-- the bytes above it too
torn_back : (at n : ℕ) (old image : List ℕ) → at + n ≤ length old → Torn at n old image → drop (at + n) image ≡ drop (at + n) old
torn_back at n old image within torn =
    let same : length image ≡ length old = omega (arith, torn.no_shorter, torn.no_longer) in
    ext_get_or 0 (drop (at + n) image) (drop (at + n) old)
    (omega (arith, same, length-drop (at + n) image, length-drop (at + n) old))
    (λ i lt. get_or-drop (at + n) image i 0 ∙ torn.after (at + n + i) (omega arith) (omega (arith, same, length-drop (at + n) image)) ∙ sym (get_or-drop (at + n) old i 0))

module _ (front : List ℕ) (byte : ℕ) (rest : List ℕ) (at : ℕ) (here : at ≡ length front) where
  front_at : take at (front ++ byte ∷ rest) ≡ front
  front_at = take_at front (byte ∷ rest) at (sym here)

  split : front ++ byte ∷ rest ≡ front ++ (byte ∷ []) ++ rest
  split = sym (append_assoc front (byte ∷ []) rest)

  long : length (front ++ byte ∷ rest) ≡ at + suc (length rest)
  long = length-append front (byte ∷ rest) ∙ ap (λ n. n + suc (length rest)) (sym here)

  rest_at : drop (at + 1) (front ++ byte ∷ rest) ≡ rest
  rest_at = ap (λ (l : List ℕ). drop (at + 1) l) split ∙ drop_at (front ++ byte ∷ []) rest (at + 1) (omega (arith, here, length-append front (byte ∷ [])))

  -- that byte may be any
  pub torn_byte : (image : List ℕ) → Torn at 1 (front ++ byte ∷ rest) image → (gate : ℕ) × (image ≡ front ++ gate ∷ rest)
  torn_byte image torn =
      let gate = get_or image at 0 in
      let below : at < length image = omega (arith, long, torn.no_shorter) in
      let tail : drop at image ≡ gate ∷ rest = drop_more image at 0 below ∙ ap (λ (l : List ℕ). gate ∷ l) (torn_back at 1 _ image (omega (arith, long)) torn ∙ rest_at) in (
        gate,
        sym (take-append-drop at image) ∙ ap (λ (l : List ℕ). l ++ drop at image) (torn_front at 1 _ image (omega (arith, long)) torn ∙ front_at) ∙ ap (λ (l : List ℕ). front ++ l) tail,
      )

  pub written_byte : (b : ℕ) → written at (b ∷ []) (front ++ byte ∷ rest) ≡ front ++ b ∷ rest
  written_byte b =
      ap (λ (l : List ℕ). l ++ (b ∷ [] ++ drop (at + 1) (front ++ byte ∷ rest))) (take-append-le at (front ++ byte ∷ rest) _ (omega (arith, long)) ∙ front_at)
      ∙ ap (λ (l : List ℕ). front ++ b ∷ l) rest_at

  through_at : take (at + 1) (front ++ byte ∷ rest) ≡ front ++ byte ∷ []
  through_at = ap (λ (l : List ℕ). take (at + 1) l) split ∙ take_at (front ++ byte ∷ []) rest (at + 1) (omega (arith, here, length-append front (byte ∷ [])))

  -- behind it anything may be
  pub torn_behind : (n : ℕ) (image : List ℕ) → Torn (at + 1) n (front ++ byte ∷ rest) image → (more : List ℕ) × (image ≡ front ++ byte ∷ more)
  torn_behind n image torn = (
    drop (at + 1) image,
    sym (take-append-drop (at + 1) image) ∙ ap (λ (l : List ℕ). l ++ drop (at + 1) image) (torn_front (at + 1) n _ image (omega (arith, long)) torn ∙ through_at) ∙ append_assoc front (byte ∷ []) (drop (at + 1) image),
  )

  pub written_behind : (b : ℕ) (bytes : List ℕ) → written (at + 1) (b ∷ bytes) (front ++ byte ∷ rest) ≡ front ++ byte ∷ (b ∷ bytes ++ drop (at + 1 + length (b ∷ bytes)) (front ++ byte ∷ rest))
  written_behind b bytes =
      ap (λ (l : List ℕ). l ++ (b ∷ bytes ++ drop (at + 1 + length (b ∷ bytes)) (front ++ byte ∷ rest))) (take-append-le (at + 1) (front ++ byte ∷ rest) _ (omega (arith, long)) ∙ through_at)
      ∙ append_assoc front (byte ∷ []) (b ∷ bytes ++ drop (at + 1 + length (b ∷ bytes)) (front ++ byte ∷ rest))

  pub written_some : (bytes : List ℕ) → 0 < length bytes → written (at + 1) bytes (front ++ byte ∷ rest) ≡ front ++ byte ∷ (bytes ++ drop (at + 1 + length bytes) (front ++ byte ∷ rest))
  written_some [] some = absurd (omega arith)
  written_some (b ∷ bytes) some = written_behind b bytes

-- a byte at a file's end, or over the only one behind a front
pub torn_end : (front rest : List ℕ) (at : ℕ) (image : List ℕ) → at ≡ length front → length rest ≤ 1 → Torn at 1 (front ++ rest) image → (more : List ℕ) × (length more ≤ 1) × (image ≡ front ++ more)
torn_end front rest at image here few torn =
    let long = length-append front rest in (
      drop at image,
      omega (arith, long, torn.no_longer, length-drop at image),
      sym (take-append-drop at image) ∙ ap (λ (l : List ℕ). l ++ drop at image) (torn_front at 1 _ image (omega (arith, long)) torn ∙ take_at front rest at (sym here)),
    )

pub written_end : (front : List ℕ) (at b : ℕ) → at ≡ length front → written at (b ∷ []) front ≡ front ++ b ∷ []
written_end front at b here =
    ap (λ (l : List ℕ). l ++ (b ∷ [] ++ drop (at + 1) front)) (take-append-le at front _ (omega arith) ∙ take_all at front (omega arith))
    ∙ ap (λ (l : List ℕ). front ++ b ∷ l) (drop_all (at + 1) front (omega arith))
