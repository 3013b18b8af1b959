-- What a piece put over a file, or past its end, makes of it.
use Rattle.std.proofs.Common.{◌≡◌, ℕ, zero, suc, ◌+◌, ◌-◌, ◌<◌, ◌≤◌, List, [], ◌∷◌, ◌++◌, length, take, drop, replicate, refl, sym, ◌∙◌, ap, arith, length-append}
use Rattle.std.proofs.lemmas.List.{length-replicate, take_all, drop_all, take-append-le, take-replicate}
use Rattle.disk_base.specs.Calls.{written}

pub written_within : (at : ℕ) (piece old : List ℕ) → 0 < length piece → at + length piece ≤ length old → take at old ++ (piece ++ drop (at + length piece) old) ≡ written at piece old
written_within at [] old some within = absurd (omega arith)
written_within at (byte ∷ bytes) old some within =
    ap (λ (l : List ℕ). l ++ (byte ∷ bytes ++ drop (at + length (byte ∷ bytes)) old)) (sym (take-append-le at old (replicate (at - length old) 0) (omega arith)))

-- both fill a file up with enough zeros
same_front : (at m n : ℕ) (old : List ℕ) → at ≤ length old + m → at ≤ length old + n → take at (old ++ replicate m 0) ≡ take at (old ++ replicate n 0)
same_front at m n [] first second = take-replicate at m 0 (omega arith) ∙ sym (take-replicate at n 0 (omega arith))
same_front zero m n (x ∷ old) first second = refl
same_front (suc at) m n (x ∷ old) first second = ap (λ (l : List ℕ). x ∷ l) (same_front at m n old (omega arith) (omega arith))

front_past : (at end : ℕ) (old : List ℕ) → at ≤ end → length old ≤ end → take at (old ++ replicate (end - length old) 0) ≡ take at (old ++ replicate (at - length old) 0)
front_past at end old le past = same_front at (end - length old) (at - length old) old (omega arith) (omega arith)

-- the file was lengthened by zeros before
pub written_past : (at : ℕ) (piece old : List ℕ) → 0 < length piece → length old < at + length piece
    → take at (take (at + length piece) old ++ replicate (at + length piece - length old) 0) ++ (piece ++ drop (at + length piece) (take (at + length piece) old ++ replicate (at + length piece - length old) 0)) ≡ written at piece old
written_past at [] old some past = absurd (omega arith)
written_past at (byte ∷ bytes) old some past =
    let end = at + length (byte ∷ bytes) in
    let zeros = replicate {A = ℕ} (end - length old) 0 in
    let whole : take end old ≡ old = take_all end old (omega arith) in
    let none : drop end (old ++ zeros) ≡ drop end old = drop_all end (old ++ zeros) (omega (arith, length-append old zeros, length-replicate {A = ℕ} (end - length old) 0)) ∙ sym (drop_all end old (omega arith)) in
    ap (λ (l : List ℕ). take at (l ++ zeros) ++ (byte ∷ bytes ++ drop end (l ++ zeros))) whole
    ∙ ap (λ (l : List ℕ). l ++ (byte ∷ bytes ++ drop end (old ++ zeros))) (front_past at end old (omega arith) (omega arith))
    ∙ ap (λ (l : List ℕ). take at (old ++ replicate (at - length old) 0) ++ (byte ∷ bytes ++ l)) none

pub put_within : (at : ℕ) (piece old whole new : List ℕ) → whole ≡ old → new ≡ take at whole ++ (piece ++ drop (at + length piece) whole) → 0 < length piece → at + length piece ≤ length old → new ≡ written at piece old
put_within at piece old whole new same put some within =
    put ∙ ap (λ (l : List ℕ). take at l ++ (piece ++ drop (at + length piece) l)) same ∙ written_within at piece old some within

pub put_past : (at : ℕ) (piece old whole new : List ℕ) → whole ≡ take (at + length piece) old ++ replicate (at + length piece - length old) 0
    → new ≡ take at whole ++ (piece ++ drop (at + length piece) whole) → 0 < length piece → length old < at + length piece → new ≡ written at piece old
put_past at piece old whole new longer put some past =
    put ∙ ap (λ (l : List ℕ). take at l ++ (piece ++ drop (at + length piece) l)) longer ∙ written_past at piece old some past
