-- Bytes that move to the front, piece by piece.
use Rattle.std.proofs.Common.{◌≡◌, ℕ, ◌+◌, ◌≤◌, List, ◌++◌, length, take, drop, sym, ◌∙◌, ap, arith, append_assoc, length-append, length-drop}
use Rattle.std.proofs.lemmas.List.{drop-drop, drop_at, length-take-le, take_at}
use Rattle.std.proofs.Math.Seq.{take-add}

module _ (at by size : ℕ) (old bytes new : List ℕ) (long : length bytes ≡ length old) (within : at + by + size ≤ length old) (apart : size ≤ by)
    (moved : take at bytes ≡ take at (drop by old)) (behind : drop at bytes ≡ drop at old) (is : new ≡ take at bytes ++ (take size (drop (at + by) bytes) ++ drop (at + size) bytes)) where
  abbrev front : List ℕ
  front = take at bytes

  abbrev piece : List ℕ
  piece = take size (drop (at + by) bytes)

  front_long : length front ≡ at
  front_long = length-take-le at bytes (omega (arith, long))

  piece_long : length piece ≡ size
  piece_long = length-take-le size (drop (at + by) bytes) (omega (arith, long, length-drop (at + by) bytes))

  both_long : length (front ++ piece) ≡ at + size
  both_long = omega (arith, length-append front piece, front_long, piece_long)

  split : new ≡ (front ++ piece) ++ drop (at + size) bytes
  split = is ∙ sym (append_assoc front piece (drop (at + size) bytes))

  from_old : drop (at + by) bytes ≡ drop at (drop by old)
  from_old = sym (drop-drop by at bytes) ∙ ap (λ (l : List ℕ). drop by l) behind ∙ drop-drop by at old ∙ ap (λ n. drop n old) (omega arith) ∙ sym (drop-drop at by old)

  pub size_stays : length new ≡ length old
  size_stays = ap length split ∙ omega (arith, long, length-append (front ++ piece) (drop (at + size) bytes), both_long, length-drop (at + size) bytes)

  pub more_moved : take (at + size) new ≡ take (at + size) (drop by old)
  more_moved = ap (λ (l : List ℕ). take (at + size) l) split ∙ take_at (front ++ piece) (drop (at + size) bytes) (at + size) both_long
      ∙ ap (λ (l : List ℕ). l ++ piece) moved ∙ ap (λ (l : List ℕ). take at (drop by old) ++ take size l) from_old ∙ sym (take-add at size (drop by old))

  pub behind_stays : drop (at + size) new ≡ drop (at + size) old
  behind_stays = ap (λ (l : List ℕ). drop (at + size) l) split ∙ drop_at (front ++ piece) (drop (at + size) bytes) (at + size) both_long
      ∙ sym (drop-drop size at bytes) ∙ ap (λ (l : List ℕ). drop size l) behind ∙ drop-drop size at old
