-- Bytes that are written or read piece by piece.
use Rattle.std.proofs.Common.{◌≡◌, ℕ, ◌<◌, ◌≤◌, List, [], ◌++◌, length, take, drop, Option, Some, None, refl, sym, ap, ◌∙◌, append_assoc, append-nil}
use Rattle.std.proofs.KnownBytes.{Appends-nil, Appends-trans, Appends-kept, Keeps-trans}
use Rattle.std.proofs.lemmas.List.{take-append-drop}
use Rattle.std.specs.Io.KnownBytes.{prepend_known, Appends, Consumes, Keeps}
use Rattle.http_wire.specs.Whole.{AppendsFront, LosesWithin}

-- the first of the bytes were written, and the rest is not yet
pub record HasWritten (before now : Option (List ℕ)) (bytes rest : List ℕ) : Type 0 where
  pub done : List ℕ
  pub is : bytes ≡ done ++ rest
  pub appends : Appends before now done

pub HasWritten-none : (now : Option (List ℕ)) (bytes : List ℕ) → HasWritten now now bytes bytes
HasWritten-none now bytes = record { done = []; is = refl; appends = Appends-nil now }

pub HasWritten-more : (before between now : Option (List ℕ)) (bytes rest : List ℕ) (count : ℕ) → HasWritten before between bytes rest → Appends between now (take count rest) → HasWritten before now bytes (drop count rest)
HasWritten-more before between now bytes rest count so_far appends = record {
  done = so_far.done ++ take count rest;
  is = so_far.is ∙ (ap (λ xs. so_far.done ++ xs) (sym (take-append-drop count rest)) ∙ sym (append_assoc so_far.done (take count rest) (drop count rest)));
  appends = Appends-trans before between now so_far.done (take count rest) so_far.appends appends;
}

pub HasWritten-all : (before now : Option (List ℕ)) (bytes rest : List ℕ) → HasWritten before now bytes rest → rest ≡ [] → Appends before now bytes
HasWritten-all before now bytes rest so_far none =
    rw (so_far.is, none, append-nil so_far.done) so_far.appends

pub HasWritten-front : (before between now : Option (List ℕ)) (bytes rest : List ℕ) → 0 < length rest → HasWritten before between bytes rest → Keeps between now → AppendsFront before now bytes
HasWritten-front before between now bytes rest some so_far kept =
    (so_far.done, (rest, some, so_far.is), Appends-kept before between now so_far.done so_far.appends kept)

-- ---- what was read

Consumes-of_kept : (before now : Option (List ℕ)) (bytes : List ℕ) → Keeps before (prepend_known bytes now) → Consumes before now bytes
Consumes-of_kept None now bytes kept = tt
Consumes-of_kept (Some all) None bytes kept = absurd kept
Consumes-of_kept (Some all) (Some rest) bytes kept = sym kept

-- what a piece that did not come leaves: no more is gone than what is held
pub LosesWithin-held : (before between now : Option (List ℕ)) (held bytes : List ℕ) (most : ℕ) → Keeps before (prepend_known held between) → Keeps (prepend_known held between) (prepend_known bytes now)
    → length bytes ≤ most → LosesWithin most before now
LosesWithin-held before between now held bytes most so_far kept within =
    (bytes, Consumes-of_kept before now bytes (Keeps-trans before (prepend_known held between) (prepend_known bytes now) so_far kept), within)
