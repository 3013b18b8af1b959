-- How what stops may leave goes on over calls.
use Rattle.std.proofs.Common.{ℕ, ◌≤◌, ◌⊎◌, inl, inr, List, arith}
use Rattle.disk_base.specs.Contents.{Contents, LeftNow, StopsLeave, StopsAddNothing}

-- a stop now leaves what a stop then might have left, or what has P
pub StopsLeave-now : (old new : Contents) (P : List ℕ → Type 0) → StopsLeave old new P → (image : List ℕ) → LeftNow new image → LeftNow old image ⊎ P image
StopsLeave-now old new P stops image left = stops.adds old.moment image (omega arith) (new.earlier old.moment new.moment image stops.later left)

pub StopsLeave-weaker : (old new : Contents) (P Q : List ℕ → Type 0) → ((image : List ℕ) → P image → Q image) → StopsLeave old new P → StopsLeave old new Q
StopsLeave-weaker old new P Q weaker stops = record {
  later = stops.later;
  adds = λ t image le left. elim (stops.adds t image le left) [ inl past ↦ inl past | inr p ↦ inr (weaker image p) ];
  keeps = stops.keeps;
}

-- one call after another
pub StopsLeave-then : (a b c : Contents) (P : List ℕ → Type 0) → StopsLeave a b P → StopsLeave b c P → StopsLeave a c P
StopsLeave-then a b c P first second =
    let first_later : a.moment ≤ b.moment = first.later in
    let second_later : b.moment ≤ c.moment = second.later in
    record {
      later = omega arith;
      adds = λ t image le left. elim (second.adds t image (omega arith) left) [ inl past ↦ first.adds t image le past | inr p ↦ inr p ];
      keeps = λ t image le left. second.keeps t image (omega arith) (first.keeps t image le left);
    }

pub StopsLeave-nothing : (old new : Contents) (P : List ℕ → Type 0) → StopsAddNothing old new → StopsLeave old new P
StopsLeave-nothing old new P stops = StopsLeave-weaker old new (λ _. ⊥) P (λ image none. absurd none) stops

pub StopsLeave-same : (disk : Contents) (P : List ℕ → Type 0) → StopsLeave disk disk P
StopsLeave-same disk P = record { later = omega arith; adds = λ t image le left. inl left; keeps = λ t image le left. left }
