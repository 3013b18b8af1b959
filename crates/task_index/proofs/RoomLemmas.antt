-- For how many tasks there is room.
use Rattle.std.proofs.Common.{◌≡◌, ℕ, ◌≤◌, ◌<◌, ◌+◌, min, max, cond, refl, arith, nat_le}
use Rattle.std.proofs.lemmas.Bool.{leb-true, leb-false, le-leb, lt-leb, cond_both}
use Rattle.task_index.specs.Plans.{room_for, HasRoom}

pub room-0 : room_for 0 ≡ 0
unfolding room_for
room-0 = refl

pub room-8 : (n : ℕ) → 0 < n → n ≤ 8 → 8 ≡ room_for n
unfolding room_for
room-8 n more le = rw (lt-leb n 0 (omega arith), le-leb n 8 (omega arith)) refl

pub room-64 : (n : ℕ) → 8 < n → n ≤ 64 → 64 ≡ room_for n
unfolding room_for
room-64 n more le = rw (lt-leb n 0 (omega arith), lt-leb n 8 (omega arith), le-leb n 64 (omega arith)) refl

pub room-512 : (n : ℕ) → 64 < n → n ≤ 512 → 512 ≡ room_for n
unfolding room_for
room-512 n more le = rw (lt-leb n 0 (omega arith), lt-leb n 8 (omega arith), lt-leb n 64 (omega arith), le-leb n 512 (omega arith)) refl

pub room-4096 : (n : ℕ) → 512 < n → n ≤ 4096 → 4096 ≡ room_for n
unfolding room_for
room-4096 n more le = rw (lt-leb n 0 (omega arith), lt-leb n 8 (omega arith), lt-leb n 64 (omega arith), lt-leb n 512 (omega arith), le-leb n 4096 (omega arith)) refl

pub room-32768 : (n : ℕ) → 4096 < n → n ≤ 32768 → 32768 ≡ room_for n
unfolding room_for
room-32768 n more le = rw (lt-leb n 0 (omega arith), lt-leb n 8 (omega arith), lt-leb n 64 (omega arith), lt-leb n 512 (omega arith), lt-leb n 4096 (omega arith), le-leb n 32768 (omega arith)) refl

pub room-262144 : (n : ℕ) → 32768 < n → n ≤ 262144 → 262144 ≡ room_for n
unfolding room_for
room-262144 n more le = rw (lt-leb n 0 (omega arith), lt-leb n 8 (omega arith), lt-leb n 64 (omega arith), lt-leb n 512 (omega arith), lt-leb n 4096 (omega arith), lt-leb n 32768 (omega arith), le-leb n 262144 (omega arith)) refl

pub room-most : (n : ℕ) → 262144 < n → 1048576 ≡ room_for n
unfolding room_for
room-most n more = rw (lt-leb n 0 (omega arith), lt-leb n 8 (omega arith), lt-leb n 64 (omega arith), lt-leb n 512 (omega arith), lt-leb n 4096 (omega arith), lt-leb n 32768 (omega arith), lt-leb n 262144 (omega arith)) refl

-- the test of a step, and what follows from it
step : (n size rest : ℕ) → (size < n → n ≤ rest) → n ≤ cond (nat_le n size) size rest
step n size rest more = cond_both (nat_le n size) size rest (λ room. n ≤ room) (λ e. leb-true n size e) (λ e. more (leb-false n size e))

-- there is room for as many as stand
pub room-enough : (n : ℕ) → n ≤ 1048576 → n ≤ room_for n
unfolding room_for
room-enough n le = step n 0 _ (λ a. step n 8 _ (λ h. step n 64 _ (λ b. step n 512 _ (λ d. step n 4096 _ (λ e. step n 32768 _ (λ f. step n 262144 _ (λ g. le)))))))

-- a list in which there is room enough is not full, or what is brought has more room
pub more-fits : (n had brought : ℕ) → n ≤ 1_000_000 → room_for n ≤ had → room_for (n + 1) ≤ max (room_for n) brought → n < max had brought
more-fits n had brought few kept room = let enough = room-enough (n + 1) (omega arith) in omega arith

-- one more finds room in the lesser of two lists where it does in both
pub least-room : (n a b : ℕ) → HasRoom n a → HasRoom n b → HasRoom n (min a b)
least-room n a b left right = omega arith

-- and in each that is no less
pub greater-room : (n a b : ℕ) → HasRoom n a → a ≤ b → HasRoom n b
greater-room n a b has le = omega arith

-- one more finds room, in the tables or in what a plan brings
pub more-room : (n had brought after room : ℕ) → room_for (n + 1) ≤ max (room_for n) room → room ≡ brought → room_for n ≤ had → max had brought ≤ after → room_for (n + 1) ≤ after
more-room n had brought after room planned is kept made = omega arith
