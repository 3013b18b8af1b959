-- What cannot but be there: that nothing is of a kind is refuted.
use Rattle.std.proofs.Common.{◌≡◌, Bool, true, false, refl}
use Rattle.std.specs.Bool.{MatchBool}

-- it is not so that nothing is of this kind
abbrev pub Exists : {A : Type 0} → (A → Type 0) → Type 0
Exists {A} P = ¬ ¬ ((a : A) × P a)

-- this one is
pub here : {A : Type 0} (P : A → Type 0) (a : A) → P a → Exists P
here P a is none = none (a, is)

pub some_same : {A : Type 0} (x : A) → Exists (λ a. a ≡ x)
some_same x none = none (x, refl)

-- what follows of something that there cannot but be
pub follow : {A C : Type 0} → ¬ ¬ A → (A → ¬ ¬ C) → ¬ ¬ C
follow some next none = some (λ a. next a none)

-- a claim holds or it does not
pub split : {A C : Type 0} → (A → ¬ ¬ C) → ((¬ A) → ¬ ¬ C) → ¬ ¬ C
split so not_so none = not_so (λ a. so a none) none

pub some_branch : {A : Type 0} (b : Bool) (P Q : A → Type 0) → Exists P → Exists Q → Exists (λ a. MatchBool b (P a) (Q a))
some_branch true P Q some other = some
some_branch false P Q some other = other
