-- The last line of a text is one.
use Rattle.std.proofs.Common.{◌≡◌, ℕ, List, [], ◌∷◌, ◌++◌, refl, sym, ◌∙◌, subst, arith}
use Rattle.std.specs.List.{Contains}
use Rattle.std.proofs.lemmas.List.Elements.{Contains-append_right}
use Rattle.farm_bulk.specs.Replies.{IsLastLine}

tails : (a b : ℕ) (xs ys : List ℕ) → a ∷ xs ≡ b ∷ ys → xs ≡ ys
tails a b xs ys e = cc

-- a line feed stands where it stands
feed_in : (front line : List ℕ) → Contains (front ++ 10 ∷ line) 10
feed_in front line = Contains-append_right front (10 ∷ line) 10 (0, omega arith, refl)

lines_same : (text f g l m : List ℕ) → text ≡ f ++ 10 ∷ l → text ≡ g ++ 10 ∷ m → (Contains l 10 → ⊥) → (Contains m 10 → ⊥) → l ≡ m
lines_same text [] [] l m x y last last' = tails 10 10 l m (sym x ∙ y)
lines_same text [] (c ∷ g) l m x y last last' = absurd (last (subst (λ t. Contains t 10) (sym (tails 10 c l (g ++ 10 ∷ m) (sym x ∙ y))) (feed_in g m)))
lines_same text (c ∷ f) [] l m x y last last' = absurd (last' (subst (λ t. Contains t 10) (tails c 10 (f ++ 10 ∷ l) m (sym x ∙ y)) (feed_in f l)))
lines_same text (c ∷ f) (d ∷ g) l m x y last last' = lines_same (f ++ 10 ∷ l) f g l m refl (tails c d (f ++ 10 ∷ l) (g ++ 10 ∷ m) (sym x ∙ y)) last last'

pub IsLastLine-one : (text line other : List ℕ) → IsLastLine text line → IsLastLine text other → line ≡ other
IsLastLine-one text line other x y = lines_same text x.front y.front line other x.splits y.splits x.last y.last
