use Rattle.std.proofs.Common.{◌≡◌, ℕ, ◌+◌, Bool, true, false, List, [], ◌∷◌, ◌++◌, map, refl, sym, ap, ◌∙◌, arith}
use Rattle.std.specs.List.{prefix_len, suffix_len}
use Rattle.std.proofs.lemmas.Iterator.{YieldsList-from_chars}
use Rattle.std.proofs.lemmas.Iterator.Consumers.{YieldsList-end}
use Rattle.std.proofs.lemmas.List.{reverse-append, length_push}
use Rattle.jsone_values.specs.Letters.{is_space}
use Rattle.jsone_values.proofs.letters.spaces_behind.Goals as goal

same : (xs : List ℕ) → xs ≡ map (λ x. x) xs
same [] = refl
same (x ∷ xs) = ap (λ l. x ∷ l) (same xs)

-- one more at the end
one_more : (p : ℕ → Bool) (xs : List ℕ) (x : ℕ) → p x ≡ true → suffix_len p (xs ++ x ∷ []) ≡ suffix_len p xs + 1
one_more p xs x e = ap (prefix_len p) (reverse-append xs (x ∷ [])) ∙ rw e (omega arith)

none_more : (p : ℕ → Bool) (xs : List ℕ) (x : ℕ) → p x ≡ false → suffix_len p (xs ++ x ∷ []) ≡ 0
none_more p xs x e = ap (prefix_len p) (reverse-append xs (x ∷ [])) ∙ rw e refl

pub loop-character-preserved-then-is_space : goal.loop-character-preserved-then-is_space
loop-character-preserved-then-is_space c =
    let l = c.loop-character in
    let more = one_more is_space l.yielded c.in-Some.character (sym c.is_space.ensures ∙ c.if-is_space.true) in
    record { counted = ap (λ n. n + 1) l.invariant.counted ∙ sym more; within = omega (arith, length_push l.yielded c.in-Some.character, l.invariant.within) }

pub loop-character-preserved : goal.loop-character-preserved
loop-character-preserved c =
    let none = none_more is_space c.loop-character.yielded c.in-Some.character (sym c.is_space.ensures ∙ c.if-is_space.false) in
    record { counted = sym none; within = omega arith }

pub returns : goal.returns
returns c =
    let all = YieldsList-end (YieldsList-from_chars c.args.text.now c.utf8.text cc) c.loop-character.yielded _ c.loop-character.yielded_by _ _ c.in-None.is c.next.ensures.steps in
    c.loop-character.invariant.counted ∙ ap (suffix_len is_space) (same c.loop-character.yielded ∙ all.0)
