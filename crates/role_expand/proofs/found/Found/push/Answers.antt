use Rattle.std.proofs.Common.{◌≡◌, ℕ, ◌-◌, ◌++◌, ◌∷◌, [], List, length, take, ap, ◌∙◌, arith}
use Rattle.std.proofs.Math.Seq.{take-append_seam}
use Rattle.std.specs.Vec.{vec_len}
use Rattle.role_expand.proofs.FoundLemmas.{HasSameScopes-push}
use Rattle.role_expand.proofs.found.Found.push.Goals as goal

take_back : (xs : List (List ℕ)) (x : List ℕ) (n : ℕ) → n ≡ length xs → take n (xs ++ x ∷ []) ≡ xs
take_back xs x n e = ap (λ (k : ℕ). take k (xs ++ x ∷ [])) e ∙ take-append_seam xs (x ∷ [])

pub invariant_of-self-in-Err : goal.invariant_of-self-in-Err
invariant_of-self-in-Err c =
    let list : List (List ℕ) = c.self.inside.list.items in
    let pushed : c.push.new.self.items ≡ list ++ c.args.scope ∷ [] = c.in_ok-push.ensures.items in
    let back : c.pop.new.self.items ≡ list =
    c.pop.ensures.rest ∙ ap (λ (xs : List (List ℕ)). take (vec_len c.push.new.self - 1) xs) pushed ∙ take_back list c.args.scope (vec_len c.push.new.self - 1) (omega (arith, c.in_ok-push.ensures.len, c.self.inside.list.ok.0)) in
    λ s. rw (back, c.in-Err.ensures.err) (c.self.invariant s)

pub invariant_of-self-in-Ok : goal.invariant_of-self-in-Ok
invariant_of-self-in-Ok c =
    let list : List (List ℕ) = c.self.inside.list.items in
    let pushed : c.push.new.self.items ≡ list ++ c.args.scope ∷ [] = c.in_ok-push.ensures.items in
    let copy : c.in_ok-copy.copy ≡ c.args.scope = c.in_ok-copy.ensures.cases in
    rw pushed (HasSameScopes-push c.self.inside.set c.insert.new.self list c.args.scope c.self.invariant (rw copy at c.in-Ok.ensures.updates.0))
