-- Reading a disk and mending it.
use Rattle.std.proofs.Common.{◌≡◌, ℕ, ◌+◌, List, ◌++◌, take, drop, refl, sym, ◌∙◌, ap, arith, take-append-drop}
use Rattle.std.proofs.lemmas.List.{take-take, drop-take}
use Rattle.disk_base.specs.Contents.{Contents}
use Rattle.disk_base.proofs.StopsLemmas.{StopsLeave-then, StopsLeave-same}
use Rattle.disk_journal.specs.Opening.{IsStill}

pub IsStill-same : (disk : Contents) → IsStill disk disk
IsStill-same disk = record { same = refl; stops = StopsLeave-same disk _ }

pub IsStill-then : (a b c : Contents) → IsStill a b → IsStill b c → IsStill a c
IsStill-then a b c first second = record { same = second.same ∙ first.same; stops = StopsLeave-then a b c _ first.stops second.stops }

take-add : (v n : ℕ) (xs : List ℕ) → take (v + n) xs ≡ take v xs ++ take n (drop v xs)
take-add v n xs = sym (take-append-drop v (take (v + n) xs)) ∙ ap (λ (l : List ℕ). l ++ drop v (take (v + n) xs)) (take-take v (v + n) xs (omega arith)) ∙ ap (λ (l : List ℕ). take v xs ++ l) (drop-take v n xs)

pub front_more : (file bytes more new : List ℕ) (v u n w : ℕ) → bytes ≡ take v file → u ≡ v → more ≡ take n (drop u file) → new ≡ bytes ++ more → w ≡ v + n → new ≡ take w file
front_more file bytes more new v u n w front same given grown long =
    grown ∙ ap (λ (l : List ℕ). l ++ more) front ∙ ap (λ (l : List ℕ). take v file ++ l) (given ∙ ap (λ m. take n (drop m file)) same) ∙ sym (take-add v n file) ∙ ap (λ m. take m file) (sym long)
