-- What the recursion goes down by.
use Rattle.std.proofs.Common.{◌≡◌, ℕ, suc, zero, ◌+◌, ◌<◌, ◌≤◌, List, [], ◌∷◌, length, get_or, Option, Some, Ordering, Less, Equal, Greater, nat_cmp, ap, arith}
use Rattle.std.specs.Cmp.Lexicographic.{slice_cmp}
use Rattle.std.specs.Ordering.{match_ordering}
use Rattle.farm_text.specs.Document.{Document, items_of, Members, no_members, member, member_at}
use Rattle.farm_text.specs.Doc.{document, documents}
use Rattle.farm_text.specs.declared.doc.Doc.{Doc}
use Rattle.jsone_values.specs.Weights.{weight, items_weight, members_weight}
use Rattle.jsone_render.proofs.TemplateLemmas.{some_is}

at_least : (c : Ordering) (d e : Document) (rest : Option Document) (most : ℕ) → match_ordering c rest (Some e) rest ≡ Some d → (rest ≡ Some d → weight d ≤ most) → weight d ≤ weight e + most
at_least Less d e rest most h there = let t = there h in omega arith
at_least Equal d e rest most h there = let t = ap weight (some_is e d h) in omega arith
at_least Greater d e rest most h there = let t = there h in omega arith

-- what stands at a key weighs no more than all members
pub member_weight : (key : List ℕ) (ms : Members) (d : Document) → member_at key ms ≡ Some d → weight d ≤ members_weight ms
member_weight key no_members d h = absurd (cc)
member_weight key (member k e ms) d h =
    let t : weight d ≤ weight e + members_weight ms = at_least (slice_cmp nat_cmp key k) d e (member_at key ms) (members_weight ms) h (λ more. member_weight key ms d more) in
    omega arith

-- and an item no more than all items
pub item_weight : (xs : List Doc) (i : ℕ) (x : Doc) → i < length xs → x ≡ get_or xs i x → weight (document x) ≤ items_weight (items_of (documents xs))
item_weight [] i x h e = absurd (omega arith)
item_weight (y ∷ ys) zero x h e = let t : weight (document x) ≡ weight (document y) = ap (λ d. weight (document d)) e in omega arith
item_weight (y ∷ ys) (suc i) x h e = let t : weight (document x) ≤ items_weight (items_of (documents ys)) = item_weight ys i x (omega arith) e in omega arith
