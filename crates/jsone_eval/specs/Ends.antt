-- Where right sides end that may be passed over.
use Rattle.std.specs.Prelude.{◌≡◌, ◌≤◌, ◌+◌, ℕ, zero, suc, List, [], ◌∷◌, length, drop}
use Rattle.jsone_expr.specs.declared.nodes.Node.{Node}
use Rattle.jsone_expr.specs.declared.nodes.Node.TheVariants.{Left as left_node, Binary as binary_node}
use Rattle.jsone_eval.specs.Machine.{passed}

-- the nodes behind so many right sides
abbrev pub beyond : ℕ → List Node → List Node
beyond zero xs = xs
beyond (suc k) [] = []
beyond (suc k) (x ∷ xs) = beyond (passed x (suc k)) xs

-- of each node the place, among all nodes, behind the right side that begins behind it; it lies behind the node
abbrev pub EndsOf : List Node → List Node → List ℕ → Type 0
EndsOf nodes [] [] = Unit {0}
EndsOf nodes [] (e ∷ es) = ⊥
EndsOf nodes (x ∷ xs) [] = ⊥
EndsOf nodes (x ∷ xs) (e ∷ es) = (drop e nodes ≡ beyond 1 xs) × (length nodes ≤ e + length xs) × EndsOf nodes xs es

abbrev pub AreEnds : List Node → List ℕ → Type 0
AreEnds nodes ends = EndsOf nodes nodes ends

-- for private clauses: the places behind the right sides that are not begun yet, walking from the end, the innermost first
abbrev pub met : Node → ℕ → List ℕ → List ℕ
met (left_node g) place [] = []
met (left_node g) place (e ∷ es) = es
met (binary_node g) place es = place ∷ es
met _ place es = es

-- one of them; where there are no more, the end of all nodes
abbrev pub place_in : ℕ → List ℕ → ℕ → ℕ
place_in count [] k = count
place_in count (e ∷ es) zero = e
place_in count (e ∷ es) (suc k) = place_in count es k
