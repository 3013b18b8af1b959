-- Going on along the nodes that are left.
use Rattle.std.proofs.Common.{◌≡◌, ℕ, zero, suc, ◌+◌, ◌<◌, ◌≤◌, List, [], ◌∷◌, length, drop, get_or, refl, sym, ap, subst, ◌∙◌, add-one, drop-cons}
use Rattle.std.proofs.lemmas.List.{drop_all}
use Rattle.farm_text.specs.Document.{Document}
use Rattle.jsone_expr.specs.declared.nodes.Node.{Node}
use Rattle.jsone_expr.specs.Trees.{Tree}
use Rattle.jsone_expr.specs.Postfix.{postfix}
use Rattle.jsone_eval.specs.Outcomes.{Outcome, given}
use Rattle.jsone_eval.specs.Values.{Setting, IsOutcome}
use Rattle.jsone_eval.specs.Machine.{Part, Runs, top}
use Rattle.jsone_eval.proofs.Walks.{whole_walk}

-- the node at a place, and those behind it
pub one_node : (s : Setting) (nodes : List Node) (i : ℕ) (x d : Node) (vs : List Document) (gs : List Part) (k n : ℕ) (o : Outcome) → i < length nodes → x ≡ get_or nodes i d → Runs s (x ∷ drop (i + 1) nodes) vs gs k n o → Runs s (drop i nodes) vs gs k n o
one_node s nodes i x d vs gs k n o less is h =
    let split : drop i nodes ≡ x ∷ drop (i + 1) nodes = drop-cons nodes i d less ∙ ap (λ y. y ∷ drop (suc i) nodes) (sym is) ∙ ap (λ j. x ∷ drop j nodes) (sym (add-one i)) in
    subst (λ l. Runs s l vs gs k n o) (sym split) h

-- what all nodes come to is the outcome of the tree
pub outcome_of : (s : Setting) (t : Tree) (nodes left : List Node) (vs : List Document) (gs : List Part) (k n before : ℕ) → nodes ≡ postfix t → ((o : Outcome) → Runs s left vs gs k n o → Runs s nodes [] [] zero before o) → (o : Outcome) → Runs s left vs gs k n o → IsOutcome s t before o
outcome_of s t nodes left vs gs k n before is whole o h = whole_walk s t nodes before o is (whole o h)

-- no node is left
pub all_nodes : (s : Setting) (nodes : List Node) (i : ℕ) (vs : List Document) (gs : List Part) (k n : ℕ) → length nodes ≤ i → Runs s (drop i nodes) vs gs k n (given (top vs) n)
all_nodes s nodes i vs gs k n past = subst (λ l. Runs s l vs gs k n (given (top vs) n)) (sym (drop_all i nodes past)) refl

-- before the first node
pub at_first : (s : Setting) (nodes : List Node) (vs : List Document) (gs : List Part) (k n before : ℕ) (o : Outcome) → vs ≡ [] → gs ≡ [] → k ≡ zero → n ≡ before → Runs s nodes vs gs k n o → Runs s nodes [] [] zero before o
at_first s nodes vs gs k n before o e f g h r =
    subst (λ x. Runs s nodes x [] zero before o) e (subst (λ x. Runs s nodes vs x zero before o) f (subst (λ x. Runs s nodes vs gs x before o) g (subst (λ x. Runs s nodes vs gs k x o) h r)))

pub last_answer : (P : Outcome → Type 0) (d e : Document) (m n : ℕ) → d ≡ e → m ≡ n → P (given e n) → P (given d m)
last_answer P d e m n f h p = subst (λ x. P (given x m)) (sym f) (subst (λ x. P (given e x)) (sym h) p)
