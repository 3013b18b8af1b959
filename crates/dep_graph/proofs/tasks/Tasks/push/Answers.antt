use Rattle.std.proofs.Common.{◌≡◌, ◌∙◌, ◌++◌, ◌∷◌, [], List, ℕ, length, sym, subst, rules}
use Rattle.std.proofs.lemmas.List.{length-map, map-append}
use Rattle.dep_graph.specs.Nodes.{Task, rows_of}
use Rattle.dep_graph.specs.Tables.{KnowsPlaces}
use Rattle.dep_graph.proofs.PlaceLemmas.{knows-more}
use Rattle.dep_graph.proofs.tasks.Tasks.push.Goals as goal

pub invariant_of-self : goal.invariant_of-self
invariant_of-self c =
    let tasks = c.self.inside.nodes.items in
    let node = c.args.node in
    let pushed : c.push.new.self.items ≡ tasks ++ node ∷ [] = search rules in
    let len : c.len-place.result ≡ length tasks = search rules in
    let row : c.row.result ≡ node.row = c.row.ensures in
    let rows : rows_of (tasks ++ node ∷ []) ≡ rows_of tasks ++ node.row ∷ [] = map-append (λ (t : Task). t.row) tasks (node ∷ []) in
    let long : c.len-place.result ≡ length (rows_of tasks) = len ∙ sym (length-map tasks (λ (t : Task). t.row)) in
    let knows : KnowsPlaces (rows_of tasks ++ c.row.result ∷ []) c.insert.new.self = knows-more (rows_of tasks) c.row.result c.len-place.result c.self.inside.places c.insert.new.self c.self.invariant long c.in-Ok.ensures.updates.0 in
    subst (λ (l : List Task). KnowsPlaces (rows_of l) c.insert.new.self) (sym pushed)
    (subst (λ (l : List ℕ). KnowsPlaces l c.insert.new.self) (sym rows) (subst (λ (r : ℕ). KnowsPlaces (rows_of tasks ++ r ∷ []) c.insert.new.self) row knows))
