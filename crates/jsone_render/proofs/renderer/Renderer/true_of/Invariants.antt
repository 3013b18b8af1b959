use Rattle.std.proofs.Common.{◌≡◌, [], ℕ, List}
use Rattle.std.specs.Vec.Iter.{into_iter_items}
use Rattle.jsone_eval.specs.Scopes.{scopes_of}
use Rattle.jsone_render.specs.Answers.{texts_in}
use Rattle.jsone_render.specs.Conditions.{AreTrue}
use Rattle.jsone_render.specs.Outcomes.{Outcome}
use Rattle.jsone_render.proofs.renderer.Renderer.true_of.Given as goal

-- what the conditions that are left come to, is what all come to
abbrev pub invariant-loop-condition : goal.invariant-loop-condition
invariant-loop-condition l = record {
  leads : (o : Outcome (List (List ℕ))) → AreTrue (texts_in l.found.items) (texts_in (into_iter_items l.condition-iterator)) (scopes_of l.self.context) l.self.cost.spent o
      → AreTrue [] (texts_in l.fn.conditions.items) (scopes_of l.initial.self.context) l.initial.self.cost.spent o;
  same : scopes_of l.self.context ≡ scopes_of l.initial.self.context;
}
