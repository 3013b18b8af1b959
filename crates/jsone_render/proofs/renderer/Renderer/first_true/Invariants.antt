use Rattle.std.proofs.Common.{◌≡◌}
use Rattle.std.specs.Prelude.{Option}
use Rattle.std.specs.Vec.Iter.{into_iter_items}
use Rattle.farm_text.specs.Document.{Document}
use Rattle.jsone_eval.specs.Scopes.{scopes_of}
use Rattle.jsone_render.specs.Answers.{names_in, pairs_of}
use Rattle.jsone_render.specs.Bindings.{FirstTrue}
use Rattle.jsone_render.specs.Outcomes.{Outcome}
use Rattle.jsone_render.proofs.renderer.Renderer.first_true.Given as goal

-- what the turns that are left come to, is what all come to
abbrev pub invariant-loop-item : goal.invariant-loop-item
invariant-loop-item l = record {
  leads : (o : Outcome (Option Document)) → FirstTrue l.reading (names_in l.names) (pairs_of (into_iter_items l.item-iterator)) (scopes_of l.self.context) l.self.cost.spent o
      → FirstTrue l.reading (names_in l.names) (pairs_of l.fn.turns.items) (scopes_of l.initial.self.context) l.initial.self.cost.spent o;
  same : scopes_of l.self.context ≡ scopes_of l.initial.self.context;
}
