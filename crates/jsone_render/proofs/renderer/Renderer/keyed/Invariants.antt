use Rattle.std.proofs.Common.{◌≡◌}
use Rattle.std.specs.Vec.Iter.{into_iter_items}
use Rattle.farm_text.specs.Document.{Document, no_members}
use Rattle.farm_text.specs.Doc.{entries_of}
use Rattle.farm_text.proofs.DocLemmas.{members_in}
use Rattle.std.specs.Prelude.{Option}
use Rattle.jsone_eval.specs.Scopes.{scopes_of}
use Rattle.jsone_render.specs.Maps.{KeysRender}
use Rattle.jsone_render.specs.Outcomes.{Outcome}
use Rattle.jsone_render.proofs.renderer.Renderer.keyed.Given as goal

-- what the members that are left come to, is what all come to
abbrev pub invariant-loop-key : goal.invariant-loop-key
invariant-loop-key l = record {
  leads : (o : Outcome (Option Document)) → KeysRender l.count (members_in l.map.entries) (entries_of (into_iter_items l.key-iterator)) (scopes_of l.self.context) l.self.cost.spent o
      → KeysRender l.count no_members (entries_of l.fn.values.items) (scopes_of l.initial.self.context) l.initial.self.cost.spent o;
  same : scopes_of l.self.context ≡ scopes_of l.initial.self.context;
}
