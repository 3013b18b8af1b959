use Rattle.std.proofs.Common.{◌≡◌, ℕ, List, length, string_bytes}
use denote.Shadow.{shadow}
use denote.Text.{Utf8}
use Rattle.jsone_eval.specs.Scopes.{scopes_of}
use Rattle.jsone_render.specs.Outcomes.{Outcome}
use Rattle.jsone_render.specs.Texts.{Part, AreParts, PartsRender, Interpolated}
use Rattle.jsone_render.proofs.renderer.Renderer.interpolate.Given as goal

-- what the parts that are left come to, is what the whole text comes to
abbrev pub invariant-loop-front : goal.invariant-loop-front
invariant-loop-front l = record {
  leads : (parts : List Part) (o : Outcome (List ℕ)) → AreParts l.rest parts → PartsRender (string_bytes l.out) parts (scopes_of l.self.context) l.self.cost.spent o
      → Interpolated l.text (scopes_of l.initial.self.context) l.initial.self.cost.spent o;
  same : scopes_of l.self.context ≡ scopes_of l.initial.self.context;
  utf8 : shadow (Utf8 l.rest);
}

abbrev pub decreases-loop-front : goal.decreases-loop-front
decreases-loop-front l = length l.rest
