use Rattle.std.proofs.Common.{◌≡◌, [], ◌+◌, Some, ap, ◌∙◌, arith}
use Rattle.std.specs.Prelude.{Option}
use Rattle.std.specs.Vec.Iter.{into_iter_items}
use Rattle.std.proofs.lemmas.Grind.{common_steps}
use Rattle.farm_text.specs.Document.{Document, no_members}
use Rattle.farm_text.specs.Doc.{document, entries_of}
use Rattle.farm_text.specs.declared.doc.Doc.TheVariants.{Map as MapDoc}
use Rattle.farm_text.proofs.DocLemmas.{members_in, document-Map}
use Rattle.jsone_eval.specs.Scopes.{scopes_of}
use Rattle.jsone_render.specs.Answers.{found_in}
use Rattle.jsone_render.specs.Maps.{KeysRender}
use Rattle.jsone_render.specs.Outcomes.{Outcome, pay}
use Rattle.jsone_render.proofs.MapLemmas.{no_key_left}
use Rattle.jsone_render.proofs.OutcomeLemmas.{answer_through}
use Rattle.jsone_render.proofs.renderer.Renderer.keyed.Goals as goal

pub returns-clause-answers : goal.returns-clause-answers
returns-clause-answers c =
    let l = c.loop-key in
    let none : into_iter_items l.key-iterator ≡ [] = grind (arith, common_steps) in
    let scopes = scopes_of l.self.context in
    let n = l.self.cost.spent in
    let whole : Outcome (Option Document) → Type 0 = KeysRender c.args.count no_members (entries_of c.args.values.items) (scopes_of c.args.self.now.context) c.args.self.now.cost.spent in
    answer_through found_in (λ o. o ≡ pay n (1 + c.args.count) (Some (document (MapDoc l.map)))) whole c.pay.result c.pay.new.self.cost.spent
    (λ o h. no_key_left whole c.args.count (members_in l.map.entries) (entries_of (into_iter_items l.key-iterator)) scopes n (ap entries_of none) l.invariant.leads o (h ∙ ap (λ d. pay n (1 + c.args.count) (Some d)) (document-Map l.map)))
    (c.pay.ensures.answers (1 + c.args.count) (omega (arith, c.saturating_add.ensures)))
