use Rattle.std.proofs.Common.{◌≡◌, [], ◌∷◌, ◌++◌, List, Vec, Global, sym, ap, subst, ◌∙◌, arith, refl}
use Rattle.std.specs.Vec.Iter.{into_iter_items}
use Rattle.std.proofs.lemmas.Grind.{common_steps}
use Rattle.farm_text.specs.Document.{Document}
use Rattle.farm_text.specs.Doc.{document, documents}
use Rattle.jsone_eval.specs.Scopes.{scopes_of}
use Rattle.farm_text.specs.declared.doc.Doc.{Doc}
use Rattle.jsone_render.specs.Answers.{names_in, pairs_of}
use Rattle.jsone_render.specs.Bindings.{bound_to}
use Rattle.jsone_render.specs.Expressions.{Evaluated}
use Rattle.jsone_render.specs.Outcomes.{Outcome, given}
use Rattle.jsone_render.specs.Sorting.{KeysEvaluated}
use Rattle.jsone_render.proofs.SearchLemmas.{Turn, key_found, key_fault}
use Rattle.jsone_render.proofs.renderer.Renderer.sort_keys.Goals as goal

pub loop-item-preserved : goal.loop-item-preserved
loop-item-preserved c =
    let l = c.loop-item in
    let next : into_iter_items l.item-iterator ≡ c.in-Some.item ∷ into_iter_items c.next.new.self = grind (arith, common_steps) in
    let source = c.args.reading.now in
    let names = names_in c.args.names in
    let scopes = scopes_of l.self.context in
    let n = l.self.cost.spent in
    let m = c.key_for.new.self.cost.spent in
    let key = document c.in-Ok.key in
    let whole : Outcome (List Turn) → Type 0 = KeysEvaluated source names [] (documents c.args.items.items) (scopes_of c.args.self.now.context) c.args.self.now.cost.spent in
    let evaluated : Evaluated source (scopes ++ bound_to names (document c.in-Some.item ∷ [])) n (given key m) = c.in-Ok.ensures.answers in
    record {
      leads = key_found whole source names (pairs_of l.pairs.items) (pairs_of c.keep_pair.new.pairs.items) (documents (into_iter_items l.item-iterator)) (documents (into_iter_items c.next.new.self)) (document c.in-Some.item) key scopes (scopes_of c.key_for.new.self.context) n m
          (ap documents next) l.invariant.leads evaluated c.in_ok-keep_pair.ensures c.in-Ok.ensures.scopes;
      same = c.in-Ok.ensures.scopes ∙ l.invariant.same;
    }

pub returns-in-Err-clause-answers : goal.returns-in-Err-clause-answers
returns-in-Err-clause-answers c =
    let l = c.loop-item in
    let next : into_iter_items l.item-iterator ≡ c.in-Some.item ∷ into_iter_items c.next.new.self = grind (arith, common_steps) in
    let source = c.args.reading.now in
    let names = names_in c.args.names in
    let scopes = scopes_of l.self.context in
    let n = l.self.cost.spent in
    let m = c.key_for.new.self.cost.spent in
    let whole : Outcome (List Turn) → Type 0 = KeysEvaluated source names [] (documents c.args.items.items) (scopes_of c.args.self.now.context) c.args.self.now.cost.spent in
    key_fault (λ (v : Vec (Doc × Doc) Global). pairs_of v.items) whole source names (pairs_of l.pairs.items) (documents (into_iter_items l.item-iterator)) (documents (into_iter_items c.next.new.self)) (document c.in-Some.item) scopes n m m c.in-Err.fault
    (ap documents next) l.invariant.leads
    c.in-Err.ensures.answers

pub returns-clause-answers : goal.returns-clause-answers
returns-clause-answers c =
    let l = c.loop-item in
    let none : into_iter_items l.item-iterator ≡ [] = grind (arith, common_steps) in
    let source = c.args.reading.now in
    let names = names_in c.args.names in
    let scopes = scopes_of l.self.context in
    let done : Outcome (List Turn) = given (pairs_of l.pairs.items) l.self.cost.spent in
    l.invariant.leads done (subst (λ (ds : List Document). KeysEvaluated source names (pairs_of l.pairs.items) ds scopes l.self.cost.spent done) (sym (ap documents none)) refl)
