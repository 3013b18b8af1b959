use Rattle.std.proofs.Common.{◌≡◌, [], ◌∷◌, ◌++◌, ◌∙◌}
use Rattle.farm_text.specs.Doc.{document}
use Rattle.jsone_eval.specs.Scopes.{scopes_of}
use Rattle.jsone_render.specs.Answers.{names_in}
use Rattle.jsone_render.specs.Bindings.{bound_to}
use Rattle.jsone_render.proofs.SearchLemmas.{tested_so, tested_not}
use Rattle.jsone_render.proofs.renderer.Renderer.is_true_where.Goals as goal

pub returns-in-Ok-clause-answers : goal.returns-in-Ok-clause-answers
returns-in-Ok-clause-answers c =
    let source = c.args.reading.now in
    let before = c.args.self.now in
    let scopes = scopes_of before.context ++ bound_to (names_in c.args.names) (document c.args.first ∷ document c.args.second ∷ []) in
    let bound = c.bind_two.new.self in
    let cost : bound.cost.spent ≡ before.cost.spent = cc (c.bind_two.ensures.cost) in
    let left : c.release.new.self.cost.spent ≡ c.evaluate_reading-found.new.self.cost.spent = cc (c.release.ensures.cost) in
    tested_so source scopes (scopes_of bound.context) before.cost.spent bound.cost.spent c.evaluate_reading-found.new.self.cost.spent c.release.new.self.cost.spent (document c.in-Ok.value) c.is_true-holds.result
    c.in_ok-bind_two.ensures.scopes cost left c.is_true-holds.ensures c.in-Ok.ensures.answers

pub returns-in-Ok-clause-scopes : goal.returns-in-Ok-clause-scopes
returns-in-Ok-clause-scopes c =
    c.release.ensures.scopes (scopes_of c.args.self.now.context) (bound_to (names_in c.args.names) (document c.args.first ∷ document c.args.second ∷ []))
    (c.evaluate_reading-found.ensures.scopes ∙ c.in_ok-bind_two.ensures.scopes) c.height-height.ensures

pub returns-in-Err-clause-answers : goal.returns-in-Err-clause-answers
returns-in-Err-clause-answers c =
    let source = c.args.reading.now in
    let before = c.args.self.now in
    let scopes = scopes_of before.context ++ bound_to (names_in c.args.names) (document c.args.first ∷ document c.args.second ∷ []) in
    let bound = c.bind_two.new.self in
    let cost : bound.cost.spent ≡ before.cost.spent = cc (c.bind_two.ensures.cost) in
    tested_not source scopes (scopes_of bound.context) before.cost.spent bound.cost.spent c.evaluate_reading-found.new.self.cost.spent c.release.new.self.cost.spent c.in-Err.fault
    c.in_ok-bind_two.ensures.scopes cost c.in-Err.ensures.answers
