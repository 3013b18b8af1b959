use Rattle.std.proofs.Common.{◌≡◌, [], ◌∷◌, ◌++◌, map, codes, ap, ◌∙◌, arith}
use Rattle.std.proofs.lemmas.Grind.{common_steps}
use Rattle.std.proofs.lemmas.List.{take_all}
use Rattle.std.proofs.lemmas.Result.{on_ok_weaker}
use Rattle.json.specs.Token.{key, string, begin_array}
use Rattle.task_defs.specs.Definitions.{text_list}
use Rattle.task_defs.proofs.WritingLemmas.{one_written, texts_written}
use Rattle.task_defs.proofs.full_text.write_routes.Goals as goal

pub returns-clause-ok : goal.returns-clause-ok
returns-clause-ok c =
    let named : c.key.new.self.tokens ≡ c.args.out.now.tokens ++ key (codes "routes") ∷ [] = grind (arith, common_steps) in
    let begun : c.begin_array.new.self.tokens ≡ c.key.new.self.tokens ++ begin_array ∷ [] = grind (arith, common_steps) in
    let all = c.args.routes.now in
    let full : c.loop-route.out.tokens ≡ c.begin_array.new.self.tokens ++ map string all =
    c.loop-route.invariant.1 ∙ ap (λ xs. c.begin_array.new.self.tokens ++ map string xs) (take_all c.loop-route.route-index c.args.routes.now (omega (arith, c.loop-route-test.false))) in
    on_ok_weaker c.end_array.result (λ e. one_written (codes "routes") (text_list all) _ _ _ named (texts_written all _ _ _ _ begun full e)) c.end_array.ensures.ok
