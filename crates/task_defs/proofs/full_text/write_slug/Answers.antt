use Rattle.std.proofs.Common.{◌≡◌, [], ◌∷◌, ◌++◌, arith}
use Rattle.std.proofs.lemmas.Grind.{common_steps}
use Rattle.std.proofs.lemmas.Result.{on_ok_weaker}
use Rattle.json.specs.Token.{key}
use Rattle.farm_text.specs.Slug.{slug_text}
use Rattle.farm_text.specs.Document.{text}
use Rattle.task_defs.proofs.WritingLemmas.{one_written, text_written}
use Rattle.task_defs.proofs.full_text.write_slug.Goals as goal

pub returns-clause-ok : goal.returns-clause-ok
returns-clause-ok c =
    let named : c.key.new.self.tokens ≡ c.args.out.now.tokens ++ key c.args.key.now ∷ [] = grind (arith, common_steps) in
    let said = slug_text c.args.id in
    on_ok_weaker c.write_to.result (λ e. one_written c.args.key.now (text said) _ _ _ named (text_written said _ _ e)) c.write_to.ensures.ok
