use Rattle.std.proofs.Common.{◌≡◌, [], ◌∷◌, ◌++◌, arith}
use Rattle.std.proofs.lemmas.Grind.{common_steps}
use Rattle.std.proofs.lemmas.Result.{on_ok_weaker}
use Rattle.json.specs.Token.{key}
use Rattle.farm_text.specs.Document.{text}
use Rattle.task_defs.proofs.WritingLemmas.{one_written, text_written}
use Rattle.task_defs.proofs.full_text.write_text.Goals as goal

pub returns-clause-ok : goal.returns-clause-ok
returns-clause-ok c =
    let named : c.key.new.self.tokens ≡ c.args.out.now.tokens ++ key c.args.key.now ∷ [] = grind (arith, common_steps) in
    on_ok_weaker c.string.result (λ e. one_written c.args.key.now (text c.args.text.now) _ _ _ named (text_written c.args.text.now _ _ e)) c.string.ensures.ok
