use Rattle.std.proofs.Common.{◌≡◌, [], ◌∷◌, ◌++◌, arith}
use Rattle.std.proofs.lemmas.Grind.{common_steps}
use Rattle.std.proofs.lemmas.Result.{on_ok_weaker}
use Rattle.json.specs.Token.{key}
use Rattle.farm_text.specs.Document.{text}
use Rattle.task_defs.proofs.WritingLemmas.{one_written, text_written}
use Rattle.task_defs.proofs.full_text.write_moment.Goals as goal

pub returns-clause-ok : goal.returns-clause-ok
returns-clause-ok c =
    let named : c.key.new.self.tokens ≡ c.args.out.now.tokens ++ key c.args.key.now ∷ [] = grind (arith, common_steps) in
    on_ok_weaker c.write_to.result (λ h. record {
      said = h.0;
      is = h.1;
      are = one_written c.args.key.now (text h.0) _ _ _ named (text_written h.0 _ _ h.2);
    }) c.write_to.ensures.ok
