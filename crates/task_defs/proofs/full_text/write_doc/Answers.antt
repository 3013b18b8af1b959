use Rattle.std.proofs.Common.{◌≡◌, [], ◌∷◌, ◌++◌, arith}
use Rattle.std.proofs.lemmas.Grind.{common_steps}
use Rattle.json.specs.Token.{key}
use Rattle.farm_text.specs.Doc.{document}
use Rattle.task_defs.proofs.WritingLemmas.{doc_written}
use Rattle.task_defs.proofs.full_text.write_doc.Goals as goal

pub returns-clause-ok : goal.returns-clause-ok
returns-clause-ok c =
    let named : c.key.new.self.tokens ≡ c.args.out.now.tokens ++ key c.args.key.now ∷ [] = grind (arith, common_steps) in
    doc_written c.args.key.now (document c.args.doc.now) _ _ _ c.write_to.result named c.write_to.ensures.ok c.write_to.ensures.reads_back c.write_to.ensures.whole
