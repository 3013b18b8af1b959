use Rattle.std.proofs.Common.{◌≡◌, [], ◌∷◌, ◌++◌, codes, arith}
use Rattle.std.proofs.lemmas.Grind.{common_steps}
use Rattle.std.proofs.lemmas.Result.{on_ok_weaker}
use Rattle.json.specs.Token.{key, begin_object}
use Rattle.farm_text.specs.Document.{text}
use Rattle.task_defs.specs.Rules.{metadata_doc}
use Rattle.task_defs.proofs.WritingLemmas.{one_written, spelled, metadata_written}
use Rattle.task_defs.proofs.full_text.write_metadata.Goals as goal

pub returns-clause-ok : goal.returns-clause-ok
returns-clause-ok c =
    let m = c.args.metadata.now in
    let named : c.key.new.self.tokens ≡ c.args.out.now.tokens ++ key (codes "metadata") ∷ [] = grind (arith, common_steps) in
    let begun : c.begin_object.new.self.tokens ≡ c.key.new.self.tokens ++ begin_object ∷ [] = grind (arith, common_steps) in
    on_ok_weaker c.end_object.result (λ e. one_written (codes "metadata") (metadata_doc m) _ _ _ named (metadata_written m _ _ _ _ _ _ _ begun
    (spelled (codes "description") text _ _ _ _ c.as_str.ensures c.in_ok-write_text.ensures.ok)
    (spelled (codes "name") text _ _ _ _ c.as_str-2.ensures c.in_ok-write_text-2.ensures.ok)
    (spelled (codes "owner") text _ _ _ _ c.as_str-3.ensures c.in_ok-write_text-3.ensures.ok)
    (spelled (codes "source") text _ _ _ _ c.as_str-4.ensures c.in_ok-write_text-4.ensures.ok) e)) c.end_object.ensures.ok
