use Rattle.std.proofs.Common.{◌≡◌, [], ◌∷◌, ◌++◌, arith}
use Rattle.std.proofs.lemmas.Grind.{common_steps}
use Rattle.std.proofs.lemmas.Result.{on_ok_weaker}
use Rattle.json.specs.Token.{begin_object}
use Rattle.task_defs.proofs.WritingLemmas.{form_written}
use Rattle.task_defs.proofs.full_text.write_full_text.Goals as goal

pub returns-clause-form : goal.returns-clause-form
returns-clause-form c =
    let begun : c.begin_object.new.self.tokens ≡ c.args.out.now.tokens ++ begin_object ∷ [] = grind (arith, common_steps) in
    on_ok_weaker c.end_object.result (λ e. form_written c.args.def.now _ _ _ _ _ _ _ _ begun c.in_ok-write_first.ensures.ok c.in_ok-write_work.ensures.ok c.in_ok-write_owner.ensures.ok
    c.in_ok-write_rights.ensures.ok c.in_ok-write_place.ensures.ok e) c.end_object.ensures.ok
