use Rattle.std.proofs.Common.{codes, [], ◌∷◌, ◌++◌}
use Rattle.std.proofs.lemmas.Result.{on_ok_weaker}
use Rattle.farm_text.specs.Document.{text}
use Rattle.task_statuses.proofs.WritingLemmas.{member_then, members_then, object_then}
use Rattle.farm_asks.specs.Shown.{conflict_details}
use Rattle.farm_asks.proofs.bodies.write_conflict.Goals as goal

pub returns-clause-ok : goal.returns-clause-ok
returns-clause-ok c =
    let told = conflict_details c.args.rule c.args.row.now in
    let t = c.args.out.now.tokens in
    let u = c.begin_object.new.self.tokens in
    let v = c.text_member.new.out.tokens in
    let k = c.key.new.self.tokens in
    let w = c.write_conflict_details.new.out.tokens in
    let x = c.text_member-2.new.out.tokens in
    let code = (codes "code", text (codes "RequestConflict")) ∷ [] in
    let details = (codes "details", told) ∷ [] in
    let message = (codes "message", text (codes "the state forbids it")) ∷ [] in
    on_ok_weaker c.end_object.result
    (λ e. object_then t u x c.end_object.new.self.tokens (code ++ (details ++ message)) c.in_ok-begin_object.ensures.ok
    (members_then u v x code (details ++ message) c.in_ok-text_member.ensures.ok
    (members_then v w x details message (member_then v k w (codes "details") told c.in_ok-key.ensures.ok c.in_ok-write_conflict_details.ensures.ok) c.in_ok-text_member-2.ensures.ok)) e)
    c.end_object.ensures.ok
