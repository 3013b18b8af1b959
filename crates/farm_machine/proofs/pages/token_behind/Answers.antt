use Rattle.farm_machine.proofs.PageLemmas.{token-some}
use Rattle.farm_machine.proofs.pages.token_behind.Goals as goal

pub returns-in-Some : goal.returns-in-Some
returns-in-Some c =
    token-some c.args.shown.now.more c.args.after c.args.shown.now.rows.items c.deref.result.now c.in-Some.row.now c.id.result c.deref.ensures.value c.if-not-shown.false c.in-Some.ensures.value c.id.ensures
