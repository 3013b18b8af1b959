use Rattle.std.proofs.Common.{◌≡◌, IfOk, ap, ◌∙◌, subst}
use Rattle.farm_text.specs.Document.{Document, document_text}
use Rattle.farm_machine.specs.Case.{Setting}
use Rattle.farm_machine.specs.Pages.{page_body}
use Rattle.farm_machine.proofs.PageLemmas.{read-same}
use Rattle.farm_machine.proofs.pages.read_page.Goals as goal

pub returns : goal.returns
returns c =
    let list = c.args.list.now in
    let page = c.args.page.now in
    let shown = read-same list page c.at.inside.tables.now.rows c.in_ok-shown.field-0 c.in-Some.shown c.as_slice.result.now c.token_behind-token.result c.in-Some.is c.in_ok-shown.ensures c.as_slice.ensures.value c.token_behind-token.ensures in
    subst (λ (body : Document). IfOk c.page_text.result (λ t. t ≡ document_text body)) (shown ∙ ap (λ (s : Setting). page_body list page s.state.contents.rows) c.at.view_is) c.page_text.ensures
