use Rattle.std.proofs.Common.{◌≡◌, ◌+◌, ◌≤◌, true, false, Some, length, drop, get_or, List, ap, sym, ◌∙◌, subst}
use Rattle.std.specs.List.{position}
use Rattle.run_states.specs.Rows.{Row}
use Rattle.task_index.specs.Changes.{on_row, has_id}
use Rattle.task_index.specs.Lists.{is_listed, listed, behind_id}
use Rattle.task_index.proofs.ListLemmas.{token-lost, token-found, token-start}
use Rattle.task_index.proofs.lists.start_behind.Goals as goal

pub returns-in_default : goal.returns-in_default
returns-in_default c = token-lost c.args.list.now c.args.token c.args.rows.now (sym c.in_default.ensures)

pub returns-then-is_listed : goal.returns-then-is_listed
returns-then-is_listed c =
    let list = c.args.list.now in
    let token = c.args.token in
    let place = c.in-Some.place in
    let all = c.list-all.result.now in
    let row = c.index-all-place.result in
    let first : position (has_id token) all ≡ Some place = ap (position (has_id token)) c.list-all.ensures ∙ sym c.in-Some.ensures in
    let passes : is_listed list (get_or all place row) ≡ true = ap (is_listed list) (sym c.index-all-place.is) ∙ (sym c.is_listed.ensures ∙ c.if-is_listed.true) in
    subst (λ (rows : List Row). (on_row (is_listed list) token rows ≡ true) × (place + 1 ≤ length rows) × (listed list (drop (place + 1) rows) ≡ behind_id token (listed list rows)))
    c.list-all.ensures (token-start list token all place row first passes)

pub returns-else-is_listed : goal.returns-else-is_listed
returns-else-is_listed c =
    let list = c.args.list.now in
    let token = c.args.token in
    let place = c.in-Some.place in
    let all = c.list-all.result.now in
    let row = c.index-all-place.result in
    let first : position (has_id token) all ≡ Some place = ap (position (has_id token)) c.list-all.ensures ∙ sym c.in-Some.ensures in
    let no_ : is_listed list (get_or all place row) ≡ false = ap (is_listed list) (sym c.index-all-place.is) ∙ (sym c.is_listed.ensures ∙ c.if-is_listed.false) in
    subst (λ (rows : List Row). on_row (is_listed list) token rows ≡ false) c.list-all.ensures (token-found list token all place row false first no_)
