use Rattle.std.proofs.Common.{sym, ap, ◌∙◌, inl, inr, rules}
use Rattle.farm_core.specs.Farm.{state_of}
use Rattle.farm_cli.proofs.LentLemmas.{ServedOver-from, over_fallen, over_still}
use Rattle.farm_cli.proofs.RunLemmas.{has_held}
use Rattle.farm_cli.proofs.serve.serve_over.Goals as goal

-- no farm could be opened
pub returns-in-Err-clause-served : goal.returns-in-Err-clause-served
returns-in-Err-clause-served g c = elim (rw c.as_str.ensures at c.in-Err.ensures.opened) [ inl missing ↦ inr (inr missing) | inr unopened ↦ inr (inl unopened) ]

-- it has halted
pub returns-then-halted-clause-served : goal.returns-then-halted-clause-served
returns-then-halted-clause-served g c =
    let has = rw c.as_str.ensures at c.in-Ok.ensures.opened in
    let farm = c.serve_farm-farm.result.0 in
    inl (ServedOver-from _ _ _ _ _ _ _ _ _ _ _ _ _ _ has farm.records.disk farm.records.end (state_of farm.config farm.tables farm.records.halted) _ _ _ c.serve_farm-farm.ensures.served (has_held _ _ _ _ _ _ _ _ _ _ has) (λ history holds. holds)
    (rw c.into_disk.ensures at c.back_disk.ensures.lends) c.back_disk.ensures.refusals _ (over_fallen farm.records.halted _ _ (search rules) c.on_disk.ensures))

-- it is at work
pub returns-clause-served : goal.returns-clause-served
returns-clause-served g c =
    let has = rw c.as_str.ensures at c.in-Ok.ensures.opened in
    let farm = c.serve_farm-farm.result.0 in
    inl (ServedOver-from _ _ _ _ _ _ _ _ _ _ _ _ _ _ has farm.records.disk farm.records.end (state_of farm.config farm.tables farm.records.halted) _ _ _ c.serve_farm-farm.ensures.served (has_held _ _ _ _ _ _ _ _ _ _ has) (λ history holds. holds)
    (rw c.into_disk.ensures at c.back_disk.ensures.lends) c.back_disk.ensures.refusals _ (over_still farm.records.halted _ _ (search rules) (search rules)))
