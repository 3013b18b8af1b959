use Rattle.std.proofs.Common.{inl, inr, rules}
use Rattle.farm_cli.proofs.RunLemmas.{CheckedOver-from}
use Rattle.farm_cli.proofs.disks.check_disk.Goals as goal

pub returns-in-Err-clause-checked : goal.returns-in-Err-clause-checked
returns-in-Err-clause-checked g c = elim c.in-Err.ensures.opened [ inl missing ↦ inr (inr missing) | inr unopened ↦ inr (inl unopened) ]

pub returns-clause-checked : goal.returns-clause-checked
returns-clause-checked g c =
    inl (CheckedOver-from _ _ _ _ _ _ _ _ _ _ _ _ _ _ c.in-Ok.ensures.opened _ _ (rw c.into_disk.ensures at c.back_disk.ensures.lends) c.console-console.ensures.gives c.console-console.ensures.lends c.back_console.ensures.lends (search rules)
    _ _ _ _ (search rules) (search rules) (search rules) c.tell_counts-ended.ensures.tells)
