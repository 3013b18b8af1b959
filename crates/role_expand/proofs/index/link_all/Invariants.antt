use Rattle.std.proofs.Common.{◌≡◌, length}
use Rattle.role_expand.specs.Index.{AreLinks}
use Rattle.role_expand.proofs.index.link_all.Given as goal

abbrev pub invariant-loop-place : goal.invariant-loop-place
invariant-loop-place l = (length l.links.items ≡ l.place) × AreLinks l.keys l.links.items
