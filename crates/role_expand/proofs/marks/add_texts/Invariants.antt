use Rattle.std.proofs.Common.{List, ℕ, Contains, take}
use Rattle.role_expand.specs.Cycles.{Reaches}
use Rattle.role_expand.specs.Marks.{IsTextMark}
use Rattle.role_expand.specs.declared.index.RoleKey.{RoleKey}
use Rattle.role_expand.proofs.marks.add_texts.Given as goal

abbrev pub invariant-loop-scope : goal.invariant-loop-scope
invariant-loop-scope l =
    record {
      kept : (mark : RoleKey) → Contains l.initial.marks.items mark → Contains l.marks.items mark;
      added : (scope front : List ℕ) → Contains (take l.scope-index l.scopes) scope → Reaches scope front → (mark : RoleKey) × Contains l.marks.items mark × IsTextMark l.place front mark;
    }
