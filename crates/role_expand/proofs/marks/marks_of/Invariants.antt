use Rattle.role_expand.specs.Roles.{roles_data}
use Rattle.role_expand.specs.Marks.{HaveMarks}
use Rattle.role_expand.proofs.marks.marks_of.Given as goal

abbrev pub invariant-loop-place : goal.invariant-loop-place
invariant-loop-place l = HaveMarks (roles_data l.roles) l.place l.marks.items
