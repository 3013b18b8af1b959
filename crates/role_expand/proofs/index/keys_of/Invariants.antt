use Rattle.std.proofs.Common.{◌≡◌, ℕ, ◌<◌, Contains}
use Rattle.role_expand.specs.Index.{text_of, HasKey}
use Rattle.role_expand.specs.declared.index.RoleKey.{RoleKey}
use Rattle.std.specs.List.{slice_get}
use Rattle.std.proofs.Common.{Some}
use Rattle.role_expand.specs.Roles.{RoleData, roles_data}
use Rattle.role_expand.proofs.index.keys_of.Given as goal

abbrev pub invariant-loop-place : goal.invariant-loop-place
invariant-loop-place l = (i : ℕ) (role : RoleData) → i < l.place → slice_get (roles_data l.roles) i ≡ Some role → (key : RoleKey) × Contains l.keys.items key × (key.place ≡ i) × HasKey role.id (text_of key)
