-- The places of the groups' tasks may go to another thread.
use denote.Param.Send.{IsSend, sendable, view_send}
use denote.Param.SendFields.{declared_send}
use Rattle.std.proofs.Crossing.{crosses}
use Rattle.std.proofs.MapsCrossing as maps
use Rattle.task_groups.specs.contracts.group.Group as group
use Rattle.task_groups.specs.contracts.groups.Groups as groups
use Rattle.task_groups.specs.contracts.groups.Groups.TheInside.{the_type as groups_type}
use Rattle.task_index.specs.contracts.members.noted.Noted as noted
use Rattle.task_index.specs.contracts.members.noted.Noted.TheInside.{the_type as noted_type}
use Rattle.task_index.specs.contracts.members.Members.{the_row}
use Rattle.task_index.specs.contracts.members.Members.TheInside.{the_type as inside_type}

group_send : IsSend group.the_row
group_send = declared_send group.the_type (search (crosses, maps.crosses, sendable) depth 60 fits 50000)

groups_send : IsSend groups.the_row
groups_send = view_send _ _ _ _ _ (declared_send groups_type (search (group_send, crosses, maps.crosses, sendable) depth 60 fits 50000))

noted_send : IsSend noted.the_row
noted_send = view_send _ _ _ _ _ (declared_send noted_type (search (crosses, maps.crosses, sendable) depth 60 fits 50000))

pub members_send : IsSend the_row
members_send = view_send _ _ _ _ _ (declared_send inside_type (search (groups_send, noted_send, crosses, sendable) depth 60 fits 50000))
