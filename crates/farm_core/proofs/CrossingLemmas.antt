-- A farm may go to another thread where its tables, its hooks and its disk may.
use denote.RattleType.{RattleType}
use denote.Param.Send.{IsSend, sendable, view_send}
use denote.Param.SendFields.{declared_send}
use Rattle.std.proofs.Crossing.{crosses}
use Rattle.std.proofs.MapsCrossing as maps
use Rattle.disk_base.specs.declared.disk.Disk as disks
use Rattle.hook_book.specs.contracts.book.HookBook as hooks
use Rattle.farm_asks.specs.contracts.config.Config as config
use Rattle.farm_machine.specs.contracts.tables.Tables as tables
use Rattle.farm_core.specs.contracts.bare.Bare as bare
use Rattle.farm_core.specs.contracts.bare.Bare.TheInside as bare_inside
use Rattle.farm_core.specs.contracts.farm.Farm as farm
use Rattle.farm_core.specs.contracts.records.Records as records
use Rattle.farm_core.specs.contracts.records.Records.TheInside as records_inside

config_send : IsSend hooks.the_row → IsSend config.the_row
config_send sent = declared_send config.the_type (
  search (crosses, sendable) depth 40 fits 50000,
  (
    search (crosses, sendable) depth 40 fits 50000,
    (
      search (crosses, sendable) depth 40 fits 50000,
      (
        search (crosses, sendable) depth 40 fits 50000,
        (
          search (crosses, maps.crosses, sendable) depth 60 fits 50000,
          (search (crosses, maps.crosses, sendable) depth 60 fits 50000, (sent, tt)),
        ),
      ),
    ),
  ),
)

module _ (D : RattleType) (Disk : disks.Ghosts D.Denot) where
  records_send : IsSend D → IsSend (records.the_row D Disk)
  records_send sent = view_send _ _ _ _ _ (declared_send (records_inside.the_type D Disk) (
    search (crosses, sendable) depth 40 fits 50000,
    (
      search (crosses, sendable) depth 40 fits 50000,
      (search (crosses, sendable) depth 40 fits 50000, tt),
    ),
  ))

  pub farm_send : IsSend D → IsSend hooks.the_row → IsSend tables.the_row → IsSend (farm.the_row D Disk)
  farm_send sent booked kept = declared_send (farm.the_type D Disk)
      (search (crosses, sendable) depth 40 fits 50000, (config_send booked, (kept, (records_send sent, tt))))

pub bare_send : IsSend hooks.the_row → IsSend tables.the_row → IsSend bare.the_row
bare_send booked kept = view_send _ _ _ _ _ (declared_send bare_inside.the_type
    (search (crosses, sendable) depth 40 fits 50000, (config_send booked, (kept, tt))))
