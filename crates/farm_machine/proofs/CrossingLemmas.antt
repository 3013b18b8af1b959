-- What a farm keeps may go to another thread where the tables of its tasks may.
use denote.Param.Send.{IsSend, view_send}
use denote.Param.SendFields.{declared_send}
use Rattle.farm_rows.specs.contracts.tables.TaskTables as tables
use Rattle.farm_machine.specs.contracts.tables.Tables.{the_row}
use Rattle.farm_machine.specs.contracts.tables.Tables.TheInside.{the_type as inside_type}

pub kept_send : IsSend tables.the_row → IsSend the_row
kept_send sent = view_send _ _ _ _ _ (declared_send inside_type (search, tt))
