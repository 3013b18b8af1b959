-- The state of a farm, as plain data (the queue service of the Taskcluster reference).
use Rattle.std.specs.Prelude.{[], Bool, false}
use Rattle.task_index.specs.Contents.{Contents, no_contents}
use Rattle.farm_asks.specs.declared.config.Config.{Config}

-- the state of a farm: how it is set up, what its tables keep, and whether its disk failed
pub record State : Type 0 where
  pub config : Config
  pub contents : Contents
  pub halted : Bool

-- a farm at work
abbrev pub working : Config → Contents → State
working config contents = record { config = config; contents = contents; halted = false }

-- a farm that begins
abbrev pub empty_state : Config → State
empty_state config = working config no_contents

-- A configuration that stands only where a type wants a value. No farm has it.
abbrev pub no_config : Config
no_config = record { host = []; port = 0; claim_timeout = 0; max_tasks = 0; roles = []; clients = []; hooks = [] }
