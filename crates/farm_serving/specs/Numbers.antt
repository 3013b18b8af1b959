-- The numbers of what workers did.
use Rattle.std.specs.Prelude.{ℕ, ◌+◌, ◌<◌, ◌^◌}
use Rattle.farm_server.specs.declared.served.Served.{Served}
use Rattle.farm_server.specs.declared.served.Served.TheVariants.{EndedInside, WireFault, ReadFault, WriteFault, NoMemory}
use Rattle.farm_serving.specs.declared.ended.Ended.{Ended}

-- one where a connection ended by a failed read
abbrev pub by_read : Served → ℕ
by_read ReadFault = 1
by_read served = 0

-- one where it ended by a failed write
abbrev pub by_write : Served → ℕ
by_write WriteFault = 1
by_write served = 0

-- one where it ended by what came: it was no request, or ended inside one
abbrev pub by_wire : Served → ℕ
by_wire (WireFault reason) = 1
by_wire EndedInside = 1
by_wire served = 0

-- one where memory ran out
abbrev pub by_memory : Served → ℕ
by_memory NoMemory = 1
by_memory served = 0

-- the numbers of no connection
abbrev pub of_nothing : Ended
of_nothing = record { served = 0; accept_faults = 0; read_faults = 0; write_faults = 0; wire_faults = 0; no_memory = 0 }

-- the numbers of one accept that failed
abbrev pub of_refusal : Ended
of_refusal = record { served = 0; accept_faults = 1; read_faults = 0; write_faults = 0; wire_faults = 0; no_memory = 0 }

-- the numbers of one connection with so many messages asked, which ended so
abbrev pub of_connection : ℕ → Served → Ended
of_connection asked served =
    record { served = asked; accept_faults = 0; read_faults = by_read served; write_faults = by_write served; wire_faults = by_wire served; no_memory = by_memory served }

-- the numbers of both fit when they are added up
pub record FitTogether (first second : Ended) : Type 0 where
  pub served : first.served + second.served < 2 ^ 64
  pub accept_faults : first.accept_faults + second.accept_faults < 2 ^ 64
  pub read_faults : first.read_faults + second.read_faults < 2 ^ 64
  pub write_faults : first.write_faults + second.write_faults < 2 ^ 64
  pub wire_faults : first.wire_faults + second.wire_faults < 2 ^ 64
  pub no_memory : first.no_memory + second.no_memory < 2 ^ 64

-- the numbers of two, added up
abbrev pub both : Ended → Ended → Ended
both first second = record {
  served = first.served + second.served;
  accept_faults = first.accept_faults + second.accept_faults;
  read_faults = first.read_faults + second.read_faults;
  write_faults = first.write_faults + second.write_faults;
  wire_faults = first.wire_faults + second.wire_faults;
  no_memory = first.no_memory + second.no_memory;
}
