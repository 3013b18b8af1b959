-- What the objects of a house tell of themselves.
use Rattle.std.specs.Prelude.{ℕ, List, Option, None}
use Rattle.http_wire.specs.Calls.{LinkState}
use Rattle.disk_base.specs.Contents.{Contents}
use Rattle.disk_base.specs.declared.disk.Disk as disks
use Rattle.http_wire.specs.declared.link.Source as sources
use Rattle.http_wire.specs.declared.link.Link as links
use Rattle.http_wire.specs.declared.link.Sink as sinks
use Rattle.farm_text.specs.declared.clock.Clock as clocks
use Rattle.farm_text.specs.declared.draws.Draws as draws
use Rattle.listeners.specs.declared.door.Listener as doors
use Rattle.farm_server.specs.Served.{Outside}

-- what is left of the farm file, and how many of its reads failed; whether the disk tells what it holds, what it holds, and how many of its
-- calls failed; the same of the console, and what was written there; what notes
-- were told; which moments and ids were told; of a door its links as they were given and as
-- they were taken back, how many are out, how many accepts were made, and how many of them failed
pub record Views (F S C N T I D : Type 0) : Type 1 where
  pub file_left : F → Option (List ℕ)
  pub file_faults : F → ℕ
  pub disk_tells : Type 0
  pub disk_contents : S → Contents
  pub disk_faults : S → ℕ
  pub console_left : C → Option (List ℕ)
  pub console_written : C → Option (List ℕ)
  pub console_read_faults : C → ℕ
  pub console_write_faults : C → ℕ
  pub notes_written : N → Option (List ℕ)
  pub notes_faults : N → ℕ
  pub clock_told : T → Option (List ℕ)
  pub draws_told : I → Option (List (List ℕ))
  pub door_given : D → Option (List LinkState)
  pub door_taken : D → Option (List (LinkState × ℕ))
  pub door_out : D → ℕ
  pub door_accepts : D → ℕ
  pub door_faults : D → ℕ

-- the same, as the traits of these objects have it
abbrev pub views_of : {F S C N T I D P : Type 0} → sources.Ghosts F → disks.Ghosts S → links.Ghosts C → sinks.Ghosts N → clocks.Ghosts T → draws.Ghosts I → doors.Ghosts D P → Views F S C N T I D
views_of file disk console notes clock ids door =
    record {
      file_left = file.left;
      file_faults = file.faults;
      disk_tells = disk.tells;
      disk_contents = disk.contents;
      disk_faults = disk.faults;
      console_left = console.left;
      console_written = console.written;
      console_read_faults = console.read_faults;
      console_write_faults = console.write_faults;
      notes_written = notes.written;
      notes_faults = notes.faults;
      clock_told = clock.told;
      draws_told = ids.told;
      door_given = door.given;
      door_taken = door.taken;
      door_out = door.out;
      door_accepts = door.accepts;
      door_faults = door.faults;
    }

-- what console, clock and draws tell at one moment; the program's gate keeps nothing
abbrev pub outside_of : {F S C N T I D : Type 0} → Views F S C N T I D → C → T → I → Outside
outside_of views console clock draws =
    record {
      left = views.console_left console;
      written = views.console_written console;
      moments = views.clock_told clock;
      ids = views.draws_told draws;
      gate = None;
      read_faults = views.console_read_faults console;
      write_faults = views.console_write_faults console;
    }

-- what a console of a house tells at one moment
abbrev pub talk_of : {F S C N T I D : Type 0} → Views F S C N T I D → C → LinkState
talk_of views console =
    record {
      left = views.console_left console;
      written = views.console_written console;
      read_faults = views.console_read_faults console;
      write_faults = views.console_write_faults console;
    }
