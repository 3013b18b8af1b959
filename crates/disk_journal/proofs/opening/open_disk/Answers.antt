use Rattle.std.proofs.Common.{refl}
use Rattle.disk_journal.proofs.MendLemmas.{asked, opened_file, opened_ready, opened_gate, opened_stops, read_still, found_damaged, end_is, places_are}
use Rattle.disk_journal.proofs.opening.open_disk.Goals as goal

pub returns-in-Ok-mend-clause-opened : goal.returns-in-Ok-mend-clause-opened
returns-in-Ok-mend-clause-opened g c =
    let found = rw c.in-Ok-End.field-0-is at c.in-Ok-End.ensures in
    record {
      opens = λ tells.
          let sync = c.in-Ok.ensures.syncs tells in
          opened_file (g.D.Disk.contents c.args.disk.now) (g.D.Disk.contents c.sync.new.self) (g.D.Disk.contents c.read_disk.new.disk) (g.D.Disk.contents c.mend.new.disk) c.in-Ok-read_disk.file.items c.deref.result.now c.deref-2.result.now c.in-Ok-End.spans.items c.in-Ok-End.end _ sync sync.done (c.in-Ok-read_disk.ensures.still tells) (c.in-Ok-read_disk.ensures.bytes tells) c.deref.ensures.value c.deref-2.ensures.value found;
      places = places_are c.in-Ok-read_disk.file.items c.deref.result.now c.in-Ok-End.spans.items c.in-Ok-End.end c.deref.ensures.value found.0;
      ready = λ tells.
          let sync = c.in-Ok.ensures.syncs tells in
          let ready = asked (g.D.Disk.contents c.args.disk.now) (g.D.Disk.contents c.sync.new.self) (g.D.Disk.contents c.read_disk.new.disk) (g.D.Disk.contents c.mend.new.disk) c.in-Ok-read_disk.file.items c.deref.result.now c.deref-2.result.now c.in-Ok-End.spans.items c.in-Ok-End.end _ sync sync.done (c.in-Ok-read_disk.ensures.still tells) (c.in-Ok-read_disk.ensures.bytes tells) c.deref.ensures.value c.deref-2.ensures.value found in
          opened_ready (g.D.Disk.contents c.args.disk.now) (g.D.Disk.contents c.sync.new.self) (g.D.Disk.contents c.read_disk.new.disk) (g.D.Disk.contents c.mend.new.disk) c.in-Ok-read_disk.file.items c.deref.result.now c.deref-2.result.now c.in-Ok-End.spans.items c.in-Ok-End.end _ sync sync.done (c.in-Ok-read_disk.ensures.still tells) (c.in-Ok-read_disk.ensures.bytes tells) c.deref.ensures.value c.deref-2.ensures.value found _ (c.in-Ok-mend.ensures.mends tells ready.0 ready.1);
      place = end_is c.in-Ok-read_disk.file.items c.deref.result.now c.in-Ok-End.spans.items c.in-Ok-End.end c.deref.ensures.value found.0;
      gate = λ tells.
          let sync = c.in-Ok.ensures.syncs tells in
          let ready = asked (g.D.Disk.contents c.args.disk.now) (g.D.Disk.contents c.sync.new.self) (g.D.Disk.contents c.read_disk.new.disk) (g.D.Disk.contents c.mend.new.disk) c.in-Ok-read_disk.file.items c.deref.result.now c.deref-2.result.now c.in-Ok-End.spans.items c.in-Ok-End.end _ sync sync.done (c.in-Ok-read_disk.ensures.still tells) (c.in-Ok-read_disk.ensures.bytes tells) c.deref.ensures.value c.deref-2.ensures.value found in
          opened_gate (g.D.Disk.contents c.args.disk.now) (g.D.Disk.contents c.sync.new.self) (g.D.Disk.contents c.read_disk.new.disk) (g.D.Disk.contents c.mend.new.disk) c.in-Ok-read_disk.file.items c.deref.result.now c.deref-2.result.now c.in-Ok-End.spans.items c.in-Ok-End.end _ sync sync.done (c.in-Ok-read_disk.ensures.still tells) (c.in-Ok-read_disk.ensures.bytes tells) c.deref.ensures.value c.deref-2.ensures.value found _ (c.in-Ok-mend.ensures.mends tells ready.0 ready.1);
    }

pub returns-in-Ok-mend-clause-any_moment : goal.returns-in-Ok-mend-clause-any_moment
returns-in-Ok-mend-clause-any_moment g c tells =
    let sync = c.in-Ok.ensures.syncs tells in
    let found = rw c.in-Ok-End.field-0-is at c.in-Ok-End.ensures in
    let ready = asked (g.D.Disk.contents c.args.disk.now) (g.D.Disk.contents c.sync.new.self) (g.D.Disk.contents c.read_disk.new.disk) (g.D.Disk.contents c.mend.new.disk) c.in-Ok-read_disk.file.items c.deref.result.now c.deref-2.result.now c.in-Ok-End.spans.items c.in-Ok-End.end _ sync sync.done (c.in-Ok-read_disk.ensures.still tells) (c.in-Ok-read_disk.ensures.bytes tells) c.deref.ensures.value c.deref-2.ensures.value found in
    opened_stops (g.D.Disk.contents c.args.disk.now) (g.D.Disk.contents c.sync.new.self) (g.D.Disk.contents c.read_disk.new.disk) (g.D.Disk.contents c.mend.new.disk) c.in-Ok-read_disk.file.items c.deref.result.now c.deref-2.result.now c.in-Ok-End.spans.items c.in-Ok-End.end _ sync sync.done (c.in-Ok-read_disk.ensures.still tells) (c.in-Ok-read_disk.ensures.bytes tells) c.deref.ensures.value c.deref-2.ensures.value found _ (c.in-Ok-mend.ensures.mends tells ready.0 ready.1)

pub returns-in-Err-mend-clause-any_moment : goal.returns-in-Err-mend-clause-any_moment
returns-in-Err-mend-clause-any_moment g c tells =
    let sync = c.in-Ok.ensures.syncs tells in
    let found = rw c.in-Ok-End.field-0-is at c.in-Ok-End.ensures in
    let ready = asked (g.D.Disk.contents c.args.disk.now) (g.D.Disk.contents c.sync.new.self) (g.D.Disk.contents c.read_disk.new.disk) (g.D.Disk.contents c.mend.new.disk) c.in-Ok-read_disk.file.items c.deref.result.now c.deref-2.result.now c.in-Ok-End.spans.items c.in-Ok-End.end _ sync sync.done (c.in-Ok-read_disk.ensures.still tells) (c.in-Ok-read_disk.ensures.bytes tells) c.deref.ensures.value c.deref-2.ensures.value found in
    opened_stops (g.D.Disk.contents c.args.disk.now) (g.D.Disk.contents c.sync.new.self) (g.D.Disk.contents c.read_disk.new.disk) (g.D.Disk.contents c.mend.new.disk) c.in-Ok-read_disk.file.items c.deref.result.now c.deref-2.result.now c.in-Ok-End.spans.items c.in-Ok-End.end _ sync sync.done (c.in-Ok-read_disk.ensures.still tells) (c.in-Ok-read_disk.ensures.bytes tells) c.deref.ensures.value c.deref-2.ensures.value found _ (c.in-Err-mend.ensures.mends tells ready.0 ready.1)

pub returns-in-Err-read_disk-clause-untouched : goal.returns-in-Err-read_disk-clause-untouched
returns-in-Err-read_disk-clause-untouched g c = λ tells other.
    read_still (g.D.Disk.contents c.args.disk.now) (g.D.Disk.contents c.sync.new.self) (g.D.Disk.contents c.read_disk.new.disk) c.in-Ok.field-0 (c.in-Ok.ensures.syncs tells) (c.in-Err-read_disk.ensures.still tells)

pub returns-in-Ok-Damaged-clause-untouched : goal.returns-in-Ok-Damaged-clause-untouched
returns-in-Ok-Damaged-clause-untouched g c = λ tells other.
    read_still (g.D.Disk.contents c.args.disk.now) (g.D.Disk.contents c.sync.new.self) (g.D.Disk.contents c.read_disk.new.disk) c.in-Ok.field-0 (c.in-Ok.ensures.syncs tells) (c.in-Ok-read_disk.ensures.still tells)

pub returns-in-Err-follow-clause-untouched : goal.returns-in-Err-follow-clause-untouched
returns-in-Err-follow-clause-untouched g c = λ tells other.
    read_still (g.D.Disk.contents c.args.disk.now) (g.D.Disk.contents c.sync.new.self) (g.D.Disk.contents c.read_disk.new.disk) c.in-Ok.field-0 (c.in-Ok.ensures.syncs tells) (c.in-Ok-read_disk.ensures.still tells)

pub returns-in-Ok-Damaged-clause-refused : goal.returns-in-Ok-Damaged-clause-refused
returns-in-Ok-Damaged-clause-refused g c =
    let found = rw c.in-Ok-Damaged.field-0-is at c.in-Ok-Damaged.ensures in
    record {
      damaged = λ tells told is.
          found_damaged _ _ c.in-Ok-read_disk.file.items c.deref.result.now c.in-Ok-Damaged.spans.items c.in-Ok-Damaged.place told (c.in-Ok-read_disk.ensures.bytes tells) (c.in-Ok.ensures.syncs tells).same c.deref.ensures.value is found.1;
      undamaged = λ other. absurd (other _ refl);
      places = places_are c.in-Ok-read_disk.file.items c.deref.result.now c.in-Ok-Damaged.spans.items c.in-Ok-Damaged.place c.deref.ensures.value found.0;
    }
