use Rattle.std.proofs.Common.{refl}
use Rattle.farm_cli.specs.Views.{views_of}
use Rattle.farm_cli.proofs.LentLemmas.{ServesDoor-none, ServesDoor-refused, ServesDoor-heard}
use Rattle.farm_cli.proofs.serve.serve_farm.Goals as goal

-- memory ran out
pub returns-in_default-clause-served : goal.returns-in_default-clause-served
returns-in_default-clause-served g c =
    let views = views_of g.H.File.Source g.H.Store.Disk g.H.Console.Link g.H.Notes.Sink g.H.Time.Clock g.H.Ids.Draws g.H.Door.Listener in
    ServesDoor-none views (g.H.House.lends c.args.house.now) (g.H.House.refusals c.args.house.now) c.args.service.now _ _ _ c.plain.ensures

-- a door was opened
pub returns-in-Ok-listen-clause-served : goal.returns-in-Ok-listen-clause-served
returns-in-Ok-listen-clause-served g c =
    let views = views_of g.H.File.Source g.H.Store.Disk g.H.Console.Link g.H.Notes.Sink g.H.Time.Clock g.H.Ids.Draws g.H.Door.Listener in
    ServesDoor-heard views (g.H.House.lends c.args.house.now) (g.H.House.lends c.listen.new.self) (g.H.House.lends c.serve_door-farm.new.house) (g.H.House.refusals c.args.house.now) (g.H.House.refusals c.listen.new.self) (g.H.House.refusals c.serve_door-farm.new.house)
    c.args.service.now c.in-Ok-listen.door _ _ _ _ _ _ _ _ (rw c.as_str.ensures at c.in-Ok-listen.ensures.opens) c.in-Ok-listen.ensures.lends c.in-Ok-listen.ensures.cause.kept c.serve_door-farm.ensures.rest
    c.shifts_of-shifts.ensures.workers c.shifts_of-shifts.ensures.connections c.after_workers.ensures c.serve_door-farm.ensures.lent

pub returns-in-Ok-listen-clause-file : goal.returns-in-Ok-listen-clause-file
returns-in-Ok-listen-clause-file g c = rw c.in-Ok-listen.ensures.lends at c.serve_door-farm.ensures.rest.file

pub returns-in-Ok-listen-clause-notes : goal.returns-in-Ok-listen-clause-notes
returns-in-Ok-listen-clause-notes g c = rw c.in-Ok-listen.ensures.lends at c.serve_door-farm.ensures.rest.notes

pub returns-in-Ok-listen-clause-later : goal.returns-in-Ok-listen-clause-later
returns-in-Ok-listen-clause-later g c = rw (← c.serve_door-farm.ensures.rest.refusals) at c.in-Ok-listen.ensures.cause.later

-- none was
pub returns-in-Err-clause-served : goal.returns-in-Err-clause-served
returns-in-Err-clause-served g c =
    let views = views_of g.H.File.Source g.H.Store.Disk g.H.Console.Link g.H.Notes.Sink g.H.Time.Clock g.H.Ids.Draws g.H.Door.Listener in
    ServesDoor-refused views (g.H.House.lends c.args.house.now) (g.H.House.lends c.listen.new.self) (g.H.House.refusals c.args.house.now) (g.H.House.refusals c.listen.new.self) c.args.service.now _ _ _ c.unheard.ensures c.in-Err.ensures.cause.failed
    (rw c.as_str.ensures at c.in-Err.ensures.opens) c.in-Err.ensures.lends
