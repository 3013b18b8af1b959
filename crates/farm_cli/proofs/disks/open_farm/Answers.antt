use Rattle.std.proofs.Common.{Err, refl, ap, ◌∙◌, inl, inr}
use Rattle.farm_cli.specs.Views.{views_of}
use Rattle.farm_cli.proofs.RunLemmas.{IsRefusedFor-by}
use Rattle.farm_cli.proofs.disks.open_farm.Goals as goal

-- the house refused it
pub returns-in-Err-clause-opened : goal.returns-in-Err-clause-opened
returns-in-Err-clause-opened g c =
    let lends = c.in-Err.ensures.lends in
    inl (record {
      status_is = c.on_missing.ensures;
      rose = c.in-Err.ensures.cause.failed;
      could = c.in-Err.ensures.opens;
      left = record { disk = rw lends refl; console = rw lends refl; clock = rw lends refl; draws = rw lends refl; doors = rw lends refl };
    })

-- it has a farm
pub returns-in-Ok-open-clause-opened : goal.returns-in-Ok-open-clause-opened
returns-in-Ok-open-clause-opened g c = record {
  openings = c.in-Ok.ensures.cause.kept;
  given = c.in-Ok.disk;
  could = c.in-Ok.ensures.opens;
  lends = c.in-Ok.ensures.lends;
  config_is = c.in-Ok-open.ensures.state.0;
  at_work = c.in-Ok-open.ensures.state.1;
  kept = c.in-Ok-open.ensures.cause.kept;
  opened = c.in-Ok-open.ensures.opened;
}

-- it has none that could be opened
pub returns-in-Err-open-clause-opened : goal.returns-in-Err-open-clause-opened
returns-in-Err-open-clause-opened g c =
    let gives = c.in-Ok.ensures.lends in
    let takes = c.back_disk.ensures.lends in
    inr (record {
      openings = c.back_disk.ensures.refusals ∙ c.in-Ok.ensures.cause.kept;
      given = c.in-Ok.disk;
      back = c.in-Err-open.disk;
      disk = record { could = c.in-Ok.ensures.opens; returned = rw (takes, gives) refl };
      fault = c.in-Err-open.fault;
      why = IsRefusedFor-by (views_of g.H.File.Source g.H.Store.Disk g.H.Console.Link g.H.Notes.Sink g.H.Time.Clock g.H.Ids.Draws g.H.Door.Listener) c.in-Ok.disk c.in-Err-open.disk c.in-Err-open.fault (λ is. c.in-Err-open.ensures.cause.failed (ap Err is)) (λ other. c.in-Err-open.ensures.cause.spared c.in-Err-open.fault other refl) (λ tells place is. c.in-Err-open.ensures.damaged tells place is);
      stops = λ tells bodies pending image. c.in-Err-open.ensures.any_moment tells bodies pending image;
      untouched = λ tells other. c.in-Err-open.ensures.untouched tells other;
      status_is = c.by_fault.ensures;
      console = rw (takes, gives) refl;
      clock = rw (takes, gives) refl;
      draws = rw (takes, gives) refl;
      doors = rw (takes, gives) refl;
    })
