use Rattle.std.proofs.Common.{ℕ, ◌∙◌, refl, subst, inl}
use Rattle.farm_cli.specs.Run.{Obeyed}
use Rattle.farm_cli.specs.Views.{views_of}
use Rattle.farm_cli.proofs.RunLemmas.{Obeyed-same}
use Rattle.farm_cli.proofs.run.run_over_file.Goals as goal

pub returns-in-Ok-clause-ran : goal.returns-in-Ok-clause-ran
returns-in-Ok-clause-ran g c =
    let lends = c.back_farm_file.ensures.lends in
    let taken = rw c.in-Ok.is at c.read_config-file.ensures.taken in
    let views = views_of g.H.File.Source g.H.Store.Disk g.H.Console.Link g.H.Notes.Sink g.H.Time.Clock g.H.Ids.Draws g.H.Door.Listener in (
      c.read_config-file.result.0,
      c.obey.ensures.file ∙ rw lends refl,
      c.read_config-file.ensures.lost,
      inl (
        c.in-Ok.config,
        taken.0,
        taken.1,
        subst (λ (n : ℕ). Obeyed views (g.H.House.lends c.args.house.now) (g.H.House.lends c.obey.new.house) n (g.H.House.refusals c.obey.new.house) c.in-Ok.config c.args.work.now c.obey.result.status)
            c.back_farm_file.ensures.refusals
            (Obeyed-same views (g.H.House.lends c.back_farm_file.new.self) (g.H.House.lends c.args.house.now) (g.H.House.lends c.obey.new.house) (g.H.House.lends c.obey.new.house) _ _ _ _ _
            (record { disk = rw lends refl; console = rw lends refl; clock = rw lends refl; draws = rw lends refl; doors = rw lends refl }) (record { disk = refl; console = refl; clock = refl; draws = refl; doors = refl }) c.obey.ensures.obeyed),
      ),
    )
