use denote.Exit.{yes}
use denote.Param.Send.{arg_send, param_send}
use Rattle.farm_cli.specs.Views.{views_of}
use Rattle.std.proofs.Common.{◌∙◌}
use Rattle.farm_cli.proofs.LentLemmas.{ServesLent-from_calls, KeepsTheRest-from_calls}
use Rattle.farm_core.proofs.CrossingLemmas.{farm_send}
use Rattle.farm_cli.proofs.serve.serve_door.Goals as goal

pub returns-clause-lent : goal.returns-clause-lent
returns-clause-lent g c =
    let dismissed = c.dismiss.ensures.lends in
    let views = views_of g.H.File.Source g.H.Store.Disk g.H.Console.Link g.H.Notes.Sink g.H.Time.Clock g.H.Ids.Draws g.H.Door.Listener in
    ServesLent-from_calls views _ _ _ _ _ _ c.args.door _ _ _ _ dismissed.0 dismissed.1 _ c.console-console.ensures.gives c.console-console.ensures.lends c.clock-clock.ensures.gives c.clock-clock.ensures.lends c.draws-draws.ensures.gives c.draws-draws.ensures.lends
    c.back_console.ensures.lends dismissed.3 (rw dismissed.2 at c.serve_object-left.ensures.serves)

pub returns-clause-rest : goal.returns-clause-rest
returns-clause-rest g c =
    KeepsTheRest-from_calls _ _ _ _ _ _ _ _ _ _ _ _ _ _ _ c.console-console.ensures.lends c.clock-clock.ensures.lends c.draws-draws.ensures.lends c.back_console.ensures.lends c.dismiss.ensures.lends.3
    (c.dismiss.ensures.refusals ∙ (c.back_console.ensures.refusals ∙ (c.draws-draws.ensures.refusals ∙ (c.clock-clock.ensures.refusals ∙ c.console-console.ensures.refusals))))

pub serve_object-left-requires-send-O : goal.serve_object-left-requires-send-O
serve_object-left-requires-send-O g c = λ κs within.
    param_send _ _ (arg_send _ yes _ (farm_send _ g.H.Store.Disk c.type_bounds.send-H-Store c.hooks_cross_threads.ensures.sent c.farms_tables_cross_threads.ensures.sent))
