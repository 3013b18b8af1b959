use Rattle.std.proofs.Common.{sym}
use Rattle.farm_machine.specs.State.{empty_state}
use Rattle.farm_cli.proofs.RunLemmas.{WereLent-from_calls, begun, IsOwnHistory-from_turns}
use Rattle.farm_cli.proofs.commands.converse.Goals as goal

pub returns-clause-conversed : goal.returns-clause-conversed
returns-clause-conversed g c =
    let lent = WereLent-from_calls _ _ _ _ _ _ _ _ _ _ _ _ _ c.console-console.ensures.gives c.console-console.ensures.lends c.clock-clock.ensures.gives c.clock-clock.ensures.lends c.draws-draws.ensures.gives c.draws-draws.ensures.lends c.back_console.ensures.lends c.back_clock.ensures.lends c.back_draws.ensures.lends in
    let serves = c.serve_connection-served.ensures.serves in
    let own = IsOwnHistory-from_turns (empty_state c.args.config) c.into_object-bare.result _ _ _ _ (c.new-desk.ensures.fresh (begun (empty_state c.args.config)) (sym c.new.ensures) tt) serves.asked
    (λ seen mine stands. (c.into_object-bare.ensures.stood (begun (empty_state c.args.config)) seen mine).0 stands) in
    record {
      disk = lent.disk_left;
      console_given = c.console-console.result;
      console_back = c.serve_connection-served.new.link;
      console = lent.console_lent;
      clock_given = c.clock-clock.result;
      clock_back = c.serve_connection-served.new.clock;
      clock = lent.clock_lent;
      draws_given = c.draws-draws.result;
      draws_back = c.serve_connection-served.new.draws;
      draws = lent.draws_lent;
      doors = lent.doors_left;
      asks = serves.asks;
      replies = serves.replies;
      served = c.serve_connection-served.result;
      spoke = serves.spoke;
      history = own.history;
      no_disk = own.no_disk;
      status_is = c.after_serving.ensures;
    }
