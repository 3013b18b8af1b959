-- A pass of the token is shared out, and what it stands for at the end is the token's.
use Rattle.std.proofs.Common.{[]}
use Rattle.farm_machine.specs.Law.{Opening}
use Rattle.farm_serving.proofs.ServingLemmas.{Serves-over, gained-over}
use Rattle.farm_serving.proofs.serving.serve.Goals as goal

pub returns-clause-gained : goal.returns-clause-gained
returns-clause-gained g c =
    gained-over c.args.connections c.args.token c.pass-pass.result c.serve_row-ended.new.share c.token.result _ _ c.serve_row-ended.result c.pass-pass.ensures.same c.token.ensures c.serve_row-ended.ensures

pub returns-clause-serves : goal.returns-clause-serves
returns-clause-serves g c =
    Serves-over c.args.connections c.args.token c.pass-pass.result c.serve_row-ended.new.share c.token.result _ _ c.serve_row-ended.result c.pass-pass.ensures.same c.token.ensures (λ opening is.
    let from : Opening = record { state = opening; records = []; faults = 0 } in
    (c.pass-pass.ensures.stands from is).3) c.serve_row-ended.ensures
