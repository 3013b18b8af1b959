use Rattle.std.proofs.Common.{◌≡◌, ◌+◌, ◌-◌, ◌<◌, refl, ◌∙◌, arith}
use Rattle.farm_server.specs.declared.served.Served.TheVariants.{Full}
use Rattle.farm_server.specs.declared.served.TheConstants.{REQUESTS}
use Rattle.http_wire.proofs.NeededLemmas.{LosesFew-held}
use Rattle.farm_server.proofs.ServesLemmas.{ServesWithin-next, ServesWithin-full, ServesWithin-no_memory}
use Rattle.farm_server.proofs.connection.serve_routed.Goals as goal

pub returns-in-Err-clause-serves : goal.returns-in-Err-clause-serves
returns-in-Err-clause-serves g c = ServesWithin-no_memory REQUESTS _ _ (omega arith)

pub requests-preserved : goal.requests-preserved
requests-preserved g c =
    let so_far = c.requests.invariant in
    let goes = c.in_default.ensures.turns in
    let some : 0 < REQUESTS - c.requests.place = omega (arith, c.requests-test.true) in
    let next : REQUESTS - (c.requests.place + 1) ≡ REQUESTS - c.requests.place - 1 = omega arith in (
      c.turn-ended.ensures.home ∙ so_far.0,
      omega (arith, goes.once.spent, so_far.1),
      c.in_default.ensures.held refl,
      λ desk after served rest.
          so_far.3 desk after served (ServesWithin-next (REQUESTS - c.requests.place) (REQUESTS - (c.requests.place + 1)) _ _ _ _ _ after _ served next some goes rest),
    )

pub returns-clause-serves : goal.returns-clause-serves
returns-clause-serves g c =
    let none : REQUESTS - c.requests.place ≡ 0 = omega (arith, c.requests-test.false) in
    c.requests.invariant.3 c.requests.desk _ Full (ServesWithin-full (REQUESTS - c.requests.place) _ _ _ _ _ none (LosesFew-held c.requests.reader (g.L.Link.left c.requests.link) c.requests.invariant.2))
