-- The message has the one route that is found, or none.
use Rattle.std.proofs.Common.{ℕ, List, map, length, Option, None, Bor, sym, ap, ◌∙◌, subst}
use Rattle.std.proofs.lemmas.List.{length-map}
use Rattle.route_table.specs.Fits.{Fits, IsRouteOf}
use Rattle.route_table.specs.declared.table.Found.{Found}
use Rattle.api_routes.specs.Routes.{path_of, query_of}
use Rattle.api_routes.proofs.CallLemmas.{routed-some, routed-none}
use Rattle.api_routes.proofs.FitLemmas.{fits-arity}
use Rattle.api_routes.proofs.routes.call_of.Goals as goal

-- what references point to
abbrev seen : List (Bor (List ℕ)) → List (List ℕ)
seen parts = map (λ part. part.now) parts

pub route_call-requires : goal.route_call-requires
route_call-requires c =
    let found = c.in-Some.field-0 in
    let fits : Fits found.route c.as_slice-2.result.now c.cut.result.0.now (seen found.parameters.items) = subst (IsRouteOf c.as_slice-2.result.now c.cut.result.0.now) c.in-Some.is c.in_ok-route.ensures in
    ap length c.as_slice-in-Some.ensures.value ∙ (sym (length-map found.parameters.items (λ (part : Bor (List ℕ)). part.now)) ∙ fits-arity found.route c.as_slice-2.result.now c.cut.result.0.now (seen found.parameters.items) fits)

pub returns-in-Some : goal.returns-in-Some
returns-in-Some c =
    let message = c.args.message.now in
    let found = c.in-Some.field-0 in
    let path = c.cut.result.0.now in
    let parts = c.as_slice-in-Some.result.now in
    let fits : Fits found.route c.as_slice-2.result.now path (seen found.parameters.items) = subst (IsRouteOf c.as_slice-2.result.now path) c.in-Some.is c.in_ok-route.ensures in
    let so : Fits found.route message.method path (seen found.parameters.items) = subst (λ (m : List ℕ). Fits found.route m path (seen found.parameters.items)) c.as_slice-2.ensures fits in
    let these : Fits found.route message.method path (seen parts) = subst (λ (ps : List (Bor (List ℕ))). Fits found.route message.method path (seen ps)) (sym c.as_slice-in-Some.ensures.value) so in
    routed-some message found.route (seen parts) path c.cut.result.1.now c.as_slice-body.result.now c.route_call.result
    (c.cut.ensures.before ∙ ap path_of c.as_slice.ensures) (c.cut.ensures.behind ∙ ap query_of c.as_slice.ensures) c.as_slice-body.ensures these c.route_call.ensures

pub returns-in-None : goal.returns-in-None
returns-in-None c =
    let message = c.args.message.now in
    let path = c.cut.result.0.now in
    let found : IsRouteOf message.method path c.in_ok-route.field-0 = subst (λ (m : List ℕ). IsRouteOf m path c.in_ok-route.field-0) c.as_slice-2.ensures c.in_ok-route.ensures in
    let none : IsRouteOf message.method path None = subst (λ (o : Option Found). IsRouteOf message.method path o) c.in-None.is found in
    routed-none message path c.no_route.result (c.cut.ensures.before ∙ ap path_of c.as_slice.ensures) none c.no_route.ensures
