-- The call of a message, by its route or without one.
use Rattle.std.proofs.Common.{◌≡◌, ℕ, List, map, Result, Ok, Err, IfOk, inl, inr, refl, ap, ◌∙◌, subst}
use Rattle.std.specs.declared.alloc.AllocError.{AllocError}
use Rattle.percent_encoding.specs.Percent.{percent_decode}
use Rattle.http_wire.specs.declared.message.Message.{Message}
use Rattle.route_table.specs.declared.route.Route.{Route}
use Rattle.route_table.specs.Fits.{Fits}
use Rattle.farm_asks.specs.declared.question.Call.{Call}
use Rattle.farm_asks.specs.declared.question.Call.TheVariants.{NoRoute}
use Rattle.api_routes.specs.Calls.{Request, Calls}
use Rattle.api_routes.specs.Names.{route_name}
use Rattle.api_routes.specs.Routes.{path_of, query_of, request_of, IsCallOf}

-- what a call of these parts of a path, a query and a body is read from
abbrev pub request_for : List ℕ → List ℕ → List (List ℕ) → Request
request_for query body parameters =
    record { parts = map percent_decode parameters; query = query; body = body }

pub routed-some : (message : Message) (route : Route) (parameters : List (List ℕ)) (path query body : List ℕ) (r : Result Call AllocError) → path ≡ path_of message.target → query ≡ query_of message.target → body ≡ message.body
    → Fits route message.method path parameters → IfOk r (Calls route (request_for query body parameters)) → IfOk r (IsCallOf message)
unfolding IsCallOf
routed-some message route parameters path query body (Ok call) at asks says fits calls =
    let request : request_for query body parameters ≡ request_of message parameters = rw (asks, says) refl in
    inl (route, parameters, subst (λ (p : List ℕ). Fits route message.method p parameters) at fits, subst (λ (r : Request). Calls route r call) request calls)
routed-some message route parameters path query body (Err e) at asks says fits calls = tt

pub routed-none : (message : Message) (path : List ℕ) (r : Result Call AllocError) → path ≡ path_of message.target → ((route : Route) (parameters : List (List ℕ)) → ¬ Fits route message.method path parameters)
    → IfOk r (λ call. call ≡ NoRoute (route_name path)) → IfOk r (IsCallOf message)
unfolding IsCallOf
routed-none message path (Ok call) at none is =
    inr (subst (λ (p : List ℕ). (route : Route) (parameters : List (List ℕ)) → ¬ Fits route message.method p parameters) at none, is ∙ ap (λ (p : List ℕ). NoRoute (route_name p)) at)
routed-none message path (Err e) at none is = tt
