-- Which route a method and a path have.
use Rattle.std.specs.Prelude.{◌≡◌, ℕ, List, map, Option, Some, None}
use Rattle.route_table.specs.declared.route.Route.{Route}
use Rattle.route_table.specs.declared.table.Found.{Found}
use Rattle.route_table.specs.Routes.{method_of, path_of, segments_of}
use Rattle.route_table.specs.Segments.{parameters_in, parts_of}

-- a method and a path fit a route, and these parts of the path stand for its parameters, as they are written there
pub record Fits (route : Route) (method path : List ℕ) (parameters : List (List ℕ)) : Type 0 where
  pub method_is : method ≡ method_of route
  pub path_is : parameters_in (segments_of (path_of route)) (parts_of path) ≡ Some parameters

-- this is the route of a method and a path, with its parameters; or there is none
abbrev pub IsRouteOf : List ℕ → List ℕ → Option Found → Type 0
IsRouteOf method path None = (route : Route) (parameters : List (List ℕ)) → ¬ Fits route method path parameters
IsRouteOf method path (Some found) = Fits found.route method path (map (λ part. part.now) found.parameters.items)

-- no two routes fit one method and path
abbrev pub NoTwoFit : Type 0
NoTwoFit =
    (one other : Route) (method path : List ℕ) (xs ys : List (List ℕ)) → Fits one method path xs → Fits other method path ys → one ≡ other
