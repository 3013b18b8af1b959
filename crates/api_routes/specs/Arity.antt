-- How many parameters a route has; for private clauses.
use Rattle.std.specs.Prelude.{ℕ, Bool, true, false, count_by}
use Rattle.route_table.specs.declared.route.Route.{Route}
use Rattle.route_table.specs.Routes.{path_of, segments_of}
use Rattle.route_table.specs.Segments.{Segment, word, parameter}

-- a part of a route stands for a parameter
abbrev pub is_parameter : Segment → Bool
is_parameter (word w) = false
is_parameter parameter = true

-- how many of a route's do
abbrev pub arity : Route → ℕ
arity route = count_by is_parameter (segments_of (path_of route))
