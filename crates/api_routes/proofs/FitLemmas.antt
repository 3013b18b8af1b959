-- A path that fits a route gives as many parts as the route has parameters.
use Rattle.std.proofs.Common.{◌≡◌, ℕ, ◌+◌, Bool, true, false, cond, List, [], ◌∷◌, length, Option, Some, None, refl, sym, ◌∙◌, arith}
use Rattle.std.specs.List.{count_by}
use Rattle.std.specs.Option.{option_map}
use Rattle.std.specs.Str.{bytes_eq}
use Rattle.std.proofs.lemmas.List.Sums.{sum_by-cons}
use Rattle.route_table.specs.declared.route.Route.{Route}
use Rattle.route_table.specs.Fits.{Fits}
use Rattle.route_table.specs.Routes.{path_of, segments_of}
use Rattle.route_table.specs.Segments.{Segment, word, parameter, parameters_in, parts_of}
use Rattle.api_routes.specs.Arity.{is_parameter, arity}

-- a part of a path fits that of a route
abbrev fits : Segment → List ℕ → Bool
fits (word w) part = bytes_eq part w
fits parameter [] = false
fits parameter (b ∷ bs) = true

-- one part more
fit_step : (s : Segment) (ss : List Segment) (part : List ℕ) (parts : List (List ℕ)) → parameters_in (s ∷ ss) (part ∷ parts) ≡ cond (fits s part) (cond (is_parameter s) (option_map (λ more. part ∷ more) (parameters_in ss parts)) (parameters_in ss parts)) None
fit_step (word w) ss part parts = refl
fit_step parameter ss [] parts = refl
fit_step parameter ss (b ∷ bs) parts = refl

count_step : (fit takes : Bool) (part : List ℕ) (rest : Option (List (List ℕ))) (n : ℕ) (found : List (List ℕ)) → ((more : List (List ℕ)) → rest ≡ Some more → length more ≡ n) → cond fit (cond takes (option_map (λ more. part ∷ more) rest) rest) None ≡ Some found → length found ≡ cond takes 1 0 + n
count_step true true part None n found next e = cc
count_step true true part (Some more) n found next e =
    let is : found ≡ part ∷ more = cc in
    rw is (omega (arith, next more refl))
count_step true false part rest n found next e = omega (arith, next found e)
count_step false takes part rest n found next e = cc

fit_count : (ss : List Segment) (parts found : List (List ℕ)) → parameters_in ss parts ≡ Some found → length found ≡ count_by is_parameter ss
fit_count [] [] found e = let is : found ≡ [] = cc in rw is refl
fit_count [] (part ∷ parts) found e = cc
fit_count (word w ∷ ss) [] found e = cc
fit_count (parameter ∷ ss) [] found e = cc
fit_count (s ∷ ss) (part ∷ parts) found e =
    let step : cond (fits s part) (cond (is_parameter s) (option_map (λ more. part ∷ more) (parameters_in ss parts)) (parameters_in ss parts)) None ≡ Some found = sym (fit_step s ss part parts) ∙ e in
    count_step (fits s part) (is_parameter s) part (parameters_in ss parts) (count_by is_parameter ss) found (λ more is. fit_count ss parts more is) step ∙ sym (sum_by-cons (λ x. cond (is_parameter x) 1 0) s ss)

pub fits-arity : (route : Route) (method path : List ℕ) (parameters : List (List ℕ)) → Fits route method path parameters → length parameters ≡ arity route
fits-arity route method path parameters fit = fit_count (segments_of (path_of route)) (parts_of path) parameters fit.path_is
