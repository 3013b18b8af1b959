-- The route of a method and a path, from the form that the path has.
use Rattle.std.proofs.Common.{◌≡◌, ◌≢◌, ℕ, ◌<◌, Bool, true, false, cond, List, [], ◌∷◌, length, Option, Some, None, is_some, MatchOption, nat_lt, refl, sym, ap, ◌∙◌, arith}
use Rattle.std.specs.Option.{option_map}
use Rattle.std.specs.Str.{bytes_eq}
use Rattle.std.proofs.lemmas.Bool.{false≢true}
use Rattle.std.proofs.lemmas.Bool.Decides.{nat_tests}
use Rattle.route_table.specs.declared.path.PathForm.{PathForm}
use Rattle.route_table.specs.declared.route.Route.{Route}
use Rattle.route_table.specs.Fits.{Fits}
use Rattle.route_table.specs.Routes.{segments_of, path_of, method_of}
use Rattle.route_table.specs.Segments.{Segment, word, parameter, parameters_in, parts_of}
use Rattle.route_table.specs.Texts.{picked}
use Rattle.route_table.specs.Tokens.{takes, tokens_of, masked}
use Rattle.route_table.proofs.FormLemmas.{each_form, plain}
use Rattle.route_table.proofs.MaskLemmas.{takes_masked}
use Rattle.route_table.proofs.MeetLemmas.{form_once}
use Rattle.route_table.proofs.TakeLemmas.{takes-fits-all}

-- what was found of a path
abbrev pub IsFormOf : List ℕ → Option PathForm → Type 0
IsFormOf path found = MatchOption found ((form : PathForm) → takes false (tokens_of (segments_of form)) path ≡ false) (λ form. takes false (tokens_of (segments_of form)) path ≡ true)

pub masked_found : (path shown : List ℕ) (found : Option PathForm) → shown ≡ masked path → IsFormOf shown found → IsFormOf path found
masked_found path shown None is none = λ form. sym (takes_masked form path) ∙ rw (← is) (none form)
masked_found path shown (Some form) is some = sym (takes_masked form path) ∙ rw (← is) some

some_parts : (form : PathForm) → 0 < length (segments_of form)
some_parts form = by (nat_lt 0 (length (segments_of form))) refl (each_form (λ f. nat_lt 0 (length (segments_of f))) refl form)
  where
    by : (some : Bool) → nat_lt 0 (length (segments_of form)) ≡ some → some ≡ true → 0 < length (segments_of form)
    by true e is = grind (arith, nat_tests)
    by false e is = absurd (false≢true is)

taken_is : (form : PathForm) (path : List ℕ) → takes false (tokens_of (segments_of form)) path ≡ is_some (parameters_in (segments_of form) (parts_of path))
taken_is form path = takes-fits-all (segments_of form) path (some_parts form) (plain form)

-- the parameters of a path that a form takes
taken_has : (found : Option (List (List ℕ))) → is_some found ≡ true → (xs : List (List ℕ)) × (found ≡ Some xs)
taken_has None is = absurd (false≢true is)
taken_has (Some xs) is = (xs, refl)

has_taken : (found : Option (List (List ℕ))) (xs : List (List ℕ)) → found ≡ Some xs → is_some found ≡ true
has_taken found xs is = rw is refl

pub no_form : (method path : List ℕ) → ((form : PathForm) → takes false (tokens_of (segments_of form)) path ≡ false) → (route : Route) (xs : List (List ℕ)) → ¬ Fits route method path xs
no_form method path none route xs fits =
    false≢true (sym (none (path_of route)) ∙ taken_is (path_of route) path ∙ has_taken (parameters_in (segments_of (path_of route)) (parts_of path)) xs fits.path_is)

pub no_method : (method path : List ℕ) (form : PathForm) → takes false (tokens_of (segments_of form)) path ≡ true → ((route : Route) → path_of route ≡ form → method ≢ method_of route) → (route : Route) (xs : List (List ℕ)) → ¬ Fits route method path xs
no_method method path form taken none route xs fits =
    let held = taken_has (parameters_in (segments_of form) (parts_of path)) (sym (taken_is form path) ∙ taken) in
    none route (form_once (path_of route) form path xs held.0 fits.path_is held.1) fits.method_is

-- what fits is what was picked
picked_word : (w part : List ℕ) (rest : Option (List (List ℕ))) (xs more : List (List ℕ)) (same : Bool) → (rest ≡ Some xs → xs ≡ more) → cond same rest None ≡ Some xs → xs ≡ more
picked_word w part rest xs more true next e = next e
picked_word w part rest xs more false next e = cc

picked_part : (part : List ℕ) (rest : Option (List (List ℕ))) (xs more : List (List ℕ)) → ((ys : List (List ℕ)) → rest ≡ Some ys → ys ≡ more) → option_map (λ found. part ∷ found) rest ≡ Some xs → xs ≡ part ∷ more
picked_part part None xs more next e = cc
picked_part part (Some ys) xs more next e = let same = next ys refl in cc

fits_picked : (segments : List Segment) (parts xs : List (List ℕ)) → parameters_in segments parts ≡ Some xs → xs ≡ picked segments parts
fits_picked [] [] xs e = cc
fits_picked [] (part ∷ parts) xs e = cc
fits_picked (segment ∷ segments) [] xs e = cc
fits_picked (word w ∷ segments) (part ∷ parts) xs e = picked_word w part (parameters_in segments parts) xs (picked segments parts) (bytes_eq part w) (fits_picked segments parts xs) e
fits_picked (parameter ∷ segments) ([] ∷ parts) xs e = cc
fits_picked (parameter ∷ segments) ((b ∷ bs) ∷ parts) xs e = picked_part (b ∷ bs) (parameters_in segments parts) xs (picked segments parts) (fits_picked segments parts) e

pub fits_found : (route : Route) (form : PathForm) (method path : List ℕ) (segments : List Segment) (xs : List (List ℕ)) → takes false (tokens_of (segments_of form)) path ≡ true → path_of route ≡ form → method ≡ method_of route → segments ≡ segments_of form → xs ≡ picked segments (parts_of path) → Fits route method path xs
fits_found route form method path segments xs taken is by spelled parts =
    let held = taken_has (parameters_in (segments_of form) (parts_of path)) (sym (taken_is form path) ∙ taken) in
    let these : held.0 ≡ xs = fits_picked (segments_of form) (parts_of path) held.0 held.1 ∙ sym (parts ∙ ap (λ s. picked s (parts_of path)) spelled) in
    record { method_is = by; path_is = rw is (held.1 ∙ ap Some these) }
