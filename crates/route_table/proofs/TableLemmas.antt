-- What the router of the table holds, and what it finds.
use Rattle.std.proofs.Common.{◌≡◌, ℕ, ◌+◌, ◌<◌, Bool, true, false, cond, List, [], ◌∷◌, Option, Some, None, Result, Ok, Err, refl, sym, ap, ◌∙◌, ◌==◌, suc, get_or, Fits, w8, arith, inl, inr, MatchOption}
use Rattle.std.specs.List.{All}
use Rattle.std.proofs.lemmas.List.Elements.{All-nil, All-cons}
use Rattle.std.proofs.lemmas.Bool.Decides.{nat_tests}
use Rattle.matchit.specs.Order.{placed}
use Rattle.matchit.specs.Route.{Scan}
use Rattle.matchit.specs.Router.{RouteOf, InsertsRead, Refused, nearest, route_from}
use Rattle.matchit.specs.Rows.{RowsOf, comes_before}
use Rattle.matchit.specs.Seek.{first}
use Rattle.matchit.specs.declared.error.InsertError.{InsertError}
use Rattle.matchit.specs.declared.error.InsertError.TheVariants.{Conflict, InvalidParam, InvalidParamSegment, InvalidCatchAll, OutOfMemory}
use Rattle.route_table.specs.declared.path.PathForm.{PathForm}
use Rattle.route_table.specs.Contents.{number_of, AreForms, HasForm, Holds}
use Rattle.route_table.specs.Routes.{segments_of}
use Rattle.route_table.specs.Texts.{IsPattern}
use Rattle.route_table.specs.Tokens.{tokens_of, takes}
use Rattle.route_table.proofs.FormLemmas.{few_forms, same_form, whole, no_clash}
use Rattle.route_table.proofs.SeekLemmas.{NoRow, SomeRow, Answers, all_whole, seek_answers}

abbrev Routes : Type 0
Routes = RowsOf (RouteOf PathForm)

-- ---- one form more

-- none of the rows conflicts with the next form
nearest_none : (form : PathForm) (count : ℕ) (rows : Routes) → number_of form ≡ count → AreForms count rows → nearest (tokens_of (segments_of form)) rows ≡ None
nearest_none form count [] is are = refl
nearest_none form count ((tokens, route) ∷ rows) is (these, less, are) =
    rw (these, no_clash form route.value (rw is less)) (nearest_none form count rows is are)

more_forms : (count : ℕ) (rows : Routes) → AreForms count rows → AreForms (count + 1) rows
more_forms count [] are = tt
more_forms count ((tokens, route) ∷ rows) (these, less, are) = (these, omega arith, more_forms count rows are)

placed_forms : (count : ℕ) (tokens : List ℕ) (route : RouteOf PathForm) (rows : Routes) → tokens ≡ tokens_of (segments_of route.value) → number_of route.value < count + 1 → AreForms count rows → AreForms (count + 1) (placed (tokens, route) rows)
placed_forms count tokens route [] is less are = (is, less, tt)
placed_forms count tokens route ((others, other) ∷ rows) is less (these, lesser, are) =
    by (comes_before tokens others) (these, omega arith, more_forms count rows are) (placed_forms count tokens route rows is less are)
  where
    by : (before : Bool) → AreForms (count + 1) ((others, other) ∷ rows) → AreForms (count + 1) (placed (tokens, route) rows) → AreForms (count + 1) (cond before ((tokens, route) ∷ (others, other) ∷ rows) ((others, other) ∷ placed (tokens, route) rows))
    by true old new = (is, less, old)
    by false old new = (old.0, old.1, new)

placed_here : (tokens : List ℕ) (route : RouteOf PathForm) (rows : Routes) → HasForm route.value (placed (tokens, route) rows)
placed_here tokens route [] = inl refl
placed_here tokens route ((others, other) ∷ rows) = by (comes_before tokens others) (placed_here tokens route rows)
  where
    by : (before : Bool) → HasForm route.value (placed (tokens, route) rows) → HasForm route.value (cond before ((tokens, route) ∷ (others, other) ∷ rows) ((others, other) ∷ placed (tokens, route) rows))
    by true later = inl refl
    by false later = inr later

placed_there : (form : PathForm) (tokens : List ℕ) (route : RouteOf PathForm) (rows : Routes) → HasForm form rows → HasForm form (placed (tokens, route) rows)
placed_there form tokens route [] has = inr has
placed_there form tokens route ((others, other) ∷ rows) has = by (comes_before tokens others) has (placed_there form tokens route rows)
  where
    by : (before : Bool) → HasForm form ((others, other) ∷ rows) → (HasForm form rows → HasForm form (placed (tokens, route) rows)) → HasForm form (cond before ((tokens, route) ∷ (others, other) ∷ rows) ((others, other) ∷ placed (tokens, route) rows))
    by true has later = inr has
    by false (inl here) later = inl here
    by false (inr there) later = inr (later there)

holds_placed : (form : PathForm) (tokens : List ℕ) (route : RouteOf PathForm) (rows : Routes) → tokens ≡ tokens_of (segments_of form) → route.value ≡ form → Holds (number_of form) rows → Holds (number_of form + 1) (placed (tokens, route) rows)
holds_placed form tokens route rows spelled is holds = record {
  each = placed_forms (number_of form) tokens route rows (spelled ∙ ap (λ f. tokens_of (segments_of f)) (sym is)) (rw is (omega arith)) holds.each;
  all = λ other less. by other (number_of other == number_of form) refl less;
}
  where
    by : (other : PathForm) (same : Bool) → (number_of other == number_of form) ≡ same → number_of other < number_of form + 1 → HasForm other (placed (tokens, route) rows)
    by other true e less =
        let numbers : number_of other ≡ number_of form = grind (arith, nat_tests) in
        let forms = same_form other form numbers in
        rw (forms ∙ sym is) (placed_here tokens route rows)
    by other false e less =
        let lesser : number_of other < number_of form = grind (arith, nat_tests) in
        placed_there other tokens route rows (holds.all other lesser)

-- the next form is inserted, or there is no memory
pub inserts : (form : PathForm) (read : Result Scan InsertError) (old new : Routes) → IsPattern (tokens_of (segments_of form)) read → Holds (number_of form) old → InsertsRead read form old new (Ok tt) → Holds (number_of form + 1) new
inserts form (Ok scan) old new reads holds (free, is) = rw is (holds_placed form scan.pattern (route_from scan form) old reads refl holds)
inserts form (Err error) old new reads holds made = absurd reads

refused : (tokens : List ℕ) (rows : Routes) (error : InsertError) → nearest tokens rows ≡ None → Refused tokens rows error → error ≡ OutOfMemory
refused tokens rows (Conflict with) none (route, near, text) = let both = sym none ∙ near in cc
refused tokens rows OutOfMemory none why = refl
refused tokens rows InvalidParamSegment none why = absurd why
refused tokens rows InvalidParam none why = absurd why
refused tokens rows InvalidCatchAll none why = absurd why

pub refuses : (form : PathForm) (read : Result Scan InsertError) (old new : Routes) (error : InsertError) → IsPattern (tokens_of (segments_of form)) read → Holds (number_of form) old → InsertsRead read form old new (Err error) → error ≡ OutOfMemory
refuses form (Ok scan) old new error reads holds (same, why) =
    refused scan.pattern old error (rw reads (nearest_none form (number_of form) old refl holds.each)) why
refuses form (Err e) old new error reads holds made = absurd reads

-- ---- what is found
rows_whole : (count : ℕ) (rows : Routes) → AreForms count rows → all_whole rows ≡ true
rows_whole count [] are = refl
rows_whole count ((tokens, route) ∷ rows) (these, less, are) = rw (these, whole route.value, rows_whole count rows are) refl

some_taken : (path : List ℕ) (count : ℕ) (route : RouteOf PathForm) (rows : Routes) → AreForms count rows → SomeRow (λ tokens. takes false tokens path) route rows → takes false (tokens_of (segments_of route.value)) path ≡ true
some_taken path count route [] are found = absurd found
some_taken path count route ((tokens, other) ∷ rows) (these, less, are) (inl (taken, is)) =
    let same : tokens ≡ tokens_of (segments_of route.value) = these ∙ ap (λ r. tokens_of (segments_of r.value)) is in
    rw (← same) taken
some_taken path count route ((tokens, other) ∷ rows) (these, less, are) (inr there) = some_taken path count route rows are there

none_taken : (path : List ℕ) (count : ℕ) (form : PathForm) (rows : Routes) → AreForms count rows → HasForm form rows → NoRow (λ tokens. takes false tokens path) rows → takes false (tokens_of (segments_of form)) path ≡ false
none_taken path count form [] are has none = absurd has
none_taken path count form ((tokens, route) ∷ rows) (these, less, are) (inl is) (this, rest) =
    let same : tokens ≡ tokens_of (segments_of form) = these ∙ ap (λ f. tokens_of (segments_of f)) is in
    rw (← same) this
none_taken path count form ((tokens, route) ∷ rows) (these, less, are) (inr there) (this, rest) = none_taken path count form rows are there rest

found_by : (path : List ℕ) (rows : Routes) (found : Option (RouteOf PathForm)) → Holds 17 rows → Answers (λ tokens. takes false tokens path) rows found → MatchOption found ((form : PathForm) → takes false (tokens_of (segments_of form)) path ≡ false) (λ route. takes false (tokens_of (segments_of route.value)) path ≡ true)
found_by path rows None holds none = λ form. none_taken path 17 form rows holds.each (holds.all form (few_forms form)) none
found_by path rows (Some route) holds some = some_taken path 17 route rows holds.each some

-- the bytes of a text
pub bytes_of : (path : List ℕ) → ((i : ℕ) → Fits w8 (get_or path i 0)) → All (λ b. b < 256) path
bytes_of [] small = All-nil (λ b. b < 256)
bytes_of (b ∷ path) small = All-cons (λ x. x < 256) b path (omega (arith, small 0)) (bytes_of path (λ i. small (suc i)))

pub first_is : (path : List ℕ) (rows : Routes) (found : Option (RouteOf PathForm)) → Holds 17 rows → All (λ b. b < 256) path → first rows path ≡ found → MatchOption found ((form : PathForm) → takes false (tokens_of (segments_of form)) path ≡ false) (λ route. takes false (tokens_of (segments_of route.value)) path ≡ true)
first_is path rows found holds small is =
    found_by path rows found holds (rw (← is) (seek_answers path 0 rows small (rows_whole 17 rows holds.each)))
