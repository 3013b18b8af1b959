-- No two routes fit one method and path.
use Rattle.std.proofs.Common.{◌≡◌, ℕ, Bool, true, false, not, ◌&&◌, ◌||◌, List, [], ◌∷◌, Option, Some, None, cond, codes, refl, sym, ◌∙◌, eqb, arith}
use Rattle.std.specs.List.{list_all}
use Rattle.std.specs.Option.{option_map}
use Rattle.std.specs.Str.{bytes_eq}
use Rattle.std.specs.Cmp.Lexicographic.{same_text}
use Rattle.std.proofs.lemmas.Bool.{false≢true}
use Rattle.std.proofs.lemmas.Bool.Decides.{nat_tests}
use Rattle.std.proofs.lemmas.Slice.Eq.{bytes_eq-Decides}
use Rattle.route_table.specs.declared.path.PathForm.{PathForm}
use Rattle.route_table.specs.declared.path.PathForm.TheVariants as paths
use Rattle.route_table.specs.declared.route.Route.{Route}
use Rattle.route_table.specs.declared.route.Route.TheVariants.{Ping, CreateTask, Task, Status, ScheduleTask, RerunTask, CancelTask, ClaimWork, ClaimWorkInTwo, ReclaimTask, ReportCompleted, ReportFailed, ReportException, ListTaskGroup, ListDependentTasks, PendingTasks, PendingTasksInTwo, TriggerHook}
use Rattle.route_table.specs.Contents.{number_of}
use Rattle.route_table.specs.Fits.{NoTwoFit}
use Rattle.route_table.specs.Routes.{segments_of, path_of, method_of}
use Rattle.route_table.specs.Segments.{Segment, word, parameter, parameters_in, parts_of}
use Rattle.route_table.proofs.FormLemmas.{forms, each_form, same_form}

-- two routes may fit one path: their words are the same where both have one
abbrev meet : List Segment → List Segment → Bool
meet [] [] = true
meet [] (other ∷ others) = false
meet (one ∷ ones) [] = false
meet (word w ∷ ones) (word v ∷ others) = bytes_eq w v && meet ones others
meet (word w ∷ ones) (parameter ∷ others) = meet ones others
meet (parameter ∷ ones) (other ∷ others) = meet ones others

bytes_eq-same : (bytes : List ℕ) → bytes_eq bytes bytes ≡ true
bytes_eq-same bytes = (bytes_eq-Decides bytes bytes).1 refl

-- the first part that a route fits, and the others
word_fits : (w part : List ℕ) (segments : List Segment) (parts xs : List (List ℕ)) (same : Bool) → bytes_eq part w ≡ same → cond same (parameters_in segments parts) None ≡ Some xs → (part ≡ w) × (parameters_in segments parts ≡ Some xs)
word_fits w part segments parts xs true is e = (same_text part w (sym is), e)
word_fits w part segments parts xs false is e = cc

parameter_fits : (part : List ℕ) (rest : Option (List (List ℕ))) (xs : List (List ℕ)) → option_map (λ found. part ∷ found) rest ≡ Some xs → (more : List (List ℕ)) × (rest ≡ Some more)
parameter_fits part None xs e = cc
parameter_fits part (Some more) xs e = (more, refl)

both_fit : (ones others : List Segment) (parts xs ys : List (List ℕ)) → parameters_in ones parts ≡ Some xs → parameters_in others parts ≡ Some ys → meet ones others ≡ true
both_fit [] [] parts xs ys one other = refl
both_fit [] (s ∷ others) [] xs ys one other = cc
both_fit [] (s ∷ others) (part ∷ parts) xs ys one other = cc
both_fit (s ∷ ones) [] [] xs ys one other = cc
both_fit (s ∷ ones) [] (part ∷ parts) xs ys one other = cc
both_fit (s ∷ ones) (t ∷ others) [] xs ys one other = cc
both_fit (word w ∷ ones) (word v ∷ others) (part ∷ parts) xs ys one other =
    let a = word_fits w part ones parts xs (bytes_eq part w) refl one in
    let b = word_fits v part others parts ys (bytes_eq part v) refl other in
    rw (← (sym a.0 ∙ b.0), bytes_eq-same w) (both_fit ones others parts xs ys a.1 b.1)
both_fit (word w ∷ ones) (parameter ∷ others) ([] ∷ parts) xs ys one other = cc
both_fit (word w ∷ ones) (parameter ∷ others) ((p ∷ ps) ∷ parts) xs ys one other =
    let a = word_fits w (p ∷ ps) ones parts xs (bytes_eq (p ∷ ps) w) refl one in
    let b = parameter_fits (p ∷ ps) (parameters_in others parts) ys other in
    both_fit ones others parts xs b.0 a.1 b.1
both_fit (parameter ∷ ones) (t ∷ others) ([] ∷ parts) xs ys one other = cc
both_fit (parameter ∷ ones) (word v ∷ others) ((p ∷ ps) ∷ parts) xs ys one other =
    let a = parameter_fits (p ∷ ps) (parameters_in ones parts) xs one in
    let b = word_fits v (p ∷ ps) others parts ys (bytes_eq (p ∷ ps) v) refl other in
    both_fit ones others parts a.0 ys a.1 b.1
both_fit (parameter ∷ ones) (parameter ∷ others) ((p ∷ ps) ∷ parts) xs ys one other =
    let a = parameter_fits (p ∷ ps) (parameters_in ones parts) xs one in
    let b = parameter_fits (p ∷ ps) (parameters_in others parts) ys other in
    both_fit ones others parts a.0 b.0 a.1 b.1

-- no two forms do
met_once : list_all (λ one. list_all (λ other. eqb (number_of one) (number_of other) || not (meet (segments_of one) (segments_of other))) forms) forms ≡ true
met_once = refl

one_form : (one other : PathForm) → meet (segments_of one) (segments_of other) ≡ true → one ≡ other
one_form one other meets = by (eqb (number_of one) (number_of other)) refl
  where
    all : (eqb (number_of one) (number_of other) || not (meet (segments_of one) (segments_of other))) ≡ true
    all = each_form (λ f. eqb (number_of one) (number_of f) || not (meet (segments_of one) (segments_of f))) (each_form (λ g. list_all (λ f. eqb (number_of g) (number_of f) || not (meet (segments_of g) (segments_of f))) forms) met_once one) other

    by : (same : Bool) → eqb (number_of one) (number_of other) ≡ same → one ≡ other
    by true e = same_form one other (grind (arith, nat_tests))
    by false e = absurd (false≢true (rw (e, meets) at all))

-- the route of a form and a method
abbrev back : PathForm → Bool → Route
back paths.Ping put = Ping
back paths.Task true = CreateTask
back paths.Task false = Task
back paths.Status put = Status
back paths.Schedule put = ScheduleTask
back paths.Rerun put = RerunTask
back paths.Cancel put = CancelTask
back paths.Claim put = ClaimWork
back paths.ClaimInTwo put = ClaimWorkInTwo
back paths.Reclaim put = ReclaimTask
back paths.Completed put = ReportCompleted
back paths.Failed put = ReportFailed
back paths.Exception put = ReportException
back paths.Group put = ListTaskGroup
back paths.Dependents put = ListDependentTasks
back paths.Pending put = PendingTasks
back paths.PendingInTwo put = PendingTasksInTwo
back paths.Trigger put = TriggerHook

back_at : (route : Route) → back (path_of route) (bytes_eq (method_of route) (codes "PUT")) ≡ route
back_at Ping = refl
back_at CreateTask = refl
back_at Task = refl
back_at Status = refl
back_at ScheduleTask = refl
back_at RerunTask = refl
back_at CancelTask = refl
back_at ClaimWork = refl
back_at ClaimWorkInTwo = refl
back_at ReclaimTask = refl
back_at ReportCompleted = refl
back_at ReportFailed = refl
back_at ReportException = refl
back_at ListTaskGroup = refl
back_at ListDependentTasks = refl
back_at PendingTasks = refl
back_at PendingTasksInTwo = refl
back_at TriggerHook = refl

-- a path has one form
pub form_once : (one other : PathForm) (path : List ℕ) (xs ys : List (List ℕ)) → parameters_in (segments_of one) (parts_of path) ≡ Some xs → parameters_in (segments_of other) (parts_of path) ≡ Some ys → one ≡ other
form_once one other path xs ys first second = one_form one other (both_fit (segments_of one) (segments_of other) (parts_of path) xs ys first second)

pub no_two_fit : NoTwoFit
no_two_fit one other method path xs ys first second =
    let forms = form_once (path_of one) (path_of other) path xs ys first.path_is second.path_is in
    let methods = sym first.method_is ∙ second.method_is in
    sym (back_at one) ∙ rw (forms, methods) refl ∙ back_at other
