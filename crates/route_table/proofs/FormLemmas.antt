-- What holds of the forms of the table, each fact by one look at all of them.
use Rattle.std.proofs.Common.{◌≡◌, ℕ, zero, suc, ◌<◌, Bool, true, false, not, ◌||◌, List, [], ◌∷◌, length, get_or, refl, sym, ap, ◌∙◌, subst, eqb, nat_lt, arith}
use Rattle.std.specs.List.{list_all}
use Rattle.std.proofs.lemmas.Bool.{false≢true}
use Rattle.std.proofs.lemmas.Bool.Decides.{nat_tests}
use Rattle.matchit.specs.Conflict.{conflicts}
use Rattle.route_table.specs.declared.path.PathForm.{PathForm}
use Rattle.route_table.specs.declared.path.PathForm.TheVariants.{Ping, Task, Status, Schedule, Rerun, Cancel, Claim, ClaimInTwo, Reclaim, Completed, Failed, Exception, Group, Dependents, Pending, PendingInTwo, Trigger}
use Rattle.route_table.specs.Contents.{number_of}
use Rattle.route_table.specs.Routes.{segments_of}
use Rattle.route_table.specs.Tokens.{tokens_of}
use Rattle.route_table.proofs.TakeLemmas.{and_first, and_second, is_plain_segment}
use Rattle.route_table.proofs.SeekLemmas.{is_whole}

-- all forms
abbrev pub forms : List PathForm
forms =
    Ping ∷ Task ∷ Status ∷ Schedule ∷ Rerun ∷ Cancel ∷ Claim ∷ ClaimInTwo ∷ Reclaim ∷ Completed ∷ Failed ∷ Exception ∷ Group ∷ Dependents ∷ Pending ∷ PendingInTwo ∷ Trigger ∷ []

form_at : (form : PathForm) → get_or forms (number_of form) Ping ≡ form
form_at Ping = refl
form_at Task = refl
form_at Status = refl
form_at Schedule = refl
form_at Rerun = refl
form_at Cancel = refl
form_at Claim = refl
form_at ClaimInTwo = refl
form_at Reclaim = refl
form_at Completed = refl
form_at Failed = refl
form_at Exception = refl
form_at Group = refl
form_at Dependents = refl
form_at Pending = refl
form_at PendingInTwo = refl
form_at Trigger = refl

pub few_forms : (form : PathForm) → number_of form < 17
few_forms form = by (nat_lt (number_of form) 17) refl (below form)
  where
    below : (form : PathForm) → nat_lt (number_of form) 17 ≡ true
    below Ping = refl
    below Task = refl
    below Status = refl
    below Schedule = refl
    below Rerun = refl
    below Cancel = refl
    below Claim = refl
    below ClaimInTwo = refl
    below Reclaim = refl
    below Completed = refl
    below Failed = refl
    below Exception = refl
    below Group = refl
    below Dependents = refl
    below Pending = refl
    below PendingInTwo = refl
    below Trigger = refl

    by : (less : Bool) → nat_lt (number_of form) 17 ≡ less → less ≡ true → number_of form < 17
    by true e is = grind (arith, nat_tests)
    by false e is = absurd (false≢true is)

pub same_form : (one other : PathForm) → number_of one ≡ number_of other → one ≡ other
same_form one other e = sym (form_at one) ∙ ap (λ n. get_or forms n Ping) e ∙ form_at other

pass_at : (test : PathForm → Bool) (list : List PathForm) (n : ℕ) → list_all test list ≡ true → n < length list → test (get_or list n Ping) ≡ true
pass_at test [] n all less = absurd (omega arith)
pass_at test (form ∷ list) zero all less = and_first (test form) (list_all test list) all
pass_at test (form ∷ list) (suc n) all less = pass_at test list n (and_second (test form) (list_all test list) all) (omega arith)

-- what holds of each of the list holds of each form
pub each_form : (test : PathForm → Bool) → list_all test forms ≡ true → (form : PathForm) → test form ≡ true
each_form test all form = subst (λ f. test f ≡ true) (form_at form) (pass_at test forms (number_of form) all (few_forms form))

pub plain : (form : PathForm) → list_all is_plain_segment (segments_of form) ≡ true
plain form = each_form (λ f. list_all is_plain_segment (segments_of f)) refl form

pub whole : (form : PathForm) → is_whole (tokens_of (segments_of form)) ≡ true
whole form = each_form (λ f. is_whole (tokens_of (segments_of f))) refl form

-- no two conflict
abbrev clash : PathForm → PathForm → Bool
clash one other = conflicts (tokens_of (segments_of one)) (tokens_of (segments_of other))

clash_free : list_all (λ one. list_all (λ other. eqb (number_of one) (number_of other) || not (clash one other)) forms) forms ≡ true
clash_free = refl

pub no_clash : (one other : PathForm) → number_of other < number_of one → conflicts (tokens_of (segments_of one)) (tokens_of (segments_of other)) ≡ false
no_clash one other less = by (clash one other) refl
  where
    all : (eqb (number_of one) (number_of other) || not (clash one other)) ≡ true
    all = each_form (λ f. eqb (number_of one) (number_of f) || not (clash one f)) (each_form (λ g. list_all (λ f. eqb (number_of g) (number_of f) || not (clash g f)) forms) clash_free one) other

    differ : eqb (number_of one) (number_of other) ≡ false
    differ = grind (arith, nat_tests)

    by : (clashes : Bool) → clash one other ≡ clashes → clashes ≡ false
    by false e = refl
    by true e = absurd (false≢true (rw (differ, e) at all))
