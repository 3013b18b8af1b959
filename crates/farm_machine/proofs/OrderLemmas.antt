-- The first judgement in the one order: where each part strikes, that there is one, and that it is one.
use Rattle.std.proofs.Common.{◌≡◌, ◌⊎◌, ℕ, IfSome, IfOk, Result, Ok, Err, inl, inr, List, [], ◌∷◌, ◌++◌, map, Option, Some, None, option_map, refl, sym, ap, ◌∙◌, subst}
use Rattle.scope_sets.specs.Expressions.{Expression, missing}
use Rattle.farm_text.specs.Document.{document_text}
use Rattle.farm_asks.specs.declared.config.Config.{Config}
use Rattle.farm_asks.specs.declared.question.Caller.{Caller}
use Rattle.farm_asks.specs.declared.reply.Answer.{Answer}
use Rattle.farm_asks.specs.Access.{Access, Has, Refused, HasAccess}
use Rattle.task_types.specs.declared.change.Kind.{Kind}
use Rattle.task_index.specs.Contents.{Contents}
use Rattle.task_index.specs.Plans as tasks
use Rattle.farm_machine.specs.declared.judged.Judged.{Judged}
use Rattle.farm_machine.specs.Case.{Setting, Deed, Rule, Case, passing, changing, IsFirstRule}
use Rattle.farm_machine.specs.Changes.{changed}
use Rattle.farm_machine.specs.Judgement.{Judgement, only_answer}
use Rattle.farm_machine.specs.Order.{Form, has_no_route, has_bad_parameter, has_bad_body, asks, asks_then, route_of, parameter_of, body_of, case_of, Strikes, HasNoAccess, LacksScopes, IsEnded, full, IsDone, done, IsFirst, ending, GoesOn, behind, front, in_order}
use Rattle.farm_machine.specs.Planned.{judgement_of}
use Rattle.farm_machine.specs.Refused.{Passes, IsRefusal, IsJudged, IsFinished, IsMade}
use Rattle.farm_asks.specs.Replies.{ok, insufficient_scopes}
use Rattle.farm_asks.proofs.AccessLemmas.{HasAccess-one}

-- ---- where each part strikes

-- where there is no answer, none strikes
idle : (answer : Option Answer) → answer ≡ None → (other : Judgement) → ¬ Strikes answer other
idle None is other strikes = strikes
idle (Some a) is other strikes = cc

-- and where there is one, it does
struck : (answer : Option Answer) (a : Answer) → answer ≡ Some a → Strikes answer (only_answer a)
struck None a is = cc
struck (Some b) a is = let same : b ≡ a = cc in ap only_answer (sym same)

-- whoever has access is not refused
pub not_refused : (config : Config) (moment : ℕ) (caller : Caller) (scopes : List (List ℕ)) → HasAccess config moment caller (Has scopes) → (other : Judgement) → ¬ HasNoAccess config moment caller other
not_refused config moment caller scopes has other refused =
    let same : Has scopes ≡ Refused refused.0 = HasAccess-one config moment caller (Has scopes) (Refused refused.0) has refused.1 in cc

-- what a caller has is one list
one_list : (config : Config) (moment : ℕ) (caller : Caller) (scopes others : List (List ℕ)) → HasAccess config moment caller (Has scopes) → HasAccess config moment caller (Has others) → scopes ≡ others
one_list config moment caller scopes others has too =
    let same : Has scopes ≡ Has others = HasAccess-one config moment caller (Has scopes) (Has others) has too in cc

-- whose scopes hold what is asked for lacks none
pub lacks_none : (config : Config) (moment : ℕ) (caller : Caller) (scopes : List (List ℕ)) (policy : Expression) → HasAccess config moment caller (Has scopes) → missing scopes policy ≡ None → (other : Judgement) → ¬ LacksScopes config moment caller policy other
lacks_none config moment caller scopes policy has none other lacks =
    let same : lacks.0 ≡ scopes = one_list config moment caller lacks.0 scopes lacks.1 has in
    idle (option_map insufficient_scopes (missing lacks.0 policy)) (rw (same, none) refl) other lacks.2

-- rules of which none ends the call are passed over
rules_pass : (rules : List Rule) (Ps : List (Judgement → Type 0)) (judgement : Judgement) → IsFirstRule rules None → IsFirst Ps judgement → IsFirst (map IsEnded rules ++ Ps) judgement
rules_pass [] Ps judgement none first = first
rules_pass (rule ∷ rules) Ps judgement (inl ended) first = let same = ended.1 in cc
rules_pass (rule ∷ rules) Ps judgement (inr (goes_on, rest)) first = inr (λ other ended. goes_on ended.0, rules_pass rules Ps judgement rest first)

-- the first that ends it gives its answer
rule_ends : (rules : List Rule) (Ps : List (Judgement → Type 0)) (a : Answer) → IsFirstRule rules (Some a) → IsFirst (map IsEnded rules ++ Ps) (only_answer a)
rule_ends [] Ps a is = cc
rule_ends (rule ∷ rules) Ps a (inl (ends, is)) = let same : a ≡ rule.answer = cc in inl (ends, ap only_answer same)
rule_ends (rule ∷ rules) Ps a (inr (goes_on, rest)) = inr (λ other ended. goes_on ended.0, rule_ends rules Ps a rest)

-- what comes behind the rules of a call
abbrev pub last_parts : Setting → Deed → List (Judgement → Type 0)
last_parts at deed = Strikes (full at.state deed.change) ∷ IsDone at deed ∷ []

-- whoever asks something has no fault of form, where its parameters name what they may
asks-first : (at : Setting) (caller : Caller) (case : Setting → Case) (Ps : List (Judgement → Type 0)) (judgement : Judgement) → (case at).parameter ≡ None → IsFirst (HasNoAccess at.state.config at.moment caller ∷ Strikes (case at).absent ∷ LacksScopes at.state.config at.moment caller (case at).policy ∷ Ps) judgement → IsFirst (front at caller (asks case) ++ Ps) judgement
asks-first at caller case Ps judgement named first =
    inr (λ other strikes. strikes, inr (idle (case at).parameter named, inr (λ other strikes. strikes, first)))

-- what refuses a call up to its policy, whatever is behind that
module _ (at : Setting) (caller : Caller) (case : Setting → Case) (Ps : List (Judgement → Type 0)) where
  -- a parameter names nothing that it may name
  pub asks-misnamed : (a : Answer) → (case at).parameter ≡ Some a → IsFirst (front at caller (asks case) ++ Ps) (only_answer a)
  asks-misnamed a misnamed = inr (λ other strikes. strikes, inl (struck (case at).parameter a misnamed))

  -- the caller is refused
  pub asks-refused : (a : Answer) → (case at).parameter ≡ None → HasAccess at.state.config at.moment caller (Refused a) → IsFirst (front at caller (asks case) ++ Ps) (only_answer a)
  asks-refused a named refused = asks-first at caller case Ps (only_answer a) named (inl (a, refused, refl))

  module _ (scopes : List (List ℕ)) (has : HasAccess at.state.config at.moment caller (Has scopes)) (named : (case at).parameter ≡ None) where
    free : (other : Judgement) → ¬ HasNoAccess at.state.config at.moment caller other
    free = not_refused at.state.config at.moment caller scopes has

    -- what is named is not there
    pub asks-absent : (a : Answer) → (case at).absent ≡ Some a → IsFirst (front at caller (asks case) ++ Ps) (only_answer a)
    asks-absent a absent = asks-first at caller case Ps (only_answer a) named (inr (free, inl (struck (case at).absent a absent)))

    -- scopes are missing
    pub asks-lacking : (lack : Expression) → (case at).absent ≡ None → missing scopes (case at).policy ≡ Some lack → IsFirst (front at caller (asks case) ++ Ps) (only_answer (insufficient_scopes lack))
    asks-lacking lack there lacks =
        let answer : option_map insufficient_scopes (missing scopes (case at).policy) ≡ Some (insufficient_scopes lack) = rw lacks refl in
        let strikes = struck (option_map insufficient_scopes (missing scopes (case at).policy)) (insufficient_scopes lack) answer in
        asks-first at caller case Ps (only_answer (insufficient_scopes lack)) named (inr (free, inr (idle (case at).absent there, inl (scopes, has, strikes))))

    -- what comes after the policy, for a caller whose scopes hold it
    pub asks-held : (judgement : Judgement) → (case at).absent ≡ None → missing scopes (case at).policy ≡ None → IsFirst Ps judgement → IsFirst (front at caller (asks case) ++ Ps) judgement
    asks-held judgement there none first =
        let holds = lacks_none at.state.config at.moment caller scopes (case at).policy has none in
        asks-first at caller case Ps judgement named (inr (free, inr (idle (case at).absent there, inr (holds, first))))

  -- nothing refuses the call up to its policy
  pub asks-passed : (judgement : Judgement) → Passes at caller (case at) → IsFirst Ps judgement → IsFirst (front at caller (asks case) ++ Ps) judgement
  asks-passed judgement passes first = asks-held passes.scopes passes.has passes.named judgement passes.there passes.held first

-- a rule of the call ends it
pub asks-ruled : (at : Setting) (caller : Caller) (case : Setting → Case) (scopes : List (List ℕ)) (a : Answer) → HasAccess at.state.config at.moment caller (Has scopes) → (case at).parameter ≡ None → (case at).absent ≡ None → missing scopes (case at).policy ≡ None → IsFirstRule (case at).rules (Some a) → IsFirst (in_order at caller (asks case)) (only_answer a)
asks-ruled at caller case scopes a has named there none rule =
    asks-held at caller case (ending at (case at)) scopes has named (only_answer a) there none (rule_ends (case at).rules (last_parts at (case at).deed) a rule)

-- what is first up to the policy is first, whatever is behind
pub first-front : (Ps Qs : List (Judgement → Type 0)) (judgement : Judgement) → IsFirst Ps judgement → IsFirst (Ps ++ Qs) judgement
first-front [] Qs judgement first = absurd first
first-front (P ∷ Ps) Qs judgement (inl p) = inl p
first-front (P ∷ Ps) Qs judgement (inr (other, first)) = inr (other, first-front Ps Qs judgement first)

-- a farm is not full for what changes nothing
pub reads-first : (at : Setting) (deed : Deed) (judgement : Judgement) → deed.change ≡ None → judgement ≡ done at deed → IsFirst (last_parts at deed) judgement
reads-first at deed judgement unchanged is =
    let free : full at.state deed.change ≡ None = ap (full at.state) unchanged in
    inr (idle (full at.state deed.change) free, inl is)

-- the judgement of an answer whose body is that of a deed that changes nothing
pub done-only : (at : Setting) (deed : Deed) (text : List ℕ) → deed.change ≡ None → text ≡ document_text (deed.body (changed at.state.contents at.moment None)) → only_answer (ok text) ≡ done at deed
done-only at deed text unchanged is = rw (unchanged, is) refl

-- where it is full, that is the answer; and where it is not, the deed is done
pub full-first : (at : Setting) (deed : Deed) (a : Answer) → full at.state deed.change ≡ Some a → IsFirst (last_parts at deed) (only_answer a)
full-first at deed a is = inl (struck (full at.state deed.change) a is)

pub done-first : (at : Setting) (deed : Deed) (judgement : Judgement) → full at.state deed.change ≡ None → judgement ≡ done at deed → IsFirst (last_parts at deed) judgement
done-first at deed judgement free is = inr (idle (full at.state deed.change) free, inl is)

-- ---- what the code makes of a judgement

pub only-judged : (judged : Judged) (a : Answer) → judged.answer ≡ a → judged.change ≡ None → judgement_of judged ≡ only_answer a
only-judged judged a answer change = rw (answer, change) refl

pub only-kept : (judged : Judged) (contents : Contents) → judged.change ≡ None → IfSome judged.change (tasks.IsPlanOn contents)
only-kept judged contents change = rw change tt

pub IsJudged-only : (at : Setting) (caller : Caller) (form : Form) (judged : Judged) (a : Answer) → judged.answer ≡ a → judged.change ≡ None → IsFirst (in_order at caller form) (only_answer a) → IsJudged at caller form judged
IsJudged-only at caller form judged a answer change first =
    record { first = rw (only-judged judged a answer change) first; kept = only-kept judged at.state.contents change }

-- the same of a call that gives it, or runs out of memory
pub IsJudged-refused : {E : Type 0} (at : Setting) (caller : Caller) (form : Form) (result : Result Judged E) (a : Answer) → IfOk result (λ judged. judged.answer ≡ a) → IfOk result (λ judged. judged.change ≡ None) → IsFirst (in_order at caller form) (only_answer a) → IfOk result (IsJudged at caller form)
IsJudged-refused at caller form (Ok judged) a answer change first = IsJudged-only at caller form judged a answer change first
IsJudged-refused at caller form (Err e) a answer change first = tt

-- what is refused up to its policy is judged so
pub IsJudged-turned : (at : Setting) (caller : Caller) (form : Form) (judged : Judged) (a : Answer) → judged.answer ≡ a → judged.change ≡ None → IsFirst (front at caller form) (only_answer a) → IsJudged at caller form judged
IsJudged-turned at caller form judged a answer change first =
    IsJudged-only at caller form judged a answer change (first-front (front at caller form) (behind at form) (only_answer a) first)

-- what is finished behind its policy is judged so
pub IsJudged-finished : (at : Setting) (caller : Caller) (case : Setting → Case) (judged : Judged) → Passes at caller (case at) → IsFinished at (case at) judged → IsJudged at caller (asks case) judged
IsJudged-finished at caller case judged passes finished =
    record { first = asks-passed at caller case (ending at (case at)) (judgement_of judged) passes finished.first; kept = finished.kept }

-- the same of a call that gives it, or runs out of memory
pub IsJudged-finished-so : {E : Type 0} (at : Setting) (caller : Caller) (case : Setting → Case) (result : Result Judged E) → Passes at caller (case at) → IfOk result (IsFinished at (case at)) → IfOk result (IsJudged at caller (asks case))
IsJudged-finished-so at caller case (Ok judged) passes finished = IsJudged-finished at caller case judged passes finished
IsJudged-finished-so at caller case (Err e) passes finished = tt

-- what comes of a call that passes up to its policy, and is finished so, is judged so
pub IsJudged-came : (Found : Type 0) (at : Setting) (caller : Caller) (case : Setting → Case) (Comes : Setting → Found → Type 0) (rest : Found → Setting → Case) (found : Found) (judged : Judged) → Passes at caller (case at) → Comes at found → IsFinished at (rest found at) judged → IsJudged at caller (asks_then Found case Comes rest) judged
IsJudged-came Found at caller case Comes rest found judged passes comes finished = record {
  first = asks-passed at caller case (GoesOn Found Comes rest at ∷ []) (judgement_of judged) passes (inl (found, comes, finished.first));
  kept = finished.kept;
}

pub IsJudged-came-so : {E : Type 0} (Found : Type 0) (at : Setting) (caller : Caller) (case : Setting → Case) (Comes : Setting → Found → Type 0) (rest : Found → Setting → Case) (found : Found) (result : Result Judged E) → Passes at caller (case at) → Comes at found → IfOk result (IsFinished at (rest found at)) → IfOk result (IsJudged at caller (asks_then Found case Comes rest))
IsJudged-came-so Found at caller case Comes rest found (Ok judged) passes comes finished = IsJudged-came Found at caller case Comes rest found judged passes comes finished
IsJudged-came-so Found at caller case Comes rest found (Err e) passes comes finished = tt

-- a rule ends it, or what it does is judged
pub IsFinished-ruled : (at : Setting) (case : Case) (judged : Judged) (a : Answer) → judged.answer ≡ a → judged.change ≡ None → IsFirstRule case.rules (Some a) → IsFinished at case judged
IsFinished-ruled at case judged a answer change rule = record {
  first = rw (only-judged judged a answer change) (rule_ends case.rules (last_parts at case.deed) a rule);
  kept = only-kept judged at.state.contents change;
}

pub IsFinished-reads : (at : Setting) (case : Case) (judged : Judged) (text : List ℕ) → judged.answer ≡ ok text → judged.change ≡ None → IsFirstRule case.rules None → case.deed.change ≡ None → text ≡ document_text (case.deed.body (changed at.state.contents at.moment None)) → IsFinished at case judged
IsFinished-reads at case judged text answer change unruled reads is = record {
  first = rw (only-judged judged (ok text) answer change) (rules_pass case.rules (last_parts at case.deed) (only_answer (ok text)) unruled (reads-first at case.deed (only_answer (ok text)) reads (done-only at case.deed text reads is)));
  kept = only-kept judged at.state.contents change;
}

pub IsFinished-made : (at : Setting) (case : Case) (kind : Kind) (judged : Judged) → IsFirstRule case.rules None → case.deed ≡ changing at.moment kind → IsMade at kind judged → IsFinished at case judged
IsFinished-made at case kind judged unruled is made =
    let P : Deed → Type 0 = λ deed. IsFirst (last_parts at deed) (judgement_of judged) in
    record { first = rules_pass case.rules (last_parts at case.deed) (judgement_of judged) unruled (subst P (sym is) made.first); kept = made.kept }

-- ---- there is one

-- the farm is full or not, and the deed is done
last_some : (at : Setting) (deed : Deed) (answer : Option Answer) → full at.state deed.change ≡ answer → (judgement : Judgement) × IsFirst (last_parts at deed) judgement
last_some at deed (Some a) is = (only_answer a, full-first at deed a is)
last_some at deed None is = (done at deed, done-first at deed (done at deed) is refl)

-- each rule ends a call or does not
abbrev pub AreDecided : List Rule → Type 0
AreDecided [] = Unit {0}
AreDecided (rule ∷ rules) = (rule.Ends ⊎ ¬ rule.Ends) × AreDecided rules

first_rule_some : (rules : List Rule) → AreDecided rules → (a : Option Answer) × IsFirstRule rules a
first_rule_some [] decided = (None, refl)
first_rule_some (rule ∷ rules) (inl ends, rest) = (Some rule.answer, inl (ends, refl))
first_rule_some (rule ∷ rules) (inr goes_on, rest) = let found = first_rule_some rules rest in (found.0, inr (goes_on, found.1))

-- some judgement is the first behind the policy of a case whose rules are decided
pub ending_some : (at : Setting) (case : Case) → AreDecided case.rules → (judgement : Judgement) × IsFirst (ending at case) judgement
ending_some at case decided = by found.0 found.1 where
  found : (a : Option Answer) × IsFirstRule case.rules a
  found = first_rule_some case.rules decided

  by : (a : Option Answer) → IsFirstRule case.rules a → (judgement : Judgement) × IsFirst (ending at case) judgement
  by (Some a) rule = (only_answer a, rule_ends case.rules (last_parts at case.deed) a rule)
  by None rule =
      let last = last_some at case.deed (full at.state case.deed.change) refl in
      (last.0, rules_pass case.rules (last_parts at case.deed) last.0 rule last.1)

module _ (at : Setting) (caller : Caller) (case : Setting → Case) (Ps : List (Judgement → Type 0)) (some : Passes at caller (case at) → (judgement : Judgement) × IsFirst Ps judgement) where
  lacking_some : (scopes : List (List ℕ)) (lack : Option Expression) → HasAccess at.state.config at.moment caller (Has scopes) → (case at).parameter ≡ None → (case at).absent ≡ None → missing scopes (case at).policy ≡ lack → (judgement : Judgement) × IsFirst (front at caller (asks case) ++ Ps) judgement
  lacking_some scopes (Some e) has named there is = (only_answer (insufficient_scopes e), asks-lacking at caller case Ps scopes has named e there is)
  lacking_some scopes None has named there is =
      let found = some (record { named = named; scopes = scopes; has = has; there = there; held = is }) in
      (found.0, asks-held at caller case Ps scopes has named found.0 there is found.1)

  absent_some : (scopes : List (List ℕ)) (absent : Option Answer) → HasAccess at.state.config at.moment caller (Has scopes) → (case at).parameter ≡ None → (case at).absent ≡ absent → (judgement : Judgement) × IsFirst (front at caller (asks case) ++ Ps) judgement
  absent_some scopes (Some a) has named is = (only_answer a, asks-absent at caller case Ps scopes has named a is)
  absent_some scopes None has named is = lacking_some scopes (missing scopes (case at).policy) has named is refl

  access_some : (access : Access) → HasAccess at.state.config at.moment caller access → (case at).parameter ≡ None → (judgement : Judgement) × IsFirst (front at caller (asks case) ++ Ps) judgement
  access_some (Refused a) has named = (only_answer a, asks-refused at caller case Ps a named has)
  access_some (Has scopes) has named = absent_some scopes (case at).absent has named refl

  asks_some : (access : Access) → HasAccess at.state.config at.moment caller access → (parameter : Option Answer) → (case at).parameter ≡ parameter → (judgement : Judgement) × IsFirst (front at caller (asks case) ++ Ps) judgement
  asks_some access has (Some a) is = (only_answer a, asks-misnamed at caller case Ps a is)
  asks_some access has None is = access_some access has is

-- each rule of what is called ends it or does not; and where its front refuses nothing, something comes of it, whose rules are decided
abbrev pub IsDecided : Form → Setting → Caller → Type 0
IsDecided (asks case) at caller = AreDecided (case at).rules
IsDecided (asks_then Found case Comes rest) at caller =
    Passes at caller (case at) → (found : Found) × Comes at found × AreDecided (rest found at).rules
IsDecided form at caller = Unit {0}

-- whatever is called, some judgement is the first, for a caller of some access
pub in_order-some : (at : Setting) (caller : Caller) (form : Form) → IsDecided form at caller → (access : Access) → HasAccess at.state.config at.moment caller access → (judgement : Judgement) × IsFirst (in_order at caller form) judgement
in_order-some at caller (has_no_route a) decided access has = (only_answer a, inl refl)
in_order-some at caller (has_bad_parameter a) decided access has = (only_answer a, inr (λ other strikes. strikes, inl refl))
in_order-some at caller (has_bad_body a) decided access has = (only_answer a, inr (λ other strikes. strikes, inr (λ other strikes. strikes, inl refl)))
in_order-some at caller (asks case) decided access has =
    asks_some at caller case (ending at (case at)) (λ passes. ending_some at (case at) decided) access has (case at).parameter refl
in_order-some at caller (asks_then Found case Comes rest) decided access has =
    let goes_on : Passes at caller (case at) → (judgement : Judgement) × IsFirst (GoesOn Found Comes rest at ∷ []) judgement =
    λ passes.
    let found = decided passes in
    let last = ending_some at (rest found.0 at) found.2 in
    (last.0, inl (found.0, found.1, last.1))
    in
    asks_some at caller case (GoesOn Found Comes rest at ∷ []) goes_on access has (case at).parameter refl

-- ---- it is one

-- it gives one judgement at most
abbrev IsSingle : (Judgement → Type 0) → Type 0
IsSingle P = (a b : Judgement) → P a → P b → a ≡ b

-- each of these does
abbrev AreSingle : List (Judgement → Type 0) → Type 0
AreSingle [] = Unit {0}
AreSingle (P ∷ Ps) = IsSingle P × AreSingle Ps

IsFirst-one : (Ps : List (Judgement → Type 0)) (a b : Judgement) → AreSingle Ps → IsFirst Ps a → IsFirst Ps b → a ≡ b
IsFirst-one [] a b single p q = absurd p
IsFirst-one (P ∷ Ps) a b single (inl p) (inl q) = single.0 a b p q
IsFirst-one (P ∷ Ps) a b single (inl p) (inr q) = absurd (q.0 a p)
IsFirst-one (P ∷ Ps) a b single (inr p) (inl q) = absurd (p.0 b q)
IsFirst-one (P ∷ Ps) a b single (inr p) (inr q) = IsFirst-one Ps a b single.1 p.1 q.1

single_strikes : (answer : Option Answer) → IsSingle (Strikes answer)
single_strikes None a b p q = absurd p
single_strikes (Some answer) a b p q = p ∙ sym q

single_rules : (rules : List Rule) (Ps : List (Judgement → Type 0)) → AreSingle Ps → AreSingle (map IsEnded rules ++ Ps)
single_rules [] Ps single = single
single_rules (rule ∷ rules) Ps single = ((λ a b p q. p.1 ∙ sym q.1), single_rules rules Ps single)

single_no_access : (config : Config) (moment : ℕ) (caller : Caller) → IsSingle (HasNoAccess config moment caller)
single_no_access config moment caller a b p q =
    let same : Refused p.0 ≡ Refused q.0 = HasAccess-one config moment caller (Refused p.0) (Refused q.0) p.1 q.1 in
    let answers : p.0 ≡ q.0 = cc in
    p.2 ∙ (ap only_answer answers ∙ sym q.2)

single_lacks : (config : Config) (moment : ℕ) (caller : Caller) (policy : Expression) → IsSingle (LacksScopes config moment caller policy)
single_lacks config moment caller policy a b p q =
    let same : p.0 ≡ q.0 = one_list config moment caller p.0 q.0 p.1 q.1 in
    let P : List (List ℕ) → Type 0 = λ scopes. Strikes (option_map insufficient_scopes (missing scopes policy)) a in
    single_strikes (option_map insufficient_scopes (missing q.0 policy)) a b (subst P same p.2) q.2

single_ending : (at : Setting) (case : Case) → AreSingle (ending at case)
single_ending at case =
    single_rules case.rules (last_parts at case.deed) (single_strikes (full at.state case.deed.change), (λ x y i j. i ∙ sym j, tt))

-- what comes of a call is one
abbrev pub IsDetermined : Form → Setting → Type 0
IsDetermined (asks_then Found case Comes rest) at = (found other : Found) → Comes at found → Comes at other → found ≡ other
IsDetermined form at = Unit {0}

single_goes_on : (Found : Type 0) (Comes : Setting → Found → Type 0) (rest : Found → Setting → Case) (at : Setting) → ((found other : Found) → Comes at found → Comes at other → found ≡ other) → IsSingle (GoesOn Found Comes rest at)
single_goes_on Found Comes rest at one a b p q =
    let P : Found → Type 0 = λ found. IsFirst (ending at (rest found at)) a in
    IsFirst-one (ending at (rest q.0 at)) a b (single_ending at (rest q.0 at)) (subst P (one p.0 q.0 p.1 q.1) p.2) q.2

single_behind : (at : Setting) (form : Form) → IsDetermined form at → AreSingle (behind at form)
single_behind at (has_no_route a) one = single_ending at passing
single_behind at (has_bad_parameter a) one = single_ending at passing
single_behind at (has_bad_body a) one = single_ending at passing
single_behind at (asks case) one = single_ending at (case at)
single_behind at (asks_then Found case Comes rest) one = (single_goes_on Found Comes rest at one, tt)

-- two judgements that are both the first are one
pub in_order-one : (at : Setting) (caller : Caller) (form : Form) (a b : Judgement) → IsDetermined form at → IsFirst (in_order at caller form) a → IsFirst (in_order at caller form) b → a ≡ b
in_order-one at caller form a b one p q =
    let config = at.state.config in
    let moment = at.moment in
    let case = case_of form at in
    IsFirst-one (in_order at caller form) a b
    (single_strikes (route_of form), (single_strikes (parameter_of form at), (single_strikes (body_of form), (single_no_access config moment caller, (single_strikes case.absent, (single_lacks config moment caller case.policy, single_behind at form one))))))
    p q

-- what refuses a call of whoever has these scopes refuses it of a caller who has them
pub refused-within : {E : Type 0} (at : Setting) (caller : Caller) (case : Setting → Case) (scopes : List (List ℕ)) (result : Result (Option Answer) E) → HasAccess at.state.config at.moment caller (Has scopes)
    → IfOk result (λ answer. (other : Caller) → HasAccess at.state.config at.moment other (Has scopes) → IsRefusal at other case answer) → IfOk result (IsRefusal at caller case)
refused-within at caller case scopes (Ok answer) has within = within caller has
refused-within at caller case scopes (Err e) has within = within
