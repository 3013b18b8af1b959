-- What the code of a firing comes to, step by step: what a hook's scopes hold, what they are, and what that makes of its firing.
use Rattle.std.proofs.Common.{◌≡◌, ℕ, true, false, List, [], ◌∷◌, Option, Some, None, Result, Ok, Err, IfOk, is_some, option_map, codes, refl, sym, ap, ◌∙◌, subst}
use Rattle.farm_text.specs.Document.{Document, object}
use Rattle.hawk_auth.specs.Access.{TooMany as Exceeds}
use Rattle.hook_fire.specs.Firing.{IsFired}
use Rattle.hook_book.specs.Hooks.{HookData, hook_named}
use Rattle.hook_fire.specs.declared.fault.FireFault.{FireFault}
use Rattle.role_expand.specs.Closures.{IsClosure, HasMoreDerivable, FailsToExpand}
use Rattle.role_expand.specs.declared.expansion.ExpandFault.{ExpandFault}
use Rattle.role_expand.specs.declared.expansion.ExpandFault.TheVariants.{TooMany}
use Rattle.role_expand.specs.Roles.{RoleData}
use Rattle.scope_sets.specs.Expressions.{Expression, missing}
use Rattle.call_rules.specs.HookNames.{hook_name}
use Rattle.call_rules.specs.Policy.{create_policy, trigger_policy, hook_start}
use Rattle.call_rules.specs.declared.hook_names.HookName.{HookName}
use Rattle.task_types.specs.declared.change.Creation.{Creation}
use Rattle.task_types.specs.declared.task_def.TaskDef.{TaskDef}
use Rattle.farm_asks.specs.declared.config.Config.{Config}
use Rattle.farm_machine.specs.declared.firing.Firing.{Firing}
use Rattle.farm_asks.specs.declared.question.Trigger.{Trigger}
use Rattle.farm_asks.specs.declared.reply.Answer.{Answer}
use Rattle.farm_asks.specs.Access.{Access, Has, Refused}
use Rattle.farm_machine.specs.Calls.TriggerHook.{hook_at, of_hook, Fired, unless_lacking, by_access, HookMay, fault_answer, ComesTo}
use Rattle.farm_machine.specs.Case.{Setting}
use Rattle.farm_machine.specs.Firings.{outcome_of, fired_by}
use Rattle.farm_asks.specs.Replies.{not_found, expansion_limit, hook_insufficient_scopes}

-- what is missing of the scopes is told
pub lacks-so : (creation : Creation) (scopes : List (List ℕ)) (asked lack : Expression) (answer : Answer) → asked ≡ create_policy creation.definition → Some lack ≡ missing scopes asked → answer ≡ hook_insufficient_scopes lack → Err answer ≡ unless_lacking creation (missing scopes (create_policy creation.definition))
lacks-so creation scopes asked lack answer is lacks told =
    let said : Err answer ≡ unless_lacking creation (Some lack) = ap (λ (x : Answer). Err x) told in
    said ∙ ap (unless_lacking creation) lacks ∙ ap (λ (e : Expression). unless_lacking creation (missing scopes e)) is

-- where nothing is, the task is to be made
pub holds-so : (creation : Creation) (scopes : List (List ℕ)) (asked : Expression) → asked ≡ create_policy creation.definition → None ≡ missing scopes asked → Ok creation ≡ unless_lacking creation (missing scopes (create_policy creation.definition))
holds-so creation scopes asked is held =
    ap (unless_lacking creation) held ∙ ap (λ (e : Expression). unless_lacking creation (missing scopes e)) is

-- what comes of a task that a hook makes
abbrev pub IsGranted : Config → HookName → Creation → Fired → Type 0
IsGranted config name creation fired = (access : Access) × HookMay config name access × (fired ≡ by_access creation access)

-- the hook has the closure of its start list
pub grants-closure : {E : Type 0} (config : Config) (name : HookName) (creation : Creation) (roles : List RoleData) (start : List ℕ) (scopes : List (List ℕ)) (result : Result (Option Answer) E)
    → roles ≡ config.roles → start ≡ hook_start name → IsClosure 10_000 roles (start ∷ []) scopes
    → IfOk result (λ answer. fired_by creation answer ≡ unless_lacking creation (missing scopes (create_policy creation.definition)))
    → IfOk result (λ answer. IsGranted config name creation (fired_by creation answer))
grants-closure config name creation roles start scopes (Err e) same is closed comes = comes
grants-closure config name creation roles start scopes (Ok answer) same is closed comes =
    let over : IsClosure 10_000 config.roles (start ∷ []) scopes = subst (λ (r : List RoleData). IsClosure 10_000 r (start ∷ []) scopes) same closed in
    let of : IsClosure 10_000 config.roles (hook_start name ∷ []) scopes = subst (λ (s : List ℕ). IsClosure 10_000 config.roles (s ∷ []) scopes) is over in
    (Has scopes, (Ok scopes, of, refl), comes)

-- too many scopes are derivable for it
pub grants-too-many : (config : Config) (name : HookName) (creation : Creation) (roles : List RoleData) (start : List ℕ) (fault : ExpandFault) (answer : Answer)
    → roles ≡ config.roles → start ≡ hook_start name → fault ≡ TooMany → FailsToExpand 10_000 roles (start ∷ []) fault
    → answer ≡ expansion_limit → IsGranted config name creation (Err answer)
grants-too-many config name creation roles start fault answer same is many fails told =
    let more : HasMoreDerivable 10_000 roles (start ∷ []) = subst (FailsToExpand 10_000 roles (start ∷ [])) many fails in
    let over : HasMoreDerivable 10_000 config.roles (start ∷ []) = subst (λ (r : List RoleData). HasMoreDerivable 10_000 r (start ∷ [])) same more in
    let of : HasMoreDerivable 10_000 config.roles (hook_start name ∷ []) = subst (λ (s : List ℕ). HasMoreDerivable 10_000 config.roles (s ∷ [])) is over in
    (Refused expansion_limit, (Err Exceeds, (of, refl), refl), ap (λ (x : Answer). Err x) told)

-- a hook that is found by these texts is the hook of the name
pub found-so : (trigger : Trigger) (at : Setting) (group id : List ℕ) (hooks : List HookData) (found : Option HookData)
    → group ≡ trigger.hook.group → id ≡ trigger.hook.id → hooks ≡ at.state.config.hooks → found ≡ hook_named group id hooks → hook_at trigger.hook at ≡ found
found-so trigger at group id hooks found groups ids same is =
    sym (is ∙ ap (λ (g : List ℕ). hook_named g id hooks) groups ∙ ap (λ (i : List ℕ). hook_named trigger.hook.group i hooks) ids ∙ ap (hook_named trigger.hook.group trigger.hook.id) same)

-- the firing of a hook at this moment for this id is that at the call's
fires-so : (trigger : Trigger) (at : Setting) (template payload : Document) (moment : ℕ) (id : List ℕ) (outcome : Result TaskDef FireFault)
    → payload ≡ object trigger.payload → moment ≡ at.moment → id ≡ at.drawn → IsFired template payload moment id outcome
    → IsFired template (object trigger.payload) at.moment at.drawn outcome
fires-so trigger at template payload moment id outcome given now drawn fires =
    subst (λ (i : List ℕ). IsFired template (object trigger.payload) at.moment i outcome) drawn
    (subst (λ (m : ℕ). IsFired template (object trigger.payload) m id outcome) now
    (subst (λ (p : Document). IsFired template p moment id outcome) given fires))

-- a firing that makes a definition comes to what the hook's scopes make of it
pub comes-made : {E : Type 0} (trigger : Trigger) (at : Setting) (hook : HookData) (payload : Document) (moment : ℕ) (id : List ℕ) (definition : TaskDef) (result : Result Firing E)
    → hook_at trigger.hook at ≡ Some hook → payload ≡ object trigger.payload → moment ≡ at.moment → id ≡ at.drawn
    → IsFired hook.template payload moment id (Ok definition)
    → IfOk result (λ firing. IsGranted at.state.config trigger.hook (record { id = id; definition = definition }) (outcome_of firing))
    → IfOk result (λ firing. ComesTo trigger at (outcome_of firing))
comes-made trigger at hook payload moment id definition (Err e) there given now drawn fires grants = grants
comes-made trigger at hook payload moment id definition (Ok firing) there given now drawn fires grants = record {
  hook = hook;
  there = there;
  outcome = Ok definition;
  fires = fires-so trigger at hook.template payload moment id (Ok definition) given now drawn fires;
  follows = subst (λ (i : List ℕ). IsGranted at.state.config trigger.hook (record { id = i; definition = definition }) (outcome_of firing)) drawn grants;
}

-- one that makes none comes to its answer
pub comes-refused : (trigger : Trigger) (at : Setting) (hook : HookData) (payload : Document) (moment : ℕ) (id : List ℕ) (fault : FireFault) (answer : Answer)
    → hook_at trigger.hook at ≡ Some hook → payload ≡ object trigger.payload → moment ≡ at.moment → id ≡ at.drawn
    → IsFired hook.template payload moment id (Err fault) → fault_answer fault ≡ Some answer → ComesTo trigger at (Err answer)
comes-refused trigger at hook payload moment id fault answer there given now drawn fires told = record {
  hook = hook;
  there = there;
  outcome = Err fault;
  fires = fires-so trigger at hook.template payload moment id (Err fault) given now drawn fires;
  follows = (answer, told, refl);
}

-- ---- the call of a hook, up to its policy

-- a hook that is found is not absent
pub hook-found : {A : Type 0} (data_of : A → HookData) (name : HookName) (found : Option A) (hook : Option HookData) → hook ≡ option_map data_of found → is_some found ≡ true → None ≡ (of_hook name hook).absent
hook-found data_of name None hook is some = cc
hook-found data_of name (Some x) hook is some = rw is refl

-- one that is not is
pub hook-absent : {A : Type 0} (data_of : A → HookData) (name : HookName) (found : Option A) (hook : Option HookData) (answer : Answer) → hook ≡ option_map data_of found → is_some found ≡ false
    → answer ≡ not_found (codes "hook") (hook_name name.group name.id) → Some answer ≡ (of_hook name hook).absent
hook-absent data_of name None hook answer is none told = rw is (ap (λ (a : Answer). Some a) told)
hook-absent data_of name (Some x) hook answer is none told = cc

-- what its caller's scopes have to hold
pub hook-asks : (name : HookName) (hook : Option HookData) → (of_hook name hook).absent ≡ None → trigger_policy name ≡ (of_hook name hook).policy
hook-asks name None there = cc
hook-asks name (Some hook) there = refl
