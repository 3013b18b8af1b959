-- triggerHook: a hook is fired, and the task that it makes is created (the hooks service of the Taskcluster reference; its rules and their order are this project's profile).
use Rattle.std.specs.Prelude.{◌≡◌, ℕ, List, [], ◌∷◌, codes, true, Option, Some, None, Result, Ok, Err}
use Rattle.scope_sets.specs.Expressions.{Expression, missing}
use Rattle.call_rules.specs.HookNames.{hook_name}
use Rattle.call_rules.specs.Policy.{create_policy, trigger_policy, hook_start}
use Rattle.call_rules.specs.declared.hook_names.HookName.{HookName}
use Rattle.task_types.specs.declared.change.Creation.{Creation}
use Rattle.farm_text.specs.Document.{object}
use Rattle.hawk_auth.specs.Access.{Access as Admission, Expands}
use Rattle.hook_fire.specs.Firing.{IsFired}
use Rattle.hook_book.specs.Hooks.{HookData, hook_named}
use Rattle.hook_fire.specs.declared.fault.FireFault.{FireFault}
use Rattle.hook_fire.specs.declared.fault.FireFault.TheVariants.{Template, TooMuchWork, Definition, NoMemory}
use Rattle.jsone_values.specs.Faults.{rule_of}
use Rattle.task_types.specs.declared.task_def.TaskDef.{TaskDef}
use Rattle.farm_asks.specs.declared.config.Config.{Config}
use Rattle.farm_asks.specs.declared.question.BodyFault.TheVariants.{NoDefinition}
use Rattle.farm_asks.specs.declared.question.Trigger.{Trigger}
use Rattle.farm_asks.specs.declared.reply.Answer.{Answer}
use Rattle.farm_asks.specs.Access.{Access, Has, Refused, access_by}
use Rattle.farm_machine.specs.Calls.CreateTask.{create_task}
use Rattle.farm_machine.specs.Case.{Setting, when, Case, passing}
use Rattle.farm_asks.specs.Replies.{not_found, bad_body, template_fault, too_costly, hook_insufficient_scopes}

-- the hook of a name
abbrev pub hook_at : HookName → Setting → Option HookData
hook_at name at = hook_named name.group name.id at.state.config.hooks

-- what a call of a hook has up to its policy: who may trigger it, or that no hook has the name
abbrev pub of_hook : HookName → Option HookData → Case
of_hook name None = record passing { absent = Some (not_found (codes "hook") (hook_name name.group name.id)) }
of_hook name (Some hook) = record passing { policy = trigger_policy name }

-- the hook has to stand, and its caller may trigger it
abbrev pub trigger_hook : Trigger → Setting → Case
trigger_hook trigger at = of_hook trigger.hook (hook_at trigger.hook at)

-- what comes of a hook that is triggered: the task that is to be made, or the answer that refuses the call
abbrev pub Fired : Type 0
Fired = Result Creation Answer

-- the task is to be made where nothing of what it asks is missing of the hook's scopes
abbrev pub unless_lacking : Creation → Option Expression → Fired
unless_lacking creation None = Ok creation
unless_lacking creation (Some lack) = Err (hook_insufficient_scopes lack)

-- what comes of a task, given what the hook may do: it asks what a createTask of it asks
abbrev pub by_access : Creation → Access → Fired
by_access creation (Refused answer) = Err answer
by_access creation (Has scopes) = unless_lacking creation (missing scopes (create_policy creation.definition))

-- what a hook may do: it has all that its start list gives, or too many scopes are derivable
abbrev pub HookMay : Config → HookName → Access → Type 0
HookMay config name access =
    (admission : Admission) × Expands config.roles (hook_start name ∷ []) admission × (access ≡ access_by admission)

-- the answer where a firing makes no definition; want of memory has none
abbrev pub fault_answer : FireFault → Option Answer
fault_answer (Template fault) = Some (template_fault (rule_of fault.rule) fault.path)
fault_answer TooMuchWork = Some too_costly
fault_answer (Definition fault) = Some (bad_body (NoDefinition fault))
fault_answer NoMemory = None

-- what comes of what a firing makes: of a definition the task of the drawn id, and else the answer
abbrev pub Follows : HookName → Setting → Result TaskDef FireFault → Fired → Type 0
Follows name at (Ok definition) fired =
    (access : Access) × HookMay at.state.config name access × (fired ≡ by_access (record { id = at.drawn; definition = definition }) access)
Follows name at (Err fault) fired = (answer : Answer) × (fault_answer fault ≡ Some answer) × (fired ≡ Err answer)

-- what comes of a hook that is triggered now with this payload, for the task of the drawn id
pub record ComesTo (trigger : Trigger) (at : Setting) (fired : Fired) : Type 0 where
  pub hook : HookData
  pub there : hook_at trigger.hook at ≡ Some hook
  pub outcome : Result TaskDef FireFault
  pub fires : IsFired hook.template (object trigger.payload) at.moment at.drawn outcome
  pub follows : Follows trigger.hook at outcome fired

-- what that has behind the policy: it goes on as createTask, or ends with the answer
abbrev pub case_after : Fired → Setting → Case
case_after (Ok creation) at = create_task creation at
case_after (Err answer) at = record passing { rules = when true answer ∷ [] }
