-- What a hook makes when it is fired: the definition that its rendered template says (the Taskcluster reference, 'Hooks'), or why it makes none.
use Rattle.std.specs.Prelude.{ℕ, List, Result, MatchResult}
use Rattle.farm_text.specs.Document.{Document}
use Rattle.jsone_render.specs.Outcomes.{Outcome, given, faulted, too_much}
use Rattle.jsone_render.specs.Templates.{IsRendered}
use Rattle.task_defs.specs.Faults.{IsFault}
use Rattle.task_defs.specs.Definitions.{Says, rules}
use Rattle.task_defs.specs.declared.fault.DefFault.{DefFault}
use Rattle.task_types.specs.declared.task_def.TaskDef.{TaskDef}
use Rattle.hook_fire.specs.Contexts.{IsContext}
use Rattle.hook_fire.specs.Defaults.{HasDefaults}
use Rattle.hook_fire.specs.declared.fault.FireFault.{FireFault}
use Rattle.hook_fire.specs.declared.fault.FireFault.TheVariants.{Template, TooMuchWork, Definition, NoMemory}

-- the template comes to this with the names of the firing
pub record ComesTo (template payload : Document) (moment : ℕ) (id : List ℕ) (outcome : Outcome Document) : Type 0 where
  pub context : Document
  pub is_context : IsContext payload moment id context
  pub renders : IsRendered template context outcome

-- the document that is read: the template's value with its defaults
pub record Makes (template payload : Document) (moment : ℕ) (id : List ℕ) (whole : Document) : Type 0 where
  pub rendered : Document
  pub cost : ℕ
  pub comes : ComesTo template payload moment id (given rendered cost)
  pub defaults : HasDefaults moment rendered whole

-- it says this definition for the task of the drawn id
pub record Defines (template payload : Document) (moment : ℕ) (id : List ℕ) (def : TaskDef) : Type 0 where
  pub whole : Document
  pub makes : Makes template payload moment id whole
  pub says : Says whole id def

-- it has this fault: the least rule of a definition that it breaks, at the first key that shows it
pub record Breaks (template payload : Document) (moment : ℕ) (id : List ℕ) (fault : DefFault) : Type 0 where
  pub whole : Document
  pub makes : Makes template payload moment id whole
  pub breaks : IsFault (rules whole id) fault

-- why no task is made; want of memory is free
abbrev pub IsRefused : Document → Document → ℕ → List ℕ → FireFault → Type 0
IsRefused template payload moment id (Template f) = ComesTo template payload moment id (faulted f.rule f.path)
IsRefused template payload moment id TooMuchWork = ComesTo template payload moment id too_much
IsRefused template payload moment id (Definition f) = Breaks template payload moment id f
IsRefused template payload moment id NoMemory = Unit {0}

-- what a firing answers: the definition, or why there is none
abbrev pub IsFired : Document → Document → ℕ → List ℕ → Result TaskDef FireFault → Type 0
IsFired template payload moment id r = MatchResult r (Defines template payload moment id) (IsRefused template payload moment id)
