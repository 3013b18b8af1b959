-- A firing comes to something.
use Rattle.std.proofs.Common.{◌≡◌, ◌≢◌, inl, inr, ℕ, ◌≤◌, List, Bool, true, false, codes, is_some, Result, Ok, Err, refl, arith}
use Rattle.std.specs.Bool.{MatchBool}
use Rattle.farm_text.specs.Moment.{IsMomentText}
use Rattle.farm_text.specs.Document.{Document, text, object, Members, member_at, put}
use Rattle.jsone_eval.proofs.Existence.{Exists, here, follow}
use Rattle.jsone_eval.proofs.SomeMoment.{moment_text}
use Rattle.jsone_render.specs.Outcomes.{Outcome, given, faulted, too_much}
use Rattle.jsone_render.proofs.SomeRendering.{some_rendering}
use Rattle.task_types.specs.declared.task_def.TaskDef.{TaskDef}
use Rattle.hook_fire.specs.declared.fault.FireFault.{FireFault}
use Rattle.hook_fire.specs.declared.fault.FireFault.TheVariants.{Template, TooMuchWork, Definition, NoMemory}
use Rattle.hook_fire.specs.Contexts.{IsContext, context_of}
use Rattle.hook_fire.specs.Defaults.{HasDefault, HasDefaults, day_after}
use Rattle.hook_fire.specs.Firing.{ComesTo, Makes, IsFired}
use Rattle.hook_fire.proofs.SomeDefinition.{SaysOrBreaks, says_or_breaks}

some_context : (payload : Document) (moment : ℕ) (id : List ℕ) → moment ≤ 253_402_300_799_999 → (context : Document) × IsContext payload moment id context
some_context payload moment id upto = let t = moment_text moment upto in (context_of t.0 payload id, record { now = t.0; now_text = t.1; is = refl })

default_by : (there : Bool) (moment : ℕ) (key : List ℕ) (ms : Members) → moment ≤ 253_402_300_799_999 → (after : Document) × MatchBool there (after ≡ object ms) ((t : List ℕ) × IsMomentText moment t × (after ≡ object (put key (text t) ms)))
default_by true moment key ms upto = (object ms, refl)
default_by false moment key ms upto = let t = moment_text moment upto in (object (put key (text t.0) ms), (t.0, t.1, refl))

some_default : (key : List ℕ) (moment : ℕ) (before : Document) → moment ≤ 253_402_300_799_999 → (after : Document) × HasDefault key moment before after
some_default key moment (object ms) upto = default_by (is_some (member_at key ms)) moment key ms upto
some_default key moment d upto = (d, refl)

some_defaults : (moment : ℕ) (rendered : Document) → moment ≤ 253_402_300_799_999 → (whole : Document) × HasDefaults moment rendered whole
some_defaults moment rendered upto =
    let c = some_default (codes "created") moment rendered upto in
    let l = some_default (codes "deadline") (day_after moment) c.0 (omega arith) in
    (l.0, record { created = c.0; with_created = c.1; with_deadline = l.1 })

-- what a firing comes to, where memory is ample
abbrev pub Ends : Document → Document → ℕ → List ℕ → Result TaskDef FireFault → Type 0
Ends template payload moment id outcome = IsFired template payload moment id outcome × (outcome ≢ Err NoMemory)

of_document : (template payload : Document) (moment : ℕ) (id : List ℕ) (made : Document) → Makes template payload moment id made → SaysOrBreaks made id → (outcome : Result TaskDef FireFault) × Ends template payload moment id outcome
of_document template payload moment id made makes (inl said) = (Ok said.0, (record { whole = made; makes = makes; says = said.1 }, λ e. cc))
of_document template payload moment id made makes (inr fault) = (Err (Definition fault.0), (record { whole = made; makes = makes; breaks = fault.1 }, λ e. cc))

of_outcome : (template payload : Document) (moment : ℕ) (id : List ℕ) → moment ≤ 253_402_300_799_999 → (o : Outcome Document) → ComesTo template payload moment id o → Exists (Ends template payload moment id)
of_outcome template payload moment id upto (given rendered cost) comes =
    let whole = some_defaults moment rendered upto in
    follow (says_or_breaks whole.0 id) (λ h.
    let made = of_document template payload moment id whole.0 record { rendered = rendered; cost = cost; comes = comes; defaults = whole.1 } h in
    here (Ends template payload moment id) made.0 made.1)
of_outcome template payload moment id upto (faulted rule path) comes = here (Ends template payload moment id) (Err (Template record { rule = rule; path = path })) (comes, λ e. cc)
of_outcome template payload moment id upto too_much comes = here (Ends template payload moment id) (Err TooMuchWork) (comes, λ e. cc)

some_ending : (template payload : Document) (moment : ℕ) (id : List ℕ) → moment ≤ 253_402_300_799_999 → Exists (Ends template payload moment id)
some_ending template payload moment id upto =
    let context = some_context payload moment id upto in
    follow (some_rendering template context.0) (λ o.
    of_outcome template payload moment id upto o.0 record { context = context.0; is_context = context.1; renders = o.1 })

pub some_firing : (template payload : Document) (moment : ℕ) (id : List ℕ) → moment ≤ 253_402_300_799_999 → ¬ ¬ ((r : Result TaskDef FireFault) × IsFired template payload moment id r × (r ≢ Err NoMemory))
some_firing template payload moment id upto none = some_ending template payload moment id upto (λ o. none (o.0, o.1.0, o.1.1))
