-- A firing has one context, one document and one answer.
use Rattle.std.proofs.Common.{◌≡◌, ◌≢◌, ℕ, List, Bool, true, false, codes, Some, None, Result, Ok, Err, is_some, refl, sym, ap, subst, ◌∙◌, inl, inr}
use Rattle.std.specs.Bool.{MatchBool}
use Rattle.farm_text.specs.Moment.{IsMomentText}
use Rattle.farm_text.specs.DateTime.{IsDateTime}
use Rattle.farm_text.specs.Document.{Document, text, object, Members, member_at, put, get}
use Rattle.jsone_render.specs.Outcomes.{Outcome, given, faulted, too_much}
use Rattle.jsone_render.specs.Templates.{IsRendered}
use Rattle.jsone_render.specs.declared.faults.TemplateFault.{TemplateFault}
use Rattle.task_defs.specs.declared.fault.DefFault.{DefFault}
use Rattle.task_types.specs.declared.task_def.TaskDef.{TaskDef}
use Rattle.task_defs.specs.Faults.{IsFault}
use Rattle.task_defs.specs.Rules.{MomentAt, IsExpires}
use Rattle.task_defs.specs.Definitions.{Says, rules}
use Rattle.task_defs.specs.Parts.{IsOnlyAt}
use Rattle.task_defs.proofs.TimeLemmas.{only_same}
use Rattle.task_defs.proofs.DefinitionLemmas.{definition_one}
use Rattle.hook_fire.specs.declared.fault.FireFault.{FireFault}
use Rattle.hook_fire.specs.declared.fault.FireFault.TheVariants.{Template, TooMuchWork, Definition, NoMemory}
use Rattle.hook_fire.specs.Contexts.{IsContext, context_of}
use Rattle.hook_fire.specs.Defaults.{HasDefault, HasDefaults, day_after}
use Rattle.hook_fire.specs.Firing.{ComesTo, Makes, Defines, Breaks, IsFired}

-- what the laws of the crates below say
abbrev pub OneOutcome : Type 0
OneOutcome = (template context : Document) (o p : Outcome Document) → IsRendered template context o → IsRendered template context p → o ≡ p

abbrev pub OneText : Type 0
OneText = (moment : ℕ) (a b : List ℕ) → IsMomentText moment a → IsMomentText moment b → a ≡ b

abbrev pub OneMoment : Type 0
OneMoment = (m n : ℕ) (t : List ℕ) → IsDateTime m t → IsDateTime n t → m ≡ n

abbrev pub OneFault : Type 0
OneFault = (d : Document) (id : List ℕ) (f g : DefFault) → IsFault (rules d id) f → IsFault (rules d id) g → f ≡ g

abbrev pub NoFault : Type 0
NoFault = (d : Document) (id : List ℕ) (def : TaskDef) (f : DefFault) → Says d id def → ¬ IsFault (rules d id) f

-- ---- the context and the template

context_one : OneText → (payload : Document) (moment : ℕ) (id : List ℕ) (c d : Document) → IsContext payload moment id c → IsContext payload moment id d → c ≡ d
context_one texts payload moment id c d x y =
    x.is ∙ ap (λ (t : List ℕ). context_of t payload id) (texts moment x.now y.now x.now_text y.now_text) ∙ sym y.is

comes_one : OneOutcome → OneText → (template payload : Document) (moment : ℕ) (id : List ℕ) (o p : Outcome Document) → ComesTo template payload moment id o → ComesTo template payload moment id p → o ≡ p
comes_one outcomes texts template payload moment id o p x y =
    let same = context_one texts payload moment id x.context y.context x.is_context y.is_context in
    outcomes template y.context o p (subst (λ (c : Document). IsRendered template c o) same x.renders) y.renders

-- ---- the defaults

at_one : OneText → (there : Bool) (moment : ℕ) (key : List ℕ) (ms : Members) (a b : Document)
    → MatchBool there (a ≡ object ms) ((t : List ℕ) × IsMomentText moment t × (a ≡ object (put key (text t) ms)))
    → MatchBool there (b ≡ object ms) ((t : List ℕ) × IsMomentText moment t × (b ≡ object (put key (text t) ms))) → a ≡ b
at_one texts true moment key ms a b x y = x ∙ sym y
at_one texts false moment key ms a b x y =
    x.2 ∙ ap (λ (t : List ℕ). object (put key (text t) ms)) (texts moment x.0 y.0 x.1 y.1) ∙ sym y.2

default_one : OneText → (key : List ℕ) (moment : ℕ) (before a b : Document) → HasDefault key moment before a → HasDefault key moment before b → a ≡ b
default_one texts key moment (object ms) a b x y = at_one texts (is_some (member_at key ms)) moment key ms a b x y
default_one texts key moment _ a b x y = x ∙ sym y

defaults_one : OneText → (moment : ℕ) (rendered a b : Document) → HasDefaults moment rendered a → HasDefaults moment rendered b → a ≡ b
defaults_one texts moment rendered a b x y =
    let same = default_one texts (codes "created") moment rendered x.created y.created x.with_created y.with_created in
    default_one texts (codes "deadline") (day_after moment) y.created a b
    (subst (λ (d : Document). HasDefault (codes "deadline") (day_after moment) d a) same x.with_deadline) y.with_deadline

same_value : (a b : Document) (m n : ℕ) → given a m ≡ given b n → a ≡ b
same_value a b m n e = cc

makes_one : OneOutcome → OneText → (template payload : Document) (moment : ℕ) (id : List ℕ) (a b : Document) → Makes template payload moment id a → Makes template payload moment id b → a ≡ b
makes_one outcomes texts template payload moment id a b x y =
    let same = same_value x.rendered y.rendered x.cost y.cost (comes_one outcomes texts template payload moment id (given x.rendered x.cost) (given y.rendered y.cost) x.comes y.comes) in
    defaults_one texts moment y.rendered a b (subst (λ (d : Document). HasDefaults moment d a) same x.defaults) y.defaults

-- ---- a document says one definition

only_at : OneMoment → (key : List ℕ) (d : Document) (m : ℕ) → MomentAt key d m → IsOnlyAt (get key d) m
only_at moments key d m at = (text at.0, at.1, record { said = at.0; is = refl; moment = at.2; only = λ n h. moments m n at.0 at.2 h })

expires_one : OneMoment → (d : Document) (deadline m n : ℕ) → IsExpires d deadline m → IsExpires d deadline n → m ≡ n
expires_one moments d deadline m n x y = elim x [
  | inl u ↦ elim y [
    | inl v ↦ only_same (codes "expires") d m n (only_at moments (codes "expires") d m u) v
    | inr v ↦ let e : Some (text u.0) ≡ None = sym u.1 ∙ v.0 in absurd cc
  ]
  | inr u ↦ elim y [
    | inl v ↦ let e : None ≡ Some (text v.0) = sym u.0 ∙ v.1 in absurd cc
    | inr v ↦ u.1 ∙ sym v.1
  ]
]

says_one : OneMoment → (d : Document) (id : List ℕ) (a b : TaskDef) → Says d id a → Says d id b → a ≡ b
says_one moments d id a b x y =
    let h = x.definition in
    definition_one d id a b (only_at moments (codes "created") d a.created h.created) (only_at moments (codes "deadline") d a.deadline h.deadline)
    (λ n at. expires_one moments d a.deadline a.expires n h.expires at) h y.definition

-- ---- the answer

-- no value is a fault, and neither is too much work
no_fault : (d : Document) (cost : ℕ) (f : TemplateFault) → given d cost ≡ faulted f.rule f.path → ⊥
no_fault d cost f e = cc

not_much : (d : Document) (cost : ℕ) → given d cost ≡ too_much → ⊥
not_much d cost e = cc

fault_not_much : (f : TemplateFault) (o : Outcome Document) → o ≡ faulted f.rule f.path → o ≡ too_much → ⊥
fault_not_much f o e k = cc

same_fault : (f g : TemplateFault) (o : Outcome Document) → o ≡ faulted f.rule f.path → o ≡ faulted g.rule g.path → f ≡ g
same_fault f g o e k =
    let rules : f.rule ≡ g.rule = cc in
    let paths : f.path ≡ g.path = cc in
    rw (rules, paths) refl

-- what the laws below give, together
pub record Laws : Type 0 where
  pub outcomes : OneOutcome
  pub texts : OneText
  pub moments : OneMoment
  pub faults : OneFault
  pub sound : NoFault

-- a document is made, so the template does not stop
made_no_stop : Laws → (template payload : Document) (moment : ℕ) (id : List ℕ) (d : Document) (f : TemplateFault) → Makes template payload moment id d → ComesTo template payload moment id (faulted f.rule f.path) → ⊥
made_no_stop laws template payload moment id d f x y =
    no_fault x.rendered x.cost f (comes_one laws.outcomes laws.texts template payload moment id (given x.rendered x.cost) (faulted f.rule f.path) x.comes y)

made_not_much : Laws → (template payload : Document) (moment : ℕ) (id : List ℕ) (d : Document) → Makes template payload moment id d → ComesTo template payload moment id too_much → ⊥
made_not_much laws template payload moment id d x y =
    not_much x.rendered x.cost (comes_one laws.outcomes laws.texts template payload moment id (given x.rendered x.cost) too_much x.comes y)

stop_not_much : Laws → (template payload : Document) (moment : ℕ) (id : List ℕ) (f : TemplateFault) → ComesTo template payload moment id (faulted f.rule f.path) → ComesTo template payload moment id too_much → ⊥
stop_not_much laws template payload moment id f x y =
    fault_not_much f (faulted f.rule f.path) refl (comes_one laws.outcomes laws.texts template payload moment id (faulted f.rule f.path) too_much x y)

one_definition : Laws → (template payload : Document) (moment : ℕ) (id : List ℕ) (a b : TaskDef) → Defines template payload moment id a → Defines template payload moment id b → a ≡ b
one_definition laws template payload moment id a b x y =
    let same = makes_one laws.outcomes laws.texts template payload moment id x.whole y.whole x.makes y.makes in
    says_one laws.moments y.whole id a b (subst (λ (d : Document). Says d id a) same x.says) y.says

one_fault : Laws → (template payload : Document) (moment : ℕ) (id : List ℕ) (f g : DefFault) → Breaks template payload moment id f → Breaks template payload moment id g → f ≡ g
one_fault laws template payload moment id f g x y =
    let same = makes_one laws.outcomes laws.texts template payload moment id x.whole y.whole x.makes y.makes in
    laws.faults y.whole id f g (subst (λ (d : Document). IsFault (rules d id) f) same x.breaks) y.breaks

not_both : Laws → (template payload : Document) (moment : ℕ) (id : List ℕ) (def : TaskDef) (f : DefFault) → Defines template payload moment id def → Breaks template payload moment id f → ⊥
not_both laws template payload moment id def f x y =
    let same = makes_one laws.outcomes laws.texts template payload moment id x.whole y.whole x.makes y.makes in
    laws.sound y.whole id def f (subst (λ (d : Document). Says d id def) same x.says) y.breaks

one_stop : Laws → (template payload : Document) (moment : ℕ) (id : List ℕ) (f g : TemplateFault) → ComesTo template payload moment id (faulted f.rule f.path) → ComesTo template payload moment id (faulted g.rule g.path) → f ≡ g
one_stop laws template payload moment id f g x y =
    same_fault f g (faulted f.rule f.path) refl (comes_one laws.outcomes laws.texts template payload moment id (faulted f.rule f.path) (faulted g.rule g.path) x y)

pub one_answer : Laws → (template payload : Document) (moment : ℕ) (id : List ℕ) (a b : Result TaskDef FireFault) → a ≢ Err NoMemory → b ≢ Err NoMemory
    → IsFired template payload moment id a → IsFired template payload moment id b → a ≡ b
one_answer laws t p m id (Err NoMemory) b some more x y = absurd (some refl)
one_answer laws t p m id a (Err NoMemory) some more x y = absurd (more refl)
one_answer laws t p m id (Ok a) (Ok b) some more x y = ap Ok (one_definition laws t p m id a b x y)
one_answer laws t p m id (Ok a) (Err (Template f)) some more x y = absurd (made_no_stop laws t p m id x.whole f x.makes y)
one_answer laws t p m id (Ok a) (Err TooMuchWork) some more x y = absurd (made_not_much laws t p m id x.whole x.makes y)
one_answer laws t p m id (Ok a) (Err (Definition f)) some more x y = absurd (not_both laws t p m id a f x y)
one_answer laws t p m id (Err (Template f)) (Ok b) some more x y = absurd (made_no_stop laws t p m id y.whole f y.makes x)
one_answer laws t p m id (Err (Template f)) (Err (Template g)) some more x y = ap (λ (h : TemplateFault). Err (Template h)) (one_stop laws t p m id f g x y)
one_answer laws t p m id (Err (Template f)) (Err TooMuchWork) some more x y = absurd (stop_not_much laws t p m id f x y)
one_answer laws t p m id (Err (Template f)) (Err (Definition g)) some more x y = absurd (made_no_stop laws t p m id y.whole f y.makes x)
one_answer laws t p m id (Err TooMuchWork) (Ok b) some more x y = absurd (made_not_much laws t p m id y.whole y.makes x)
one_answer laws t p m id (Err TooMuchWork) (Err (Template g)) some more x y = absurd (stop_not_much laws t p m id g y x)
one_answer laws t p m id (Err TooMuchWork) (Err TooMuchWork) some more x y = refl
one_answer laws t p m id (Err TooMuchWork) (Err (Definition g)) some more x y = absurd (made_not_much laws t p m id y.whole y.makes x)
one_answer laws t p m id (Err (Definition f)) (Ok b) some more x y = absurd (not_both laws t p m id b f y x)
one_answer laws t p m id (Err (Definition f)) (Err (Template g)) some more x y = absurd (made_no_stop laws t p m id x.whole g x.makes y)
one_answer laws t p m id (Err (Definition f)) (Err TooMuchWork) some more x y = absurd (made_not_much laws t p m id x.whole x.makes y)
one_answer laws t p m id (Err (Definition f)) (Err (Definition g)) some more x y = ap (λ (h : DefFault). Err (Definition h)) (one_fault laws t p m id f g x y)
