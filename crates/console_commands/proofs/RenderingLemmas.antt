-- An input has one rendering, or it is refused; and which object it has to be.
use Rattle.std.proofs.Common.{◌≡◌, ℕ, ◌++◌, List, [], ◌∷◌, inl, inr, ◌∙◌, ap, refl, sym, subst, arith, codes, length, slice_get, Some, Err, String, Global, string_bytes}
use Rattle.serde_json.specs.Data.{Data}
use Rattle.farm_text.specs.Document.{Document, Members, members_of, object, data_of, document_text}
use Rattle.farm_text.specs.Doc.{document, entries_of}
use Rattle.farm_text.specs.declared.doc.Doc.{Doc}
use Rattle.farm_text.specs.Reading.{IsJson, unwhole}
use Rattle.jsone_values.specs.declared.faults.Fault.{Fault}
use Rattle.jsone_render.specs.Outcomes.{Outcome, given, faulted, too_much}
use Rattle.jsone_render.specs.Answers.{IsAnswer}
use Rattle.jsone_render.specs.Templates.{IsRendered}
use Rattle.jsone_render.specs.declared.faults.RenderFault.{RenderFault}
use Rattle.jsone_render.specs.declared.faults.RenderFault.TheVariants as unrendered
use Rattle.console_commands.specs.Rendering.{request_members, request_of, Says, ComesTo, IsRendering, HasUnwhole, IsUnrendered, RenderingRefused, unrendered_status}

-- what the laws of the crates below say
abbrev pub OneOutcome : Type 0
OneOutcome = (template context : Document) (o p : Outcome Document) → IsRendered template context o → IsRendered template context p → o ≡ p

abbrev pub OneDocument : Type 0
OneDocument = (bytes : List ℕ) (a b : Document) → IsJson bytes (data_of a) → IsJson bytes (data_of b) → a ≡ b

same_context : (c d : Members) (t u : Document) → request_of c t ≡ request_of d u → c ≡ d
same_context c d t u e = cc

same_template : (c d : Members) (t u : Document) → request_of c t ≡ request_of d u → t ≡ u
same_template c d t u e = cc

comes_to_one : OneOutcome → OneDocument → (input : List ℕ) (o p : Outcome Document) → ComesTo input o → ComesTo input p → o ≡ p
comes_to_one outcomes documents input o p first second =
    let same = documents input (request_of first.context first.template) (request_of second.context second.template) first.says.json second.says.json in
    let contexts = same_context first.context second.context first.template second.template same in
    let templates = same_template first.context second.context first.template second.template same in
    outcomes second.template (object second.context) o p
    (subst (λ (t : Document). IsRendered t (object second.context) o) templates (subst (λ (c : Members). IsRendered first.template (object c) o) contexts first.renders))
    second.renders

same_value : (a b : Document) (m n : ℕ) → given a m ≡ given b n → a ≡ b
same_value a b m n e = cc

pub rendering_is_one : OneOutcome → OneDocument → (input a b : List ℕ) → IsRendering input a → IsRendering input b → a ≡ b
rendering_is_one outcomes documents input a b first second =
    let same = same_value first.value second.value first.cost second.cost (comes_to_one outcomes documents input (given first.value first.cost) (given second.value second.cost) first.comes second.comes) in
    first.text_is ∙ (ap (λ (v : Document). document_text v ++ codes "\n") same ∙ sym second.text_is)

-- a document has whole numbers alone
not_unwhole : (input path : List ℕ) (document : Document) → Says input document → HasUnwhole input path → ⊥
not_unwhole input path document says u =
    let same : u.value ≡ data_of document = some_is (sym u.json.1 ∙ says.json.1) in
    nothing path u.more (sym u.are ∙ (ap unwhole same ∙ says.whole))
  where
    some_is : {a b : Data} → Some a ≡ Some b → a ≡ b
    some_is e = cc

    nothing : (x : List ℕ) (xs : List (List ℕ)) → x ∷ xs ≡ [] → ⊥
    nothing x xs e = cc

no_fault : (value : Document) (cost : ℕ) (rule : Fault) (path : List ℕ) → given value cost ≡ faulted rule path → ⊥
no_fault value cost rule path e = cc

not_much : (value : Document) (cost : ℕ) → given value cost ≡ too_much → ⊥
not_much value cost e = cc

pub rendering_not_refused : OneOutcome → OneDocument → (input text : List ℕ) → IsRendering input text → ¬ IsUnrendered input
rendering_not_refused outcomes documents input text is (inl long) = let short = is.comes.says.short in absurd (omega (arith, short, long))
rendering_not_refused outcomes documents input text is (inr (inl none)) = none (data_of (request_of is.comes.context is.comes.template)) is.comes.says.json
rendering_not_refused outcomes documents input text is (inr (inr (inl bad))) = not_unwhole input bad.0 (request_of is.comes.context is.comes.template) is.comes.says bad.1
rendering_not_refused outcomes documents input text is (inr (inr (inr (inl wrong)))) =
    let request : Document = request_of is.comes.context is.comes.template in
    wrong.other is.comes.context is.comes.template (documents input wrong.document request wrong.says.json is.comes.says.json)
rendering_not_refused outcomes documents input text is (inr (inr (inr (inr (inl fault))))) =
    no_fault is.value is.cost fault.0 fault.1 (comes_to_one outcomes documents input (given is.value is.cost) (faulted fault.0 fault.1) is.comes fault.2)
rendering_not_refused outcomes documents input text is (inr (inr (inr (inr (inr much))))) =
    not_much is.value is.cost (comes_to_one outcomes documents input (given is.value is.cost) too_much is.comes much)

-- a template without a value refuses its input
pub refused_by : (input : List ℕ) (context : Members) (template : Document) (fault : RenderFault) → Says input (request_of context template) → IsAnswer (IsRendered template (object context)) (Err fault)
    → RenderingRefused input (unrendered_status fault)
refused_by input context template (unrendered.Fault f) says is =
    inr (inr (inr (inr (inl (f.rule, f.path, record { context = context; template = template; says = says; renders = is })))))
refused_by input context template unrendered.TooMuchWork says is = inr (inr (inr (inr (inr (record { context = context; template = template; says = says; renders = is })))))
refused_by input context template unrendered.NoMemory says is = tt

-- ---- which maps have exactly the two members

abbrev Entry : Type 0
Entry = String Global × Doc

abbrev members_in : List Entry → Members
members_in es = members_of (entries_of es)

-- a map of them has two entries
pub are_two : (es : List Entry) (context template : Document) → members_in es ≡ request_members context template → length es ≡ 2
are_two [] context template is = cc
are_two (a ∷ []) context template is = cc
are_two (a ∷ b ∷ []) context template is = refl
are_two (a ∷ b ∷ c ∷ more) context template is = cc

-- two entries at these keys are these members
pub both_there : (es : List Entry) (first last : String Global) (context template : Doc) → length es ≡ 2 → slice_get es 0 ≡ Some (first, context) → slice_get es 1 ≡ Some (last, template)
    → string_bytes first ≡ codes "context" → string_bytes last ≡ codes "template" → members_in es ≡ request_members (document context) (document template)
both_there [] first last context template two at_first at_last is_first is_last = cc
both_there (a ∷ []) first last context template two at_first at_last is_first is_last = cc
both_there (a ∷ b ∷ []) first last context template two at_first at_last is_first is_last =
    let x : a ≡ (first, context) = cc in
    let y : b ≡ (last, template) = cc in
    rw (x, y, is_first, is_last) refl
both_there (a ∷ b ∷ c ∷ more) first last context template two at_first at_last is_first is_last = absurd (omega (arith, two))

-- and members of these keys are of entries at them
pub are_keys : (es : List Entry) (first last : String Global) (context template : Doc) (c t : Document) → slice_get es 0 ≡ Some (first, context) → slice_get es 1 ≡ Some (last, template)
    → members_in es ≡ request_members c t → (string_bytes first ≡ codes "context") × (string_bytes last ≡ codes "template")
are_keys [] first last context template c t at_first at_last is = cc
are_keys (a ∷ []) first last context template c t at_first at_last is = cc
are_keys (a ∷ b ∷ more) first last context template c t at_first at_last is =
    let x : a ≡ (first, context) = cc in
    let y : b ≡ (last, template) = cc in
    let k : string_bytes a.0 ≡ codes "context" = cc in
    let l : string_bytes b.0 ≡ codes "template" = cc in
    (ap (λ (e : Entry). string_bytes e.0) (sym x) ∙ k, ap (λ (e : Entry). string_bytes e.0) (sym y) ∙ l)
