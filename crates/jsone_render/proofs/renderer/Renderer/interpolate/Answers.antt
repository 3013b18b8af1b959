use Rattle.std.proofs.Common.{◌++◌, codes, ℕ, List, Err, Global, string_bytes, refl, sym, ap, subst, ◌∙◌, lit<, rules}
use Rattle.jsone_eval.specs.Scopes.{scopes_of}
use Rattle.jsone_values.proofs.SplitLemmas.{first_cut}
use Rattle.jsone_render.specs.Answers.{Answers, EndsAt}
use Rattle.jsone_render.specs.declared.faults.RenderFault.{RenderFault}
use Rattle.jsone_render.specs.Outcomes.{Outcome, given}
use Rattle.jsone_render.specs.Texts.{opening, ends_with_dollar, Valued, PartsRender, Interpolated}
use Rattle.jsone_render.proofs.CutLemmas.{less_left, less_behind}
use Rattle.jsone_render.proofs.TextLemmas.{past_escape, past_value, at_fault, at_unended, at_last, at_front}
use Rattle.jsone_render.proofs.renderer.Renderer.interpolate.Goals as goal

pub loop-front-init : goal.loop-front-init
loop-front-init c = record { leads = at_front c.args.text.now (string_bytes c.new-out.result) (scopes_of c.args.self.now.context) c.args.self.now.cost.spent c.new-out.ensures.bytes; same = refl; utf8 = c.utf8.text }

pub loop-front-smaller-then-ends_with_dollar : goal.loop-front-smaller-then-ends_with_dollar
loop-front-smaller-then-ends_with_dollar c =
    let l = c.loop-front in
    let found = c.in-Some.ensures.cases in
    less_left opening l.rest.now c.in-Some.front.now c.in-Some.behind.now (first_cut opening l.rest.now c.in-Some.front.now c.in-Some.behind.now found.0 found.1 found.2.0 found.2.1 found.3 found.4 found.6) (lit< tt)

pub loop-front-preserved-then-ends_with_dollar : goal.loop-front-preserved-then-ends_with_dollar
loop-front-preserved-then-ends_with_dollar c =
    let l = c.loop-front in
    let found = c.in-Some.ensures.cases in
    let cut = first_cut opening l.rest.now c.in-Some.front.now c.in-Some.behind.now found.0 found.1 found.2.0 found.2.1 found.3 found.4 found.6 in
    let whole : Outcome (List ℕ) → Type 0 = Interpolated c.args.text.now (scopes_of c.args.self.now.context) c.args.self.now.cost.spent in
    record {
      leads = past_escape whole l.rest.now c.in-Some.front.now c.in-Some.behind.now (string_bytes l.out) (string_bytes c.push_str-then-ends_with_dollar.new.self) (scopes_of l.self.context) l.self.cost.spent cut
          (ap ends_with_dollar (sym c.as_bytes.ensures.value) ∙ sym c.ends_with_dollar.ensures ∙ c.if-ends_with_dollar.true)
          (c.in_ok-push_str-2.ensures.bytes ∙ ap (λ (b : List ℕ). b ++ codes "{") c.in_ok-push_str.ensures.bytes) l.invariant.leads;
      same = l.invariant.same;
      utf8 = search rules;
    }

pub loop-front-smaller : goal.loop-front-smaller
loop-front-smaller c =
    let l = c.loop-front in
    let found = c.in-Some.ensures.cases in
    let cut = first_cut opening l.rest.now c.in-Some.front.now c.in-Some.behind.now found.0 found.1 found.2.0 found.2.1 found.3 found.4 found.6 in
    let ends = subst (EndsAt c.in-Some.behind.now) c.in-Some-2.is c.in_ok-reading.ensures in
    less_behind opening l.rest.now c.in-Some.front.now c.in-Some.behind.now c.in-Some-2.reading.value c.in-Some-2.next.now cut (lit< tt) ends.0

pub loop-front-preserved : goal.loop-front-preserved
loop-front-preserved c =
    let l = c.loop-front in
    let found = c.in-Some.ensures.cases in
    let cut = first_cut opening l.rest.now c.in-Some.front.now c.in-Some.behind.now found.0 found.1 found.2.0 found.2.1 found.3 found.4 found.6 in
    let ends = subst (EndsAt c.in-Some.behind.now) c.in-Some-2.is c.in_ok-reading.ensures in
    let whole : Outcome (List ℕ) → Type 0 = Interpolated c.args.text.now (scopes_of c.args.self.now.context) c.args.self.now.cost.spent in
    let next = string_bytes c.push_str-in-Some-2.new.self in
    let made = c.in_ok-push_str-in-Some-2.ensures.bytes ∙ ap (λ (b : List ℕ). b ++ c.as_str.result.now) c.in_ok-push_str.ensures.bytes ∙ ap (λ (b : List ℕ). (string_bytes l.out ++ c.in-Some.front.now) ++ b) c.as_str.ensures in
    let valued = subst (λ (e : List ℕ). Valued e (scopes_of l.self.context) l.self.cost.spent (given c.in-Ok.value c.valued.new.self.cost.spent)) c.deref.ensures c.in-Ok.ensures.answers in
    record {
      leads = λ parts o are h. past_value whole l.rest.now c.in-Some.front.now c.in-Some.behind.now c.in-Some-2.reading.value c.in-Some-2.next.now (string_bytes l.out) c.in-Ok.value next (scopes_of l.self.context) l.self.cost.spent c.valued.new.self.cost.spent cut
          (ap ends_with_dollar (sym c.as_bytes.ensures.value) ∙ sym c.ends_with_dollar.ensures ∙ c.if-ends_with_dollar.false) ends.0 ends.1 valued made l.invariant.leads parts o are
          (subst (λ s. PartsRender next parts s c.valued.new.self.cost.spent o) c.in-Ok.ensures.scopes h);
      same = c.in-Ok.ensures.scopes ∙ l.invariant.same;
      utf8 = search rules;
    }

pub returns-in-Err-clause-answers : goal.returns-in-Err-clause-answers
returns-in-Err-clause-answers c =
    let l = c.loop-front in
    let found = c.in-Some.ensures.cases in
    let cut = first_cut opening l.rest.now c.in-Some.front.now c.in-Some.behind.now found.0 found.1 found.2.0 found.2.1 found.3 found.4 found.6 in
    let ends = subst (EndsAt c.in-Some.behind.now) c.in-Some-2.is c.in_ok-reading.ensures in
    let whole : Outcome (List ℕ) → Type 0 = Interpolated c.args.text.now (scopes_of c.args.self.now.context) c.args.self.now.cost.spent in
    at_fault (λ (t : List ℕ). t) (string_bytes {Z = Global}) whole l.rest.now c.in-Some.front.now c.in-Some.behind.now c.in-Some-2.reading.value c.in-Some-2.next.now (string_bytes l.out) (scopes_of l.self.context) l.self.cost.spent c.valued.new.self.cost.spent c.valued.new.self.cost.spent c.in-Err.fault cut
    (ap ends_with_dollar (sym c.as_bytes.ensures.value) ∙ sym c.ends_with_dollar.ensures ∙ c.if-ends_with_dollar.false) ends.0 ends.1
    (subst (λ (e : List ℕ). Answers (λ (t : List ℕ). t) (Valued e (scopes_of l.self.context) l.self.cost.spent) (Err c.in-Err.fault) c.valued.new.self.cost.spent) c.deref.ensures c.in-Err.ensures.answers) l.invariant.leads

pub returns-in-None-clause-answers : goal.returns-in-None-clause-answers
returns-in-None-clause-answers c =
    let l = c.loop-front in
    let found = c.in-Some.ensures.cases in
    let cut = first_cut opening l.rest.now c.in-Some.front.now c.in-Some.behind.now found.0 found.1 found.2.0 found.2.1 found.3 found.4 found.6 in
    let none = subst (EndsAt c.in-Some.behind.now) c.in-None.is c.in_ok-reading.ensures in
    let whole : Outcome (List ℕ) → Type 0 = Interpolated c.args.text.now (scopes_of c.args.self.now.context) c.args.self.now.cost.spent in
    subst (λ (f : RenderFault). Answers (string_bytes {Z = Global}) whole (Err f) l.self.cost.spent) (sym c.here.ensures)
    (at_unended whole l.rest.now c.in-Some.front.now c.in-Some.behind.now (string_bytes l.out) (scopes_of l.self.context) l.self.cost.spent cut
    (ap ends_with_dollar (sym c.as_bytes.ensures.value) ∙ sym c.ends_with_dollar.ensures ∙ c.if-ends_with_dollar.false) none l.invariant.leads)

pub returns-clause-answers : goal.returns-clause-answers
returns-clause-answers c =
    at_last (Interpolated c.args.text.now (scopes_of c.args.self.now.context) c.args.self.now.cost.spent) c.loop-front.rest.now (string_bytes c.loop-front.out) (string_bytes c.push_str-2.new.self) (scopes_of c.loop-front.self.context) c.loop-front.self.cost.spent
    c.in_default.ensures.cases c.in_ok-push_str-3.ensures.bytes c.loop-front.invariant.leads
