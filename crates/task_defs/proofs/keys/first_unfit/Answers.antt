use Rattle.std.proofs.Common.{◌≡◌, List, [], ◌∷◌, ◌++◌, sym, ap, ◌∙◌, append_assoc, subst, string_bytes, true, false, ℕ}
use Rattle.farm_text.specs.Document.{object}
use Rattle.farm_text.specs.Doc.{document}
use Rattle.farm_text.proofs.DocLemmas.{Entry, members_in}
use Rattle.task_defs.specs.Faults.{IsFirstKey}
use Rattle.task_defs.specs.Keys.{may_stand, IsUnfit}
use Rattle.task_defs.proofs.KeyLemmas.{all_fit_more, first_unfit, all_done}
use Rattle.task_defs.proofs.keys.first_unfit.Goals as goal

pub loop-key-init : goal.loop-key-init
loop-key-init c = ([], sym (c.into_iter-key-iterator.ensures.into_iter_gives ∙ c.iter-key-items.ensures.rest), tt)

pub loop-key-preserved : goal.loop-key-preserved
loop-key-preserved c =
    let l = c.loop-key.invariant in
    let e : Entry = (c.in-Some.key.now, c.in-Some.value.now) in
    let fit : may_stand (string_bytes e.0) (document e.1) ≡ true = ap (λ (k : List ℕ). may_stand k (document e.1)) (sym c.as_str.ensures.value) ∙ sym c.if-not-may_stand.ensures in
    (l.0 ++ e ∷ [], l.1 ∙ ap (λ (es : List Entry). l.0 ++ es) c.in-Some.ensures.steps ∙ sym (append_assoc l.0 (e ∷ []) c.next.new.self), all_fit_more l.0 e l.2 fit)

pub returns-then-not-may_stand : goal.returns-then-not-may_stand
returns-then-not-may_stand c =
    let l = c.loop-key.invariant in
    let e : Entry = (c.in-Some.key.now, c.in-Some.value.now) in
    let unfit : may_stand (string_bytes e.0) (document e.1) ≡ false = ap (λ (k : List ℕ). may_stand k (document e.1)) (sym c.as_str.ensures.value) ∙ sym c.if-not-may_stand.ensures in
    subst (λ (k : List ℕ). IsFirstKey (IsUnfit (object (members_in c.args.members.now.entries))) k) (sym c.as_str-then-not-may_stand.ensures.value)
    (first_unfit c.args.members.now.entries l.0 e c.next.new.self (l.1 ∙ ap (λ (es : List Entry). l.0 ++ es) c.in-Some.ensures.steps) c.iter-key-items.ensures.ordered l.2 unfit)

pub returns : goal.returns
returns c =
    let l = c.loop-key.invariant in
    all_done c.args.members.now.entries l.0 c.loop-key.key-iterator l.1 c.in-None.ensures.steps.0 l.2
