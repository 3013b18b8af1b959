use Rattle.std.proofs.Common.{◌≡◌, ◌∷◌, ◌++◌, [], ◌+◌, ◌<◌, ℕ, List, Vec, String, Bor, Global, Some, Err, codes, length, drop, string_bytes, refl, sym, ap, subst, ◌∙◌, arith, rules, ℤ, to_z, of_z, w64}
use Rattle.std.specs.Prelude.{Option}
use Rattle.std.specs.Vec.Iter.{into_iter_items}
use Rattle.std.proofs.lemmas.Grind.{common_steps}
use Rattle.std.proofs.lemmas.Int.{ints, to_z-of_z}
use Rattle.std.proofs.lemmas.List.{length-map}
use Rattle.farm_text.specs.Document.{Document, null, boolean, whole, text, object, items_of, no_members, member_at}
use Rattle.farm_text.specs.Doc.{document, documents, entries_of}
use Rattle.farm_text.specs.Reading.{escaped}
use Rattle.farm_text.specs.declared.doc.Doc.{Doc}
use Rattle.farm_text.specs.declared.doc.Doc.TheVariants.{Null as NullDoc, Bool as BoolDoc, Int as IntDoc, List as ListDoc, Map as MapDoc}
use Rattle.farm_text.proofs.DocLemmas.{Entry, members_in, document-List, document-Map}
use Rattle.jsone_values.specs.declared.faults.Fault.TheVariants.{WrongKind, BadOperator, TwoBranches}
use Rattle.jsone_values.specs.Meets.{Meets}
use Rattle.jsone_values.specs.Weights.{weight, members_weight}
use Rattle.jsone_values.proofs.JoinLemmas.{document-Int, document-Text}
use Rattle.jsone_eval.proofs.CallLemmas.{document-Bool}
use Rattle.jsone_eval.specs.declared.evaluator.Cost.{Cost}
use Rattle.jsone_eval.specs.Calls.{IsFromNowAt}
use Rattle.jsone_eval.specs.Scopes.{bound, scopes_of}
use Rattle.jsone_render.specs.declared.faults.RenderFault.{RenderFault}
use Rattle.jsone_render.specs.declared.operators.Operator.TheVariants.{Eval, If, Switch, Match, Let, Map, Reduce, Find, Sort, FromNow}
use Rattle.jsone_render.specs.Answers.{Answers, IsUnder, branch_taken, found_in, here, names_in, pairs_of, texts_in}
use Rattle.jsone_render.specs.Bindings.{LetIn, LetRenders, bound_to, both, EachRenders, or_before, TurnsReduce, ReducedOver}
use Rattle.jsone_render.specs.Conditions.{Taken, branch_of, AreTrue, conditions_of, OneTaken, SwitchRenders, AllTaken, MatchRenders}
use Rattle.jsone_render.specs.Expressions.{ValueAt}
use Rattle.jsone_render.specs.Forms.{plain, faulty, alone, binding, key_of}
use Rattle.jsone_render.specs.Maps.{keys_of, kept_at, KeysRender}
use Rattle.jsone_render.specs.Outcomes.{Outcome, given, pay, worth, or_null, Meaning}
use Rattle.jsone_render.specs.Templates.{Given, IsGivenBy, SpanRenders, BoundOver, Under, Renders, ItemsRender, ValuesRender, MemberRenders, BranchRenders, InnerRenders}
use Rattle.jsone_render.specs.Texts.{TextRenders}
use Rattle.jsone_render.proofs.OutcomeLemmas.{answer_through, fault_through, fault_under, value_through, value_under}
use Rattle.jsone_render.proofs.RenderLemmas.{of_same, of_plain, document-Null, of_list, of_list_fault, item_more, item_fault, item_next, item_end, value_more, value_fault, of_form, length-keys_of, kept_from, body_at, body_fault, made_so, alone_is, by_operand, over_is, takes_none, let_bound, let_bad, let_kind, switch_kind, match_kind, two_taken, one_taken, FromRenders, from_there, from_now_on, of_mapped_list, of_mapped_list_fault, reduce_kind, reduce_list}
use Rattle.jsone_render.proofs.SizeLemmas.{member_weight, item_weight}
use Rattle.jsone_render.proofs.TemplateLemmas.{member_found, member_missing, branch_found, no_branches}
use Rattle.jsone_render.proofs.TurnLemmas.{turn_more, turn_fault, reduce_more, reduce_fault, taken_back, taken_more, taken_fault}
use Rattle.jsone_render.proofs.renderer.Renderer.+render.Goals as goal

pub value-returns-in-Null-clause-answers : goal.value-returns-in-Null-clause-answers
value-returns-in-Null-clause-answers t c =
    let scopes = scopes_of c.args.self.now.context in
    let n = c.args.self.now.cost.spent in
    of_plain (document c.args.template.now) (document NullDoc) null scopes n c.pay.result c.pay.new.self.cost.spent (ap document c.in-Null.is) document-Null (λ o h. h) (c.pay.ensures.answers 1 refl)

pub value-returns-in-Null-clause-scopes : goal.value-returns-in-Null-clause-scopes
value-returns-in-Null-clause-scopes t c = c.pay.ensures.scopes

pub value-returns-in-Bool-clause-answers : goal.value-returns-in-Bool-clause-answers
value-returns-in-Bool-clause-answers t c =
    let scopes = scopes_of c.args.self.now.context in
    let n = c.args.self.now.cost.spent in
    of_plain (document c.args.template.now) (document (BoolDoc c.in-Bool.truth)) (boolean c.in-Bool.truth) scopes n c.pay-in-Bool.result c.pay-in-Bool.new.self.cost.spent (ap document c.in-Bool.is) (document-Bool c.in-Bool.truth) (λ o h. h) (c.pay-in-Bool.ensures.answers 1 refl)

pub value-returns-in-Bool-clause-scopes : goal.value-returns-in-Bool-clause-scopes
value-returns-in-Bool-clause-scopes t c = c.pay-in-Bool.ensures.scopes

pub value-returns-in-Int-clause-answers : goal.value-returns-in-Int-clause-answers
value-returns-in-Int-clause-answers t c =
    let scopes = scopes_of c.args.self.now.context in
    let n = c.args.self.now.cost.spent in
    of_plain (document c.args.template.now) (document (IntDoc c.in-Int.number)) (whole c.in-Int.number) scopes n c.pay-in-Int.result c.pay-in-Int.new.self.cost.spent (ap document c.in-Int.is) (document-Int c.in-Int.number) (λ o h. h)
    (let same : to_z w64 (of_z w64 c.in-Int.number) ≡ c.in-Int.number = search (rules, ints, to_z-of_z) in subst (λ (z : ℤ). Answers found_in (λ o. o ≡ pay n 1 (Some (document (IntDoc z)))) c.pay-in-Int.result c.pay-in-Int.new.self.cost.spent) same (c.pay-in-Int.ensures.answers 1 refl))

pub value-returns-in-Int-clause-scopes : goal.value-returns-in-Int-clause-scopes
value-returns-in-Int-clause-scopes t c = c.pay-in-Int.ensures.scopes

pub value-returns-in-Text-clause-scopes : goal.value-returns-in-Text-clause-scopes
value-returns-in-Text-clause-scopes t c = c.text.ensures.scopes

pub value-returns-in-Map-clause-scopes : goal.value-returns-in-Map-clause-scopes
value-returns-in-Map-clause-scopes t c = c.map.ensures.scopes

pub value-returns-in-Text-clause-answers : goal.value-returns-in-Text-clause-answers
value-returns-in-Text-clause-answers t c =
    of_same (document c.args.template.now) (text c.in-Text.text) (scopes_of c.args.self.now.context) c.args.self.now.cost.spent c.text.result c.text.new.self.cost.spent (ap document c.in-Text.is ∙ document-Text c.in-Text.text)
    (subst (λ (bs : List ℕ). Answers found_in (TextRenders bs (scopes_of c.args.self.now.context) c.args.self.now.cost.spent) c.text.result c.text.new.self.cost.spent) c.as_str.ensures c.text.ensures.answers)

pub value-items-requires : goal.value-items-requires
value-items-requires t c = (omega (arith, c.decreases, ap weight (ap document c.in-List.is ∙ document-List c.in-List.items)), tt)

pub value-map-requires : goal.value-map-requires
value-map-requires t c = (omega (arith, c.decreases, ap weight (ap document c.in-Map.is ∙ document-Map c.in-Map.members)), tt)

pub value-returns-in-Err-clause-answers : goal.value-returns-in-Err-clause-answers
value-returns-in-Err-clause-answers t c =
    let scopes = scopes_of c.args.self.now.context in
    let n = c.args.self.now.cost.spent in
    let m = c.items.new.self.cost.spent in
    of_list_fault (document c.args.template.now) (documents c.in-List.items.items) scopes n m m c.in-Err.fault (ap document c.in-List.is ∙ document-List c.in-List.items) c.in-Err.ensures.answers

pub value-returns-in-Ok-clause-answers : goal.value-returns-in-Ok-clause-answers
value-returns-in-Ok-clause-answers t c =
    let scopes = scopes_of c.args.self.now.context in
    let n = c.args.self.now.cost.spent in
    let m = c.items.new.self.cost.spent in
    let r = c.pay-in-List.result in
    let k = c.pay-in-List.new.self.cost.spent in
    let items = documents c.in-List.items.items in
    let done = c.in-Ok.done in
    of_list (document c.args.template.now) items (documents done.items) scopes n m k r (ap document c.in-List.is ∙ document-List c.in-List.items) c.in-Ok.ensures.answers
    (subst (λ x. Answers found_in (λ o. o ≡ pay m (1 + length items) (Some x)) r k) (document-List done) (c.pay-in-List.ensures.answers (1 + length items) (omega (arith, c.saturating_add.ensures, c.len.ensures, length-map c.in-List.items.items document, c.in-List.items.ok.0))))

pub value-returns-in-Ok-clause-scopes : goal.value-returns-in-Ok-clause-scopes
value-returns-in-Ok-clause-scopes t c = kept_from c.pay-in-List.result (scopes_of c.args.self.now.context) (scopes_of c.items.new.self.context) (scopes_of c.pay-in-List.new.self.context) c.in-Ok.ensures.scopes c.pay-in-List.ensures.scopes

pub value-returns-in-Map-clause-answers : goal.value-returns-in-Map-clause-answers
value-returns-in-Map-clause-answers t c =
    let scopes = scopes_of c.args.self.now.context in
    let n = c.args.self.now.cost.spent in
    of_same (document c.args.template.now) (object (members_in c.in-Map.members.entries)) scopes n c.map.result c.map.new.self.cost.spent (ap document c.in-Map.is ∙ document-Map c.in-Map.members) c.map.ensures.answers

pub items-value-requires : goal.items-value-requires
items-value-requires t c =
    let xs = c.args.items.now.items in
    let x = c.index.result.now in
    let here : c.loop-index.index < length xs = omega (arith, c.loop-index-test.true, c.len-index-end.ensures, c.args.items.now.ok.0) in
    (omega (arith, c.decreases, item_weight xs c.loop-index.index x here c.index.ensures), tt)

pub items-loop-index-preserved : goal.items-loop-index-preserved
items-loop-index-preserved t c =
    let l = c.loop-index in
    let xs = c.args.items.now.items in
    let x = c.index.result.now in
    let here : l.index < length xs = omega (arith, c.loop-index-test.true, c.len-index-end.ensures, c.args.items.now.ok.0) in
    let next = item_next xs l.index x here c.index.ensures in
    let rest = items_of (documents (drop l.index xs)) in
    let left = items_of (documents (drop (l.index + 1) xs)) in
    let scopes = scopes_of l.self.context in
    let n = l.self.cost.spent in
    let m = c.value.new.self.cost.spent in
    let whole : Outcome (List Document) → Type 0 = ItemsRender 0 [] (items_of (documents xs)) (scopes_of c.args.self.now.context) c.args.self.now.cost.spent in
    record {
      leads = item_more whole l.index (l.index + 1) (documents l.done.items) (documents c.keep.new.done.items) rest left (document x) scopes (scopes_of c.value.new.self.context) n m (found_in c.in-Ok.found) next l.invariant.leads c.in-Ok.ensures.answers refl c.in_ok-keep-in-Ok.ensures c.in-Ok.ensures.scopes;
      same = c.in-Ok.ensures.scopes ∙ l.invariant.same;
    }

pub items-returns-in-Err-clause-answers : goal.items-returns-in-Err-clause-answers
items-returns-in-Err-clause-answers t c =
    let l = c.loop-index in
    let xs = c.args.items.now.items in
    let x = c.index.result.now in
    let here : l.index < length xs = omega (arith, c.loop-index-test.true, c.len-index-end.ensures, c.args.items.now.ok.0) in
    let next = item_next xs l.index x here c.index.ensures in
    let rest = items_of (documents (drop l.index xs)) in
    let left = items_of (documents (drop (l.index + 1) xs)) in
    let scopes = scopes_of l.self.context in
    let n = l.self.cost.spent in
    let m = c.value.new.self.cost.spent in
    let whole : Outcome (List Document) → Type 0 = ItemsRender 0 [] (items_of (documents xs)) (scopes_of c.args.self.now.context) c.args.self.now.cost.spent in
    item_fault whole l.index (documents l.done.items) rest left (document x) scopes n m m c.in-Err.fault c.under_index.result next l.invariant.leads c.under_index.ensures c.in-Err.ensures.answers

pub items-returns-clause-answers : goal.items-returns-clause-answers
items-returns-clause-answers t c =
    let l = c.loop-index in
    let xs = c.args.items.now.items in
    let none = item_end xs l.index (omega (arith, c.loop-index-test.false, c.len-index-end.ensures, c.args.items.now.ok.0)) in
    let scopes = scopes_of l.self.context in
    let done = documents l.done.items in
    let o = given done l.self.cost.spent in
    l.invariant.leads o (subst (λ ds. ItemsRender l.index done ds scopes l.self.cost.spent o) (sym none) refl)

pub values-value-requires : goal.values-value-requires
values-value-requires t c =
    let l = c.loop-key in
    let e : Entry = (c.in-Some.key.now, c.in-Some.member.now) in
    let next : l.key-iterator ≡ e ∷ c.next.new.self = grind (arith, common_steps) in
    (omega (arith, c.decreases, l.invariant.within, ap (λ es. members_weight (members_in es)) next), tt)

pub values-loop-key-preserved : goal.values-loop-key-preserved
values-loop-key-preserved t c =
    let l = c.loop-key in
    let e : Entry = (c.in-Some.key.now, c.in-Some.member.now) in
    let next : l.key-iterator ≡ e ∷ c.next.new.self = grind (arith, common_steps) in
    let left = members_in c.next.new.self in
    let scopes = scopes_of l.self.context in
    let n = l.self.cost.spent in
    let m = c.value.new.self.cost.spent in
    let whole : Outcome (List (List ℕ × Document)) → Type 0 = ValuesRender [] (members_in c.args.members.now.entries) (scopes_of c.args.self.now.context) c.args.self.now.cost.spent in
    record {
      leads = value_more whole (entries_of l.done.items) (entries_of c.keep_at.new.done.items) (members_in l.key-iterator) left (string_bytes e.0) (document e.1) scopes (scopes_of c.value.new.self.context) n m (found_in c.in-Ok.found) (ap members_in next) l.invariant.leads c.in-Ok.ensures.answers
          (c.in_ok-keep_at-in-Ok.ensures ∙ ap (λ (k : List ℕ). entries_of l.done.items ++ kept_at k (found_in c.in-Ok.found)) c.as_str.ensures.value) c.in-Ok.ensures.scopes;
      same = c.in-Ok.ensures.scopes ∙ l.invariant.same;
      within = omega (arith, l.invariant.within, ap (λ es. members_weight (members_in es)) next);
    }

pub values-returns-in-Err-clause-answers : goal.values-returns-in-Err-clause-answers
values-returns-in-Err-clause-answers t c =
    let l = c.loop-key in
    let e : Entry = (c.in-Some.key.now, c.in-Some.member.now) in
    let next : l.key-iterator ≡ e ∷ c.next.new.self = grind (arith, common_steps) in
    let left = members_in c.next.new.self in
    let scopes = scopes_of l.self.context in
    let n = l.self.cost.spent in
    let m = c.value.new.self.cost.spent in
    let whole : Outcome (List (List ℕ × Document)) → Type 0 = ValuesRender [] (members_in c.args.members.now.entries) (scopes_of c.args.self.now.context) c.args.self.now.cost.spent in
    value_fault whole (entries_of l.done.items) (members_in l.key-iterator) left (string_bytes e.0) (document e.1) scopes n m m c.in-Err.fault c.under_key.result (ap members_in next) l.invariant.leads
    (subst (λ (k : List ℕ). IsUnder (escaped k) c.in-Err.fault c.under_key.result) c.as_str-in-Err.ensures.value c.under_key.ensures) c.in-Err.ensures.answers

pub values-returns-clause-answers : goal.values-returns-clause-answers
values-returns-clause-answers t c =
    let l = c.loop-key in
    let none : l.key-iterator ≡ [] = grind (arith, common_steps) in
    let scopes = scopes_of l.self.context in
    let done = entries_of l.done.items in
    let o = given done l.self.cost.spent in
    l.invariant.leads o (subst (λ ms. ValuesRender done ms scopes l.self.cost.spent o) (sym (ap members_in none)) refl)

pub map-values-requires : goal.map-values-requires
map-values-requires t c = (omega (arith, c.decreases), tt)

pub map-alone-requires : goal.map-alone-requires
map-alone-requires t c = (omega (arith, c.decreases), tt)

pub map-operand-requires : goal.map-operand-requires
map-operand-requires t c = (omega (arith, c.decreases), tt)

pub map-over-requires : goal.map-over-requires
map-over-requires t c = (omega (arith, c.decreases), tt)

pub map-returns-in-Err-clause-answers : goal.map-returns-in-Err-clause-answers
map-returns-in-Err-clause-answers t c =
    let ms = members_in c.args.members.now.entries in
    let scopes = scopes_of c.args.self.now.context in
    let n = c.args.self.now.cost.spent in
    let m = c.values.new.self.cost.spent in
    of_form ms plain scopes n (Err c.in-Err.fault) m c.in-Plain.ensures
    (fault_through (λ (v : Vec (String Global × Doc) Global). entries_of v.items) found_in (ValuesRender [] ms scopes n) (λ vs p. KeysRender (length (keys_of ms)) no_members vs scopes p) c.in-Err.fault m m c.in-Err.ensures.answers)

pub map-returns-in-Ok-clause-answers : goal.map-returns-in-Ok-clause-answers
map-returns-in-Ok-clause-answers t c =
    let ms = members_in c.args.members.now.entries in
    let scopes = scopes_of c.args.self.now.context in
    let n = c.args.self.now.cost.spent in
    let after = scopes_of c.values.new.self.context in
    let m = c.values.new.self.cost.spent in
    let r = c.keyed.result in
    let k = c.keyed.new.self.cost.spent in
    let values = entries_of c.in-Ok.values.items in
    let count : c.len.result ≡ length (keys_of ms) = c.len.ensures.len ∙ sym (length-keys_of c.args.members.now.entries) in
    of_form ms plain scopes n r k c.in-Plain.ensures
    (value_through found_in (ValuesRender [] ms scopes n) (λ s vs p. KeysRender (length (keys_of ms)) no_members vs s p) values m r k scopes after c.in-Ok.ensures.scopes c.in-Ok.ensures.answers
    (subst (λ x. Answers found_in (KeysRender x no_members values after m) r k) count c.keyed.ensures.answers))

pub map-returns-in-Ok-clause-scopes : goal.map-returns-in-Ok-clause-scopes
map-returns-in-Ok-clause-scopes t c = kept_from c.keyed.result (scopes_of c.args.self.now.context) (scopes_of c.values.new.self.context) (scopes_of c.keyed.new.self.context) c.in-Ok.ensures.scopes c.keyed.ensures.scopes

pub map-returns-in-Faulty-clause-answers : goal.map-returns-in-Faulty-clause-answers
map-returns-in-Faulty-clause-answers t c =
    let ms = members_in c.args.members.now.entries in
    let scopes = scopes_of c.args.self.now.context in
    let n = c.args.self.now.cost.spent in
    let rule = c.in-Faulty.rule in
    subst (λ (f : RenderFault). Answers found_in (Renders (object ms) scopes n) (Err f) n) (sym c.here.ensures) (of_form ms (faulty rule) scopes n (Err (here rule)) n c.in-Faulty.ensures refl)

pub map-returns-in-Alone-clause-answers : goal.map-returns-in-Alone-clause-answers
map-returns-in-Alone-clause-answers t c =
    let ms = members_in c.args.members.now.entries in
    of_form ms (alone c.in-Alone.operator) (scopes_of c.args.self.now.context) c.args.self.now.cost.spent c.alone.result c.alone.new.self.cost.spent c.in-Alone.ensures c.alone.ensures.answers

pub map-returns-in-Err-operand-clause-answers : goal.map-returns-in-Err-operand-clause-answers
map-returns-in-Err-operand-clause-answers t c =
    let ms = members_in c.args.members.now.entries in
    let operator = c.in-Binding.operator in
    let key = c.in-Binding.key.now in
    let names = names_in c.in-Binding.names in
    let scopes = scopes_of c.args.self.now.context in
    let n = c.args.self.now.cost.spent in
    let m = c.operand.new.self.cost.spent in
    let f = c.in-Err-operand.fault in
    of_form ms (binding operator key names) scopes n (Err f) m c.in-Binding.ensures
    (fault_through found_in found_in (MemberRenders (key_of operator) ms scopes n) (λ x p. BoundOver operator key names ms (λ a. MemberRenders a ms) (or_null x) scopes p) f m m
    (subst (λ (a : List ℕ). Answers found_in (MemberRenders a ms scopes n) (Err f) m) c.key.ensures c.in-Err-operand.ensures.answers))

pub map-returns-in-Ok-operand-clause-answers : goal.map-returns-in-Ok-operand-clause-answers
map-returns-in-Ok-operand-clause-answers t c =
    let ms = members_in c.args.members.now.entries in
    let operator = c.in-Binding.operator in
    let key = c.in-Binding.key.now in
    let names = names_in c.in-Binding.names in
    let scopes = scopes_of c.args.self.now.context in
    let n = c.args.self.now.cost.spent in
    let after = scopes_of c.operand.new.self.context in
    let m = c.operand.new.self.cost.spent in
    let r = c.over.result in
    let k = c.over.new.self.cost.spent in
    let found = found_in c.in-Ok-operand.value in
    of_form ms (binding operator key names) scopes n r k c.in-Binding.ensures
    (value_through found_in (MemberRenders (key_of operator) ms scopes n) (λ s x p. BoundOver operator key names ms (λ a. MemberRenders a ms) (or_null x) s p) found m r k scopes after c.in-Ok-operand.ensures.scopes
    (subst (λ (a : List ℕ). MemberRenders a ms scopes n (given found m)) c.key.ensures c.in-Ok-operand.ensures.answers)
    (subst (λ x. Answers found_in (BoundOver operator key names ms (λ a. MemberRenders a ms) x after m) r k) c.or_null.ensures c.over.ensures.answers))

pub map-returns-in-Ok-operand-clause-scopes : goal.map-returns-in-Ok-operand-clause-scopes
map-returns-in-Ok-operand-clause-scopes t c = kept_from c.over.result (scopes_of c.args.self.now.context) (scopes_of c.operand.new.self.context) (scopes_of c.over.new.self.context) c.in-Ok-operand.ensures.scopes c.over.ensures.scopes

pub operand-value-requires : goal.operand-value-requires
operand-value-requires t c = (omega (arith, c.requires, member_weight c.args.key.now (members_in c.args.members.now.entries) (document c.in-Some.member.now) c.in-Some.ensures), tt)

pub operand-returns-in-Ok-clause-answers : goal.operand-returns-in-Ok-clause-answers
operand-returns-in-Ok-clause-answers t c =
    let d = document c.in-Some.member.now in
    let scopes = scopes_of c.args.self.now.context in
    let n = c.args.self.now.cost.spent in
    let found = found_in c.in-Ok.found in
    let m = c.value.new.self.cost.spent in
    member_found c.args.key.now (members_in c.args.members.now.entries) d scopes n (given found m) c.in-Some.ensures (value_under (escaped c.args.key.now) (Renders d scopes n) found m c.in-Ok.ensures.answers)

pub operand-returns-in-Err-clause-answers : goal.operand-returns-in-Err-clause-answers
operand-returns-in-Err-clause-answers t c =
    let key = c.args.key.now in
    let ms = members_in c.args.members.now.entries in
    let d = document c.in-Some.member.now in
    let scopes = scopes_of c.args.self.now.context in
    let n = c.args.self.now.cost.spent in
    let m = c.value.new.self.cost.spent in
    answer_through found_in (Under (escaped key) (Renders d scopes n)) (MemberRenders key ms scopes n) (Err c.under_key.result) m (λ o h. member_found key ms d scopes n o c.in-Some.ensures h)
    (fault_under found_in found_in (escaped key) (Renders d scopes n) c.in-Err.fault c.under_key.result m m c.under_key.ensures c.in-Err.ensures.answers)

pub operand-returns-in-None-clause-answers : goal.operand-returns-in-None-clause-answers
operand-returns-in-None-clause-answers t c = member_missing c.args.key.now (members_in c.args.members.now.entries) (scopes_of c.args.self.now.context) c.args.self.now.cost.spent c.in-None.ensures

pub branch-operand-requires : goal.branch-operand-requires
branch-operand-requires t c =
    let bs = members_in c.in-Some.branches.now.entries in
    (omega (arith, c.requires, member_weight c.args.key.now (members_in c.args.members.now.entries) (object bs) c.in-Some.ensures), tt)

pub branch-returns-in-Ok-clause-answers : goal.branch-returns-in-Ok-clause-answers
branch-returns-in-Ok-clause-answers t c =
    let d = object (members_in c.in-Some.branches.now.entries) in
    let inner = c.args.inner.now in
    let scopes = scopes_of c.args.self.now.context in
    let n = c.args.self.now.cost.spent in
    let found = found_in c.in-Ok.found in
    let m = c.operand.new.self.cost.spent in
    branch_found c.args.key.now inner (members_in c.args.members.now.entries) d scopes n (given found m) c.in-Some.ensures (value_under (escaped c.args.key.now) (InnerRenders inner d scopes n) found m c.in-Ok.ensures.answers)

pub branch-returns-in-Err-clause-answers : goal.branch-returns-in-Err-clause-answers
branch-returns-in-Err-clause-answers t c =
    let key = c.args.key.now in
    let inner = c.args.inner.now in
    let ms = members_in c.args.members.now.entries in
    let d = object (members_in c.in-Some.branches.now.entries) in
    let scopes = scopes_of c.args.self.now.context in
    let n = c.args.self.now.cost.spent in
    let m = c.operand.new.self.cost.spent in
    answer_through found_in (Under (escaped key) (InnerRenders inner d scopes n)) (BranchRenders key inner ms scopes n) (Err c.under_key.result) m (λ o h. branch_found key inner ms d scopes n o c.in-Some.ensures h)
    (fault_under found_in found_in (escaped key) (InnerRenders inner d scopes n) c.in-Err.fault c.under_key.result m m c.under_key.ensures c.in-Err.ensures.answers)

pub branch-returns-in_default-clause-answers : goal.branch-returns-in_default-clause-answers
branch-returns-in_default-clause-answers t c = no_branches c.args.key.now c.args.inner.now (members_in c.args.members.now.entries) (scopes_of c.args.self.now.context) c.args.self.now.cost.spent (member_at c.args.key.now (members_in c.args.members.now.entries)) refl c.in_default.ensures

pub alone-switch-requires : goal.alone-switch-requires
alone-switch-requires t c = (omega (arith, c.decreases), tt)

pub alone-matches-requires : goal.alone-matches-requires
alone-matches-requires t c = (omega (arith, c.decreases), tt)

pub alone-bind_in-requires : goal.alone-bind_in-requires
alone-bind_in-requires t c = (omega (arith, c.decreases), tt)

pub alone-from_now-requires : goal.alone-from_now-requires
alone-from_now-requires t c = (omega (arith, c.decreases), tt)

pub alone-operand-requires : goal.alone-operand-requires
alone-operand-requires t c = (omega (arith, c.decreases), tt)

pub alone-operand-requires-in_default : goal.alone-operand-requires-in_default
alone-operand-requires-in_default t c = (omega (arith, c.decreases), tt)

pub alone-returns-in-Err-clause-answers : goal.alone-returns-in-Err-clause-answers
alone-returns-in-Err-clause-answers t c =
    let ms = members_in c.args.members.now.entries in
    let scopes = scopes_of c.args.self.now.context in
    let n = c.args.self.now.cost.spent in
    let m = c.value_at.new.self.cost.spent in
    alone_is c.args.operator Eval ms scopes n (Err c.in-Err.fault) m c.in-Eval.is
    (fault_through document found_in (ValueAt (codes "$eval") ms scopes n) (λ d p o. o ≡ worth p (Some d)) c.in-Err.fault m m c.in-Err.ensures.answers)

pub alone-returns-in-Ok-clause-answers : goal.alone-returns-in-Ok-clause-answers
alone-returns-in-Ok-clause-answers t c =
    let ms = members_in c.args.members.now.entries in
    let scopes = scopes_of c.args.self.now.context in
    let n = c.args.self.now.cost.spent in
    let after = scopes_of c.value_at.new.self.context in
    let m = c.value_at.new.self.cost.spent in
    let r = c.finish.result in
    let k = c.finish.new.self.cost.spent in
    alone_is c.args.operator Eval ms scopes n r k c.in-Eval.is
    (value_through found_in (ValueAt (codes "$eval") ms scopes n) (λ s d p o. o ≡ worth p (Some d)) (document c.in-Ok.value) m r k scopes after c.in-Ok.ensures.scopes c.in-Ok.ensures.answers c.finish.ensures.answers)

pub alone-returns-in-Ok-clause-scopes : goal.alone-returns-in-Ok-clause-scopes
alone-returns-in-Ok-clause-scopes t c = kept_from c.finish.result (scopes_of c.args.self.now.context) (scopes_of c.value_at.new.self.context) (scopes_of c.finish.new.self.context) c.in-Ok.ensures.scopes c.finish.ensures.scopes

pub alone-returns-in-Err-value_at-clause-answers : goal.alone-returns-in-Err-value_at-clause-answers
alone-returns-in-Err-value_at-clause-answers t c =
    let ms = members_in c.args.members.now.entries in
    let scopes = scopes_of c.args.self.now.context in
    let n = c.args.self.now.cost.spent in
    let m = c.value_at-in-If.new.self.cost.spent in
    alone_is c.args.operator If ms scopes n (Err c.in-Err-value_at.fault) m c.in-If.is
    (fault_through document found_in (ValueAt (codes "$if") ms scopes n) (λ d p. Taken (MemberRenders (branch_of d) ms) scopes p) c.in-Err-value_at.fault m m c.in-Err-value_at.ensures.answers)

pub alone-returns-in-Err-operand-clause-answers : goal.alone-returns-in-Err-operand-clause-answers
alone-returns-in-Err-operand-clause-answers t c =
    let ms = members_in c.args.members.now.entries in
    let scopes = scopes_of c.args.self.now.context in
    let n = c.args.self.now.cost.spent in
    let after = scopes_of c.value_at-in-If.new.self.context in
    let m = c.value_at-in-If.new.self.cost.spent in
    let p = c.operand.new.self.cost.spent in
    let d = document c.in-Ok-value_at.value in
    let f = c.in-Err-operand.fault in
    alone_is c.args.operator If ms scopes n (Err f) p c.in-If.is
    (value_through found_in (ValueAt (codes "$if") ms scopes n) (λ s x q. Taken (MemberRenders (branch_of x) ms) s q) d m (Err f) p scopes after c.in-Ok-value_at.ensures.scopes c.in-Ok-value_at.ensures.answers
    (fault_through found_in found_in (MemberRenders (branch_of d) ms after m) (λ x q o. o ≡ worth q x) f p p (subst (λ (b : List ℕ). Answers found_in (MemberRenders b ms after m) (Err f) p) c.branch_of-branch.ensures c.in-Err-operand.ensures.answers)))

pub alone-returns-in-Ok-operand-clause-answers : goal.alone-returns-in-Ok-operand-clause-answers
alone-returns-in-Ok-operand-clause-answers t c =
    let ms = members_in c.args.members.now.entries in
    let scopes = scopes_of c.args.self.now.context in
    let n = c.args.self.now.cost.spent in
    let after = scopes_of c.value_at-in-If.new.self.context in
    let m = c.value_at-in-If.new.self.cost.spent in
    let p = c.operand.new.self.cost.spent in
    let d = document c.in-Ok-value_at.value in
    let last = scopes_of c.operand.new.self.context in
    let found = found_in c.in-Ok-operand.found in
    let r = c.finish-in-If.result in
    let k = c.finish-in-If.new.self.cost.spent in
    alone_is c.args.operator If ms scopes n r k c.in-If.is
    (value_through found_in (ValueAt (codes "$if") ms scopes n) (λ s x q. Taken (MemberRenders (branch_of x) ms) s q) d m r k scopes after c.in-Ok-value_at.ensures.scopes c.in-Ok-value_at.ensures.answers
    (value_through found_in (MemberRenders (branch_of d) ms after m) (λ s x q o. o ≡ worth q x) found p r k after last c.in-Ok-operand.ensures.scopes
    (subst (λ (b : List ℕ). MemberRenders b ms after m (given found p)) c.branch_of-branch.ensures c.in-Ok-operand.ensures.answers) c.finish-in-If.ensures.answers))

pub alone-returns-in-Ok-operand-clause-scopes : goal.alone-returns-in-Ok-operand-clause-scopes
alone-returns-in-Ok-operand-clause-scopes t c =
    kept_from c.finish-in-If.result (scopes_of c.args.self.now.context) (scopes_of c.operand.new.self.context) (scopes_of c.finish-in-If.new.self.context)
    (c.in-Ok-operand.ensures.scopes ∙ c.in-Ok-value_at.ensures.scopes) c.finish-in-If.ensures.scopes

pub alone-returns-in-Switch-clause-answers : goal.alone-returns-in-Switch-clause-answers
alone-returns-in-Switch-clause-answers t c =
    let ms = members_in c.args.members.now.entries in
    let scopes = scopes_of c.args.self.now.context in
    let n = c.args.self.now.cost.spent in
    alone_is c.args.operator Switch ms scopes n c.switch.result c.switch.new.self.cost.spent c.in-Switch.is c.switch.ensures.answers

pub alone-returns-in-Switch-clause-scopes : goal.alone-returns-in-Switch-clause-scopes
alone-returns-in-Switch-clause-scopes t c = c.switch.ensures.scopes

pub alone-returns-in-Match-clause-answers : goal.alone-returns-in-Match-clause-answers
alone-returns-in-Match-clause-answers t c =
    let ms = members_in c.args.members.now.entries in
    let scopes = scopes_of c.args.self.now.context in
    let n = c.args.self.now.cost.spent in
    alone_is c.args.operator Match ms scopes n c.matches.result c.matches.new.self.cost.spent c.in-Match.is c.matches.ensures.answers

pub alone-returns-in-Match-clause-scopes : goal.alone-returns-in-Match-clause-scopes
alone-returns-in-Match-clause-scopes t c = c.matches.ensures.scopes

pub alone-returns-in-Let-clause-answers : goal.alone-returns-in-Let-clause-answers
alone-returns-in-Let-clause-answers t c =
    let ms = members_in c.args.members.now.entries in
    let scopes = scopes_of c.args.self.now.context in
    let n = c.args.self.now.cost.spent in
    alone_is c.args.operator Let ms scopes n c.bind_in.result c.bind_in.new.self.cost.spent c.in-Let.is c.bind_in.ensures.answers

pub alone-returns-in-Let-clause-scopes : goal.alone-returns-in-Let-clause-scopes
alone-returns-in-Let-clause-scopes t c = c.bind_in.ensures.scopes

pub alone-returns-in-FromNow-clause-answers : goal.alone-returns-in-FromNow-clause-answers
alone-returns-in-FromNow-clause-answers t c =
    let ms = members_in c.args.members.now.entries in
    let scopes = scopes_of c.args.self.now.context in
    let n = c.args.self.now.cost.spent in
    alone_is c.args.operator FromNow ms scopes n c.from_now.result c.from_now.new.self.cost.spent c.in-FromNow.is c.from_now.ensures.answers

pub alone-returns-in-FromNow-clause-scopes : goal.alone-returns-in-FromNow-clause-scopes
alone-returns-in-FromNow-clause-scopes t c = c.from_now.ensures.scopes

pub alone-returns-in-Err-operand-2 : goal.alone-returns-in-Err-operand-2
alone-returns-in-Err-operand-2 t c =
    let ms = members_in c.args.members.now.entries in
    let operator = c.args.operator in
    let Member : List ℕ → Meaning = λ key. MemberRenders key ms in
    let Branch : List ℕ → List ℕ → Meaning = λ key inner. BranchRenders key inner ms in
    let scopes = scopes_of c.args.self.now.context in
    let n = c.args.self.now.cost.spent in
    let m = c.operand-in_default.new.self.cost.spent in
    let f = c.in-Err-operand-2.fault in
    record {
      answers = by_operand operator ms Member Branch scopes n (Err f) m c.in_default.not-Eval c.in_default.not-If c.in_default.not-Switch c.in_default.not-Match c.in_default.not-Let c.in_default.not-FromNow
          (fault_through found_in found_in (MemberRenders (key_of operator) ms scopes n) (λ x p. Given operator (or_null x) p) f m m (subst (λ (b : List ℕ). Answers found_in (MemberRenders b ms scopes n) (Err f) m) c.key.ensures c.in-Err-operand-2.ensures.answers));
      scopes = tt;
    }

pub alone-returns-in-Ok-operand-2 : goal.alone-returns-in-Ok-operand-2
alone-returns-in-Ok-operand-2 t c =
    let ms = members_in c.args.members.now.entries in
    let operator = c.args.operator in
    let Member : List ℕ → Meaning = λ key. MemberRenders key ms in
    let Branch : List ℕ → List ℕ → Meaning = λ key inner. BranchRenders key inner ms in
    let scopes = scopes_of c.args.self.now.context in
    let n = c.args.self.now.cost.spent in
    let after = scopes_of c.operand-in_default.new.self.context in
    let m = c.operand-in_default.new.self.cost.spent in
    let r = c.finish_made.result in
    let k = c.finish_made.new.self.cost.spent in
    let found = found_in c.in-Ok-operand-2.value in
    let d = document c.or_null.result in
    let made : Answers found_in (Given operator d m) r k = made_so c.given_by.result (IsGivenBy operator d) m r k c.given_by.ensures c.finish_made.ensures.answers in
    record {
      answers = by_operand operator ms Member Branch scopes n r k c.in_default.not-Eval c.in_default.not-If c.in_default.not-Switch c.in_default.not-Match c.in_default.not-Let c.in_default.not-FromNow
          (value_through found_in (MemberRenders (key_of operator) ms scopes n) (λ s x p. Given operator (or_null x) p) found m r k scopes after c.in-Ok-operand-2.ensures.scopes
          (subst (λ (b : List ℕ). MemberRenders b ms scopes n (given found m)) c.key.ensures c.in-Ok-operand-2.ensures.answers)
          (subst (λ x. Answers found_in (Given operator x m) r k) c.or_null.ensures made));
      scopes = kept_from r scopes after (scopes_of c.finish_made.new.self.context) c.in-Ok-operand-2.ensures.scopes c.finish_made.ensures.scopes;
    }

pub switch-branch-taken-requires : goal.switch-branch-taken-requires
switch-branch-taken-requires t c = (omega (arith, c.decreases), tt)

pub switch-returns-in_default-clause-answers : goal.switch-returns-in_default-clause-answers
switch-returns-in_default-clause-answers t c =
    let ms = members_in c.args.members.now.entries in
    let Branch : List ℕ → Meaning = λ inner. BranchRenders (codes "$switch") inner ms in
    let scopes = scopes_of c.args.self.now.context in
    let n = c.args.self.now.cost.spent in
    subst (λ (f : RenderFault). Answers found_in (SwitchRenders (member_at (codes "$switch") ms) Branch scopes n) (Err f) n) (sym c.here.ensures)
    (switch_kind (member_at (codes "$switch") ms) Branch scopes n c.in_default.ensures)

pub switch-returns-in-Err-clause-answers : goal.switch-returns-in-Err-clause-answers
switch-returns-in-Err-clause-answers t c =
    let ms = members_in c.args.members.now.entries in
    let Branch : List ℕ → Meaning = λ inner. BranchRenders (codes "$switch") inner ms in
    let scopes = scopes_of c.args.self.now.context in
    let n = c.args.self.now.cost.spent in
    let bs = members_in c.in-Some.branches.now.entries in
    let m = c.true_of.new.self.cost.spent in
    let f = c.in-Err.fault in
    subst (λ x. Answers found_in (SwitchRenders x Branch scopes n) (Err f) m) (sym c.in-Some.ensures)
    (fault_through (λ (v : Vec (Bor (List ℕ)) Global). texts_in v.items) found_in (AreTrue [] (conditions_of bs) scopes n) (λ x q. OneTaken Branch x scopes q) f m m
    (subst (λ (ks : List (List ℕ)). Answers (λ (v : Vec (Bor (List ℕ)) Global). texts_in v.items) (AreTrue [] ks scopes n) (Err f) m) c.in_ok-conditions.ensures c.in-Err.ensures.answers))

pub switch-returns-then-len-gt1-clause-answers : goal.switch-returns-then-len-gt1-clause-answers
switch-returns-then-len-gt1-clause-answers t c =
    let ms = members_in c.args.members.now.entries in
    let Branch : List ℕ → Meaning = λ inner. BranchRenders (codes "$switch") inner ms in
    let scopes = scopes_of c.args.self.now.context in
    let n = c.args.self.now.cost.spent in
    let bs = members_in c.in-Some.branches.now.entries in
    let after = scopes_of c.true_of.new.self.context in
    let m = c.true_of.new.self.cost.spent in
    let found = texts_in c.in-Ok.found.items in
    let are_true = subst (λ (ks : List (List ℕ)). AreTrue [] ks scopes n (given found m)) c.in_ok-conditions.ensures c.in-Ok.ensures.answers in
    subst (λ (f : RenderFault). Answers found_in (SwitchRenders (member_at (codes "$switch") ms) Branch scopes n) (Err f) m) (sym c.here-then-len-gt1.ensures) (
    subst (λ x. Answers found_in (SwitchRenders x Branch scopes n) (Err (here TwoBranches)) m) (sym c.in-Some.ensures)
    (value_through found_in (AreTrue [] (conditions_of bs) scopes n) (λ s x q. OneTaken Branch x s q) found m (Err (here TwoBranches)) m scopes after c.in-Ok.ensures.scopes are_true
    (two_taken Branch found after m (omega (arith, c.if-len-gt1.true, c.len.ensures, length-map c.in-Ok.found.items (λ s. s.now), c.in-Ok.found.ok.0)))))

pub switch-returns-in_Err-taken-clause-answers : goal.switch-returns-in_Err-taken-clause-answers
switch-returns-in_Err-taken-clause-answers t c =
    let ms = members_in c.args.members.now.entries in
    let Branch : List ℕ → Meaning = λ inner. BranchRenders (codes "$switch") inner ms in
    let scopes = scopes_of c.args.self.now.context in
    let n = c.args.self.now.cost.spent in
    let bs = members_in c.in-Some.branches.now.entries in
    let after = scopes_of c.true_of.new.self.context in
    let m = c.true_of.new.self.cost.spent in
    let found = texts_in c.in-Ok.found.items in
    let are_true = subst (λ (ks : List (List ℕ)). AreTrue [] ks scopes n (given found m)) c.in_ok-conditions.ensures c.in-Ok.ensures.answers in
    let p = c.branch-taken.new.self.cost.spent in
    let f = c.in_Err-taken.fault in
    subst (λ x. Answers found_in (SwitchRenders x Branch scopes n) (Err f) p) (sym c.in-Some.ensures)
    (value_through found_in (AreTrue [] (conditions_of bs) scopes n) (λ s x q. OneTaken Branch x s q) found m (Err f) p scopes after c.in-Ok.ensures.scopes are_true
    (answer_through found_in (Taken (Branch (branch_taken found)) after m) (OneTaken Branch found after m) (Err f) p (λ o. one_taken Branch found after m o (omega (arith, c.if-len-gt1.false, c.len.ensures, length-map c.in-Ok.found.items (λ s. s.now), c.in-Ok.found.ok.0)))
    (fault_through found_in found_in (Branch (branch_taken found) after m) (λ x q o. o ≡ worth q x) f p p (subst (λ (b : List ℕ). Answers found_in (Branch b after m) (Err f) p) c.branch_taken-key.ensures c.in_Err-taken.ensures.answers))))

pub switch-returns-clause-answers : goal.switch-returns-clause-answers
switch-returns-clause-answers t c =
    let ms = members_in c.args.members.now.entries in
    let Branch : List ℕ → Meaning = λ inner. BranchRenders (codes "$switch") inner ms in
    let scopes = scopes_of c.args.self.now.context in
    let n = c.args.self.now.cost.spent in
    let bs = members_in c.in-Some.branches.now.entries in
    let after = scopes_of c.true_of.new.self.context in
    let m = c.true_of.new.self.cost.spent in
    let found = texts_in c.in-Ok.found.items in
    let are_true = subst (λ (ks : List (List ℕ)). AreTrue [] ks scopes n (given found m)) c.in_ok-conditions.ensures c.in-Ok.ensures.answers in
    let last = scopes_of c.branch-taken.new.self.context in
    let p = c.branch-taken.new.self.cost.spent in
    let taken = found_in c.in_Ok-taken.taken in
    let r = c.finish.result in
    let k = c.finish.new.self.cost.spent in
    subst (λ x. Answers found_in (SwitchRenders x Branch scopes n) r k) (sym c.in-Some.ensures)
    (value_through found_in (AreTrue [] (conditions_of bs) scopes n) (λ s x q. OneTaken Branch x s q) found m r k scopes after c.in-Ok.ensures.scopes are_true
    (answer_through found_in (Taken (Branch (branch_taken found)) after m) (OneTaken Branch found after m) r k (λ o. one_taken Branch found after m o (omega (arith, c.if-len-gt1.false, c.len.ensures, length-map c.in-Ok.found.items (λ s. s.now), c.in-Ok.found.ok.0)))
    (value_through found_in (Branch (branch_taken found) after m) (λ s x q o. o ≡ worth q x) taken p r k after last c.in_Ok-taken.ensures.scopes
    (subst (λ (b : List ℕ). Branch b after m (given taken p)) c.branch_taken-key.ensures c.in_Ok-taken.ensures.answers) c.finish.ensures.answers)))

pub switch-returns-clause-scopes : goal.switch-returns-clause-scopes
switch-returns-clause-scopes t c = kept_from c.finish.result (scopes_of c.args.self.now.context) (scopes_of c.branch-taken.new.self.context) (scopes_of c.finish.new.self.context) (c.in_Ok-taken.ensures.scopes ∙ c.in-Ok.ensures.scopes) c.finish.ensures.scopes

pub matches-branch-taken-requires : goal.matches-branch-taken-requires
matches-branch-taken-requires t c = (omega (arith, c.decreases), tt)

pub matches-returns-in_default-clause-answers : goal.matches-returns-in_default-clause-answers
matches-returns-in_default-clause-answers t c =
    let ms = members_in c.args.members.now.entries in
    let Branch : List ℕ → Meaning = λ inner. BranchRenders (codes "$match") inner ms in
    let scopes = scopes_of c.args.self.now.context in
    let n = c.args.self.now.cost.spent in
    subst (λ (f : RenderFault). Answers found_in (MatchRenders (member_at (codes "$match") ms) Branch scopes n) (Err f) n) (sym c.here.ensures)
    (match_kind (member_at (codes "$match") ms) Branch scopes n c.in_default.ensures)

pub matches-returns-in-Err-clause-answers : goal.matches-returns-in-Err-clause-answers
matches-returns-in-Err-clause-answers t c =
    let ms = members_in c.args.members.now.entries in
    let Branch : List ℕ → Meaning = λ inner. BranchRenders (codes "$match") inner ms in
    let scopes = scopes_of c.args.self.now.context in
    let n = c.args.self.now.cost.spent in
    let bs = members_in c.in-Some.branches.now.entries in
    let m = c.true_of.new.self.cost.spent in
    let f = c.in-Err.fault in
    subst (λ x. Answers found_in (MatchRenders x Branch scopes n) (Err f) m) (sym c.in-Some.ensures)
    (fault_through (λ (v : Vec (Bor (List ℕ)) Global). texts_in v.items) found_in (AreTrue [] (keys_of bs) scopes n) (λ x q. AllTaken Branch [] x scopes q) f m m
    (subst (λ (ks : List (List ℕ)). Answers (λ (v : Vec (Bor (List ℕ)) Global). texts_in v.items) (AreTrue [] ks scopes n) (Err f) m) c.in_ok-conditions.ensures c.in-Err.ensures.answers))

pub matches-returns-in_Err-taken-clause-answers : goal.matches-returns-in_Err-taken-clause-answers
matches-returns-in_Err-taken-clause-answers t c =
    let ms = members_in c.args.members.now.entries in
    let Branch : List ℕ → Meaning = λ inner. BranchRenders (codes "$match") inner ms in
    let scopes = scopes_of c.args.self.now.context in
    let n = c.args.self.now.cost.spent in
    let bs = members_in c.in-Some.branches.now.entries in
    let after = scopes_of c.true_of.new.self.context in
    let m = c.true_of.new.self.cost.spent in
    let found = texts_in c.in-Ok.found.items in
    let are_true = subst (λ (ks : List (List ℕ)). AreTrue [] ks scopes n (given found m)) c.in_ok-conditions.ensures c.in-Ok.ensures.answers in
    let l = c.loop-key in
    let xs = into_iter_items c.into_iter-key-iterator.result in
    let x = c.in-Some-key.key in
    let next : into_iter_items l.key-iterator ≡ x ∷ into_iter_items c.next.new.self = grind (arith, common_steps) in
    let rest = texts_in (into_iter_items l.key-iterator) in
    let left = texts_in (into_iter_items c.next.new.self) in
    let whole : Outcome (Option Document) → Type 0 = AllTaken Branch [] (texts_in xs) after m in
    let p = c.branch-taken.new.self.cost.spent in
    let f = c.in_Err-taken.fault in
    let fault : Answers found_in (AllTaken Branch [] (texts_in xs) after m) (Err f) p = taken_fault whole Branch (documents l.done.items) rest left (x.now) (scopes_of l.self.context) l.self.cost.spent p p f (ap texts_in next) l.invariant.leads c.in_Err-taken.ensures.answers in
    let all : xs ≡ c.in-Ok.found.items = grind (arith, common_steps) in
    subst (λ x. Answers found_in (MatchRenders x Branch scopes n) (Err f) p) (sym c.in-Some.ensures)
    (value_through found_in (AreTrue [] (keys_of bs) scopes n) (λ s x q. AllTaken Branch [] x s q) found m (Err f) p scopes after c.in-Ok.ensures.scopes are_true
    (subst (λ ys. Answers found_in (AllTaken Branch [] ys after m) (Err f) p) (ap texts_in all) fault))

pub matches-loop-key-preserved : goal.matches-loop-key-preserved
matches-loop-key-preserved t c =
    let ms = members_in c.args.members.now.entries in
    let Branch : List ℕ → Meaning = λ inner. BranchRenders (codes "$match") inner ms in
    let scopes = scopes_of c.args.self.now.context in
    let n = c.args.self.now.cost.spent in
    let bs = members_in c.in-Some.branches.now.entries in
    let after = scopes_of c.true_of.new.self.context in
    let m = c.true_of.new.self.cost.spent in
    let l = c.loop-key in
    let xs = into_iter_items c.into_iter-key-iterator.result in
    let x = c.in-Some-key.key in
    let next : into_iter_items l.key-iterator ≡ x ∷ into_iter_items c.next.new.self = grind (arith, common_steps) in
    let rest = texts_in (into_iter_items l.key-iterator) in
    let left = texts_in (into_iter_items c.next.new.self) in
    let whole : Outcome (Option Document) → Type 0 = AllTaken Branch [] (texts_in xs) after m in
    let p = c.branch-taken.new.self.cost.spent in
    record {
      leads = taken_more whole Branch (documents l.done.items) (documents c.keep.new.done.items) rest left (x.now) (scopes_of l.self.context) (scopes_of c.branch-taken.new.self.context) l.self.cost.spent p (found_in c.in_Ok-taken.taken) (ap texts_in next) l.invariant.leads
          c.in_Ok-taken.ensures.answers c.in_ok-keep.ensures c.in_Ok-taken.ensures.scopes;
      same = c.in_Ok-taken.ensures.scopes ∙ l.invariant.same;
    }

pub matches-returns-clause-answers : goal.matches-returns-clause-answers
matches-returns-clause-answers t c =
    let ms = members_in c.args.members.now.entries in
    let Branch : List ℕ → Meaning = λ inner. BranchRenders (codes "$match") inner ms in
    let scopes = scopes_of c.args.self.now.context in
    let n = c.args.self.now.cost.spent in
    let bs = members_in c.in-Some.branches.now.entries in
    let after = scopes_of c.true_of.new.self.context in
    let m = c.true_of.new.self.cost.spent in
    let found = texts_in c.in-Ok.found.items in
    let are_true = subst (λ (ks : List (List ℕ)). AreTrue [] ks scopes n (given found m)) c.in_ok-conditions.ensures c.in-Ok.ensures.answers in
    let l = c.loop-key in
    let xs = into_iter_items c.into_iter-key-iterator.result in
    let all : xs ≡ c.in-Ok.found.items = grind (arith, common_steps) in
    let none : into_iter_items l.key-iterator ≡ [] = grind (arith, common_steps) in
    let q = l.self.cost.spent in
    let last = scopes_of l.self.context in
    let r = c.finish.result in
    let k = c.finish.new.self.cost.spent in
    let done : Answers found_in (AllTaken Branch [] (texts_in xs) after m) r k = answer_through found_in (λ o. o ≡ worth q (Some (document (ListDoc l.done)))) (AllTaken Branch [] (texts_in xs) after m) r k
    (λ o e. l.invariant.leads o (subst (λ ks. AllTaken Branch (documents l.done.items) ks last q o) (sym (ap texts_in none)) (e ∙ ap (λ x. worth q (Some x)) (document-List l.done)))) c.finish.ensures.answers in
    subst (λ x. Answers found_in (MatchRenders x Branch scopes n) r k) (sym c.in-Some.ensures)
    (value_through found_in (AreTrue [] (keys_of bs) scopes n) (λ s x q. AllTaken Branch [] x s q) found m r k scopes after c.in-Ok.ensures.scopes are_true
    (subst (λ ys. Answers found_in (AllTaken Branch [] ys after m) r k) (ap texts_in all) done))

pub matches-returns-clause-scopes : goal.matches-returns-clause-scopes
matches-returns-clause-scopes t c = kept_from c.finish.result (scopes_of c.args.self.now.context) (scopes_of c.loop-key.self.context) (scopes_of c.finish.new.self.context) (c.loop-key.invariant.same ∙ c.in-Ok.ensures.scopes) c.finish.ensures.scopes

pub bind_in-operand-requires : goal.bind_in-operand-requires
bind_in-operand-requires t c = (omega (arith, c.decreases), tt)

pub bind_in-operand-requires-2 : goal.bind_in-operand-requires-2
bind_in-operand-requires-2 t c = (omega (arith, c.decreases), tt)

pub bind_in-returns-in-Err-clause-answers : goal.bind_in-returns-in-Err-clause-answers
bind_in-returns-in-Err-clause-answers t c =
    let ms = members_in c.args.members.now.entries in
    let In = MemberRenders (codes "in") ms in
    let scopes = scopes_of c.args.self.now.context in
    let n = c.args.self.now.cost.spent in
    let m = c.operand.new.self.cost.spent in
    fault_through found_in found_in (MemberRenders (codes "$let") ms scopes n) (λ x p. LetIn (or_null x) In scopes p) c.in-Err.fault m m c.in-Err.ensures.answers

pub bind_in-returns-in_default-clause-answers : goal.bind_in-returns-in_default-clause-answers
bind_in-returns-in_default-clause-answers t c =
    let ms = members_in c.args.members.now.entries in
    let In = MemberRenders (codes "in") ms in
    let scopes = scopes_of c.args.self.now.context in
    let n = c.args.self.now.cost.spent in
    let after = scopes_of c.operand.new.self.context in
    let m = c.operand.new.self.cost.spent in
    let found = found_in c.in-Ok.value in
    let d = document c.or_null-value.result in
    subst (λ (f : RenderFault). Answers found_in (LetRenders (λ key. MemberRenders key ms) scopes n) (Err f) m) (sym c.here.ensures)
    (value_through found_in (MemberRenders (codes "$let") ms scopes n) (λ s x p. LetIn (or_null x) In s p) found m (Err (here WrongKind)) m scopes after c.in-Ok.ensures.scopes c.in-Ok.ensures.answers
    (subst (λ x. Answers found_in (LetIn x In after m) (Err (here WrongKind)) m) c.or_null-value.ensures (let_kind d In after m c.in_default.ensures)))

pub bind_in-returns-then-not-are_names-clause-answers : goal.bind_in-returns-then-not-are_names-clause-answers
bind_in-returns-then-not-are_names-clause-answers t c =
    let ms = members_in c.args.members.now.entries in
    let In = MemberRenders (codes "in") ms in
    let scopes = scopes_of c.args.self.now.context in
    let n = c.args.self.now.cost.spent in
    let after = scopes_of c.operand.new.self.context in
    let m = c.operand.new.self.cost.spent in
    let found = found_in c.in-Ok.value in
    let d = document c.or_null-value.result in
    let bs = members_in c.in-Some.bound.entries in
    subst (λ (f : RenderFault). Answers found_in (LetRenders (λ key. MemberRenders key ms) scopes n) (Err f) m) (sym c.here-then-not-are_names.ensures)
    (value_through found_in (MemberRenders (codes "$let") ms scopes n) (λ s x p. LetIn (or_null x) In s p) found m (Err (here BadOperator)) m scopes after c.in-Ok.ensures.scopes c.in-Ok.ensures.answers
    (subst (λ x. Answers found_in (LetIn x In after m) (Err (here BadOperator)) m) c.or_null-value.ensures (let_bad d bs In after m c.in-Some.ensures (sym c.are_names.ensures ∙ c.if-not-are_names.true))))

pub bind_in-returns-in-Err-operand-clause-answers : goal.bind_in-returns-in-Err-operand-clause-answers
bind_in-returns-in-Err-operand-clause-answers t c =
    let ms = members_in c.args.members.now.entries in
    let In = MemberRenders (codes "in") ms in
    let scopes = scopes_of c.args.self.now.context in
    let n = c.args.self.now.cost.spent in
    let after = scopes_of c.operand.new.self.context in
    let m = c.operand.new.self.cost.spent in
    let found = found_in c.in-Ok.value in
    let d = document c.or_null-value.result in
    let bs = members_in c.in-Some.bound.entries in
    let inside = scopes_of c.bind_map.new.self.context in
    let same : inside ≡ after ++ object bs ∷ [] = c.in_ok-bind_map.ensures.scopes ∙ ap (λ x. after ++ x ∷ []) (document-Map c.in-Some.bound) in
    let cost = ap (λ (x : Cost). x.spent) c.in_ok-bind_map.ensures.cost in
    let names = sym c.are_names.ensures ∙ c.if-not-are_names.false in
    let p = c.operand-2.new.self.cost.spent in
    let f = c.in-Err-operand.fault in
    (value_through found_in (MemberRenders (codes "$let") ms scopes n) (λ s x p. LetIn (or_null x) In s p) found m (Err f) p scopes after c.in-Ok.ensures.scopes c.in-Ok.ensures.answers
    (subst (λ x. Answers found_in (LetIn x In after m) (Err f) p) c.or_null-value.ensures (let_bound d bs In after m (Err f) p c.in-Some.ensures names
    (fault_through found_in found_in (In (after ++ object bs ∷ []) m) (λ x q o. o ≡ worth q x) f p p (body_fault In (after ++ object bs ∷ []) inside m c.bind_map.new.self.cost.spent p f same cost c.in-Err-operand.ensures.answers)))))

pub bind_in-returns-clause-answers : goal.bind_in-returns-clause-answers
bind_in-returns-clause-answers t c =
    let ms = members_in c.args.members.now.entries in
    let In = MemberRenders (codes "in") ms in
    let scopes = scopes_of c.args.self.now.context in
    let n = c.args.self.now.cost.spent in
    let after = scopes_of c.operand.new.self.context in
    let m = c.operand.new.self.cost.spent in
    let found = found_in c.in-Ok.value in
    let d = document c.or_null-value.result in
    let bs = members_in c.in-Some.bound.entries in
    let inside = scopes_of c.bind_map.new.self.context in
    let same : inside ≡ after ++ object bs ∷ [] = c.in_ok-bind_map.ensures.scopes ∙ ap (λ x. after ++ x ∷ []) (document-Map c.in-Some.bound) in
    let cost = ap (λ (x : Cost). x.spent) c.in_ok-bind_map.ensures.cost in
    let names = sym c.are_names.ensures ∙ c.if-not-are_names.false in
    let p = c.operand-2.new.self.cost.spent in
    let r = c.finish.result in
    let k = c.finish.new.self.cost.spent in
    let q = c.release.new.self.cost.spent in
    let taken = found_in c.in-Ok-operand.found in
    let out = ap (λ (x : Cost). x.spent) c.release.ensures.cost in
    (value_through found_in (MemberRenders (codes "$let") ms scopes n) (λ s x p. LetIn (or_null x) In s p) found m r k scopes after c.in-Ok.ensures.scopes c.in-Ok.ensures.answers
    (subst (λ x. Answers found_in (LetIn x In after m) r k) c.or_null-value.ensures (let_bound d bs In after m r k c.in-Some.ensures names
    (value_through found_in (In (after ++ object bs ∷ []) m) (λ s x a o. o ≡ worth a x) taken q r k after after refl (body_at In (after ++ object bs ∷ []) inside m c.bind_map.new.self.cost.spent p q taken same cost out c.in-Ok-operand.ensures.answers) c.finish.ensures.answers))))

pub bind_in-returns-clause-scopes : goal.bind_in-returns-clause-scopes
bind_in-returns-clause-scopes t c =
    let after = scopes_of c.operand.new.self.context in
    let bound = document (MapDoc c.in-Some.bound) in
    let out : scopes_of c.release.new.self.context ≡ after = c.release.ensures.scopes after (bound ∷ []) (c.in-Ok-operand.ensures.scopes ∙ c.in_ok-bind_map.ensures.scopes) c.height-height.ensures in
    kept_from c.finish.result (scopes_of c.args.self.now.context) (scopes_of c.release.new.self.context) (scopes_of c.finish.new.self.context) (out ∙ c.in-Ok.ensures.scopes) c.finish.ensures.scopes

pub from_now-operand-requires : goal.from_now-operand-requires
from_now-operand-requires t c = (omega (arith, c.decreases), tt)

pub from_now-operand-requires-then-has_key : goal.from_now-operand-requires-then-has_key
from_now-operand-requires-then-has_key t c = (omega (arith, c.decreases), tt)

pub from_now-returns-in-Err-clause-answers : goal.from_now-returns-in-Err-clause-answers
from_now-returns-in-Err-clause-answers t c =
    let ms = members_in c.args.members.now.entries in
    let scopes = scopes_of c.args.self.now.context in
    let n = c.args.self.now.cost.spent in
    let m = c.operand.new.self.cost.spent in
    fault_through found_in found_in (MemberRenders (codes "$fromNow") ms scopes n) (λ x p. FromRenders ms scopes (or_null x) p) c.in-Err.fault m m c.in-Err.ensures.answers

pub from_now-returns-in-Err-operand-clause-answers : goal.from_now-returns-in-Err-operand-clause-answers
from_now-returns-in-Err-operand-clause-answers t c =
    let ms = members_in c.args.members.now.entries in
    let scopes = scopes_of c.args.self.now.context in
    let n = c.args.self.now.cost.spent in
    let after = scopes_of c.operand.new.self.context in
    let m = c.operand.new.self.cost.spent in
    let found = found_in c.in-Ok.span in
    let p = c.operand-then-has_key.new.self.cost.spent in
    let f = c.in-Err-operand.fault in
    value_through found_in (MemberRenders (codes "$fromNow") ms scopes n) (λ s x p. FromRenders ms s (or_null x) p) found m (Err f) p scopes after c.in-Ok.ensures.scopes c.in-Ok.ensures.answers
    (from_there (or_null found) ms after m (Err f) p (sym c.has_key.ensures ∙ c.if-has_key.true)
    (fault_through found_in found_in (MemberRenders (codes "from") ms after m) (λ x q. SpanRenders (or_null found) (Some (or_null x)) q) f p p c.in-Err-operand.ensures.answers))

pub from_now-returns-then-has_key-clause-answers : goal.from_now-returns-then-has_key-clause-answers
from_now-returns-then-has_key-clause-answers t c =
    let ms = members_in c.args.members.now.entries in
    let scopes = scopes_of c.args.self.now.context in
    let n = c.args.self.now.cost.spent in
    let after = scopes_of c.operand.new.self.context in
    let m = c.operand.new.self.cost.spent in
    let found = found_in c.in-Ok.span in
    let last = scopes_of c.operand-then-has_key.new.self.context in
    let p = c.operand-then-has_key.new.self.cost.spent in
    let r = c.finish_made.result in
    let k = c.finish_made.new.self.cost.spent in
    let from = found_in c.in-Ok-operand.from in
    let d = document c.or_null-span.result in
    let e = document c.or_null-from.result in
    let made : Answers found_in (SpanRenders d (Some e) p) r k = made_so c.span_of-made.result (IsFromNowAt d (Some e)) p r k c.span_of-made.ensures c.finish_made.ensures.answers in
    value_through found_in (MemberRenders (codes "$fromNow") ms scopes n) (λ s x p. FromRenders ms s (or_null x) p) found m r k scopes after c.in-Ok.ensures.scopes c.in-Ok.ensures.answers
    (from_there (or_null found) ms after m r k (sym c.has_key.ensures ∙ c.if-has_key.true)
    (value_through found_in (MemberRenders (codes "from") ms after m) (λ s x q. SpanRenders (or_null found) (Some (or_null x)) q) from p r k after last c.in-Ok-operand.ensures.scopes c.in-Ok-operand.ensures.answers
    (subst (λ x. Answers found_in (SpanRenders (or_null found) (Some x) p) r k) c.or_null-from.ensures (subst (λ x. Answers found_in (SpanRenders x (Some e) p) r k) c.or_null-span.ensures made))))

pub from_now-returns-then-has_key-clause-scopes : goal.from_now-returns-then-has_key-clause-scopes
from_now-returns-then-has_key-clause-scopes t c =
    kept_from c.finish_made.result (scopes_of c.args.self.now.context) (scopes_of c.operand-then-has_key.new.self.context) (scopes_of c.finish_made.new.self.context) (c.in-Ok-operand.ensures.scopes ∙ c.in-Ok.ensures.scopes) c.finish_made.ensures.scopes

pub from_now-returns-clause-answers : goal.from_now-returns-clause-answers
from_now-returns-clause-answers t c =
    let ms = members_in c.args.members.now.entries in
    let scopes = scopes_of c.args.self.now.context in
    let n = c.args.self.now.cost.spent in
    let after = scopes_of c.operand.new.self.context in
    let m = c.operand.new.self.cost.spent in
    let found = found_in c.in-Ok.span in
    let r = c.finish_made-2.result in
    let k = c.finish_made-2.new.self.cost.spent in
    let d = document c.or_null-span.result in
    let now = bound (codes "now") after in
    let meets : Meets (IsFromNowAt d now) c.span_of-made-2.result = subst (λ (x : Option Document). Meets (IsFromNowAt d x) c.span_of-made-2.result) c.get.ensures c.span_of-made-2.ensures in
    let made : Answers found_in (SpanRenders d now m) r k = made_so c.span_of-made-2.result (IsFromNowAt d now) m r k meets c.finish_made-2.ensures.answers in
    value_through found_in (MemberRenders (codes "$fromNow") ms scopes n) (λ s x p. FromRenders ms s (or_null x) p) found m r k scopes after c.in-Ok.ensures.scopes c.in-Ok.ensures.answers
    (from_now_on (or_null found) ms after m r k (sym c.has_key.ensures ∙ c.if-has_key.false)
    (subst (λ x. Answers found_in (SpanRenders x now m) r k) c.or_null-span.ensures made))

pub from_now-returns-clause-scopes : goal.from_now-returns-clause-scopes
from_now-returns-clause-scopes t c = kept_from c.finish_made-2.result (scopes_of c.args.self.now.context) (scopes_of c.operand.new.self.context) (scopes_of c.finish_made-2.new.self.context) c.in-Ok.ensures.scopes c.finish_made-2.ensures.scopes

pub over-returns-in-Map-clause-answers : goal.over-returns-in-Map-clause-answers
over-returns-in-Map-clause-answers t c =
    let ms = members_in c.args.members.now.entries in
    let key = c.args.key.now in
    let names = names_in c.args.names in
    let d = document c.args.value in
    let scopes = scopes_of c.args.self.now.context in
    let n = c.args.self.now.cost.spent in
    over_is c.args.operator Map key names ms d scopes n c.mapped.result c.mapped.new.self.cost.spent c.in-Map.is c.mapped.ensures.answers

pub over-returns-in-Map-clause-scopes : goal.over-returns-in-Map-clause-scopes
over-returns-in-Map-clause-scopes t c = c.mapped.ensures.scopes

pub over-returns-in-Find-clause-answers : goal.over-returns-in-Find-clause-answers
over-returns-in-Find-clause-answers t c =
    let ms = members_in c.args.members.now.entries in
    let key = c.args.key.now in
    let names = names_in c.args.names in
    let d = document c.args.value in
    let scopes = scopes_of c.args.self.now.context in
    let n = c.args.self.now.cost.spent in
    over_is c.args.operator Find key names ms d scopes n c.found_in.result c.found_in.new.self.cost.spent c.in-Find.is c.found_in.ensures.answers

pub over-returns-in-Find-clause-scopes : goal.over-returns-in-Find-clause-scopes
over-returns-in-Find-clause-scopes t c = c.found_in.ensures.scopes

pub over-returns-in-Sort-clause-answers : goal.over-returns-in-Sort-clause-answers
over-returns-in-Sort-clause-answers t c =
    let ms = members_in c.args.members.now.entries in
    let key = c.args.key.now in
    let names = names_in c.args.names in
    let d = document c.args.value in
    let scopes = scopes_of c.args.self.now.context in
    let n = c.args.self.now.cost.spent in
    over_is c.args.operator Sort key names ms d scopes n c.sorted_by.result c.sorted_by.new.self.cost.spent c.in-Sort.is c.sorted_by.ensures.answers

pub over-returns-in-Sort-clause-scopes : goal.over-returns-in-Sort-clause-scopes
over-returns-in-Sort-clause-scopes t c = c.sorted_by.ensures.scopes

pub over-returns-in-Err-clause-answers : goal.over-returns-in-Err-clause-answers
over-returns-in-Err-clause-answers t c =
    let ms = members_in c.args.members.now.entries in
    let key = c.args.key.now in
    let names = names_in c.args.names in
    let d = document c.args.value in
    let scopes = scopes_of c.args.self.now.context in
    let n = c.args.self.now.cost.spent in
    let m = c.operand.new.self.cost.spent in
    let f = c.in-Err.fault in
    over_is c.args.operator Reduce key names ms d scopes n (Err f) m c.in-Reduce.is
    (fault_through found_in found_in (MemberRenders (codes "initial") ms scopes n) (λ x p. ReducedOver (MemberRenders key ms) names (or_null x) d scopes p) f m m c.in-Err.ensures.answers)

pub over-returns-in-Ok-clause-answers : goal.over-returns-in-Ok-clause-answers
over-returns-in-Ok-clause-answers t c =
    let ms = members_in c.args.members.now.entries in
    let key = c.args.key.now in
    let names = names_in c.args.names in
    let d = document c.args.value in
    let scopes = scopes_of c.args.self.now.context in
    let n = c.args.self.now.cost.spent in
    let after = scopes_of c.operand.new.self.context in
    let m = c.operand.new.self.cost.spent in
    let r = c.reduced.result in
    let k = c.reduced.new.self.cost.spent in
    over_is c.args.operator Reduce key names ms d scopes n r k c.in-Reduce.is
    (value_through found_in (MemberRenders (codes "initial") ms scopes n) (λ s x p. ReducedOver (MemberRenders key ms) names (or_null x) d s p) (found_in c.in-Ok.initial) m r k scopes after c.in-Ok.ensures.scopes c.in-Ok.ensures.answers
    (subst (λ x. Answers found_in (ReducedOver (MemberRenders key ms) names x d after m) r k) c.or_null-initial.ensures c.reduced.ensures.answers))

pub over-returns-in-Ok-clause-scopes : goal.over-returns-in-Ok-clause-scopes
over-returns-in-Ok-clause-scopes t c = kept_from c.reduced.result (scopes_of c.args.self.now.context) (scopes_of c.operand.new.self.context) (scopes_of c.reduced.new.self.context) c.in-Ok.ensures.scopes c.reduced.ensures.scopes

pub over-returns-in_default : goal.over-returns-in_default
over-returns-in_default t c =
    let ms = members_in c.args.members.now.entries in
    let key = c.args.key.now in
    let names = names_in c.args.names in
    let d = document c.args.value in
    let scopes = scopes_of c.args.self.now.context in
    let n = c.args.self.now.cost.spent in
    record {
      answers = subst (λ (f : RenderFault). Answers found_in (BoundOver c.args.operator key names ms (λ a. MemberRenders a ms) d scopes n) (Err f) n) (sym c.here.ensures)
          (takes_none c.args.operator key names ms (λ a. MemberRenders a ms) d scopes n c.in_default.not-Map c.in_default.not-Reduce c.in_default.not-Find c.in_default.not-Sort);
      scopes = tt;
    }

pub mapped-returns-in-Err-each-clause-answers : goal.mapped-returns-in-Err-each-clause-answers
mapped-returns-in-Err-each-clause-answers t c =
    let body : Meaning = MemberRenders c.args.key.now (members_in c.args.members.now.entries) in
    let names = names_in c.args.names in
    let d = document c.args.value in
    let scopes = scopes_of c.args.self.now.context in
    let n = c.args.self.now.cost.spent in
    let ds = documents c.in-Ok.items.items in
    let turns = pairs_of c.in_ok-turns-in-Ok.turns.items in
    let is = c.in-Ok.ensures in
    let m = c.each.new.self.cost.spent in
    of_mapped_list_fault body names d ds turns scopes n m m c.in-Err-each.fault is c.in_ok-turns-in-Ok.ensures c.in-Err-each.ensures.answers

pub mapped-returns-in-Ok-each-clause-answers : goal.mapped-returns-in-Ok-each-clause-answers
mapped-returns-in-Ok-each-clause-answers t c =
    let body : Meaning = MemberRenders c.args.key.now (members_in c.args.members.now.entries) in
    let names = names_in c.args.names in
    let d = document c.args.value in
    let scopes = scopes_of c.args.self.now.context in
    let n = c.args.self.now.cost.spent in
    let ds = documents c.in-Ok.items.items in
    let turns = pairs_of c.in_ok-turns-in-Ok.turns.items in
    let is = c.in-Ok.ensures in
    let m = c.each.new.self.cost.spent in
    let r = c.finish.result in
    let k = c.finish.new.self.cost.spent in
    let done = c.in-Ok-each.done in
    of_mapped_list body names d (document (ListDoc done)) ds turns (documents done.items) scopes n m r k is c.in_ok-turns-in-Ok.ensures c.in-Ok-each.ensures.answers (document-List done) c.finish.ensures.answers

pub each-loop-item-preserved : goal.each-loop-item-preserved
each-loop-item-preserved t c =
    let l = c.loop-item in
    let body : Meaning = MemberRenders c.args.key.now (members_in c.args.members.now.entries) in
    let names = names_in c.args.names in
    let turn : Document × Document = (document c.in-Some.item, document c.in-Some.index) in
    let rest = pairs_of (into_iter_items l.item-iterator) in
    let left = pairs_of (into_iter_items c.next.new.self) in
    let next : into_iter_items l.item-iterator ≡ (c.in-Some.item, c.in-Some.index) ∷ into_iter_items c.next.new.self = grind (arith, common_steps) in
    let scopes = scopes_of l.self.context in
    let n = l.self.cost.spent in
    let m = c.operand.new.self.cost.spent in
    let whole : Outcome (List Document) → Type 0 = EachRenders body names [] (pairs_of c.args.turns.items) (scopes_of c.args.self.now.context) c.args.self.now.cost.spent in
    let within = scopes ++ bound_to names (both turn) in
    let inside = scopes_of c.bind_two.new.self.context in
    let cost = ap (λ (x : Cost). x.spent) c.in_ok-bind_two.ensures.cost in
    let found = found_in c.in-Ok.found in
    let p = c.release.new.self.cost.spent in
    let out : scopes_of c.release.new.self.context ≡ scopes = c.release.ensures.scopes scopes (bound_to names (both turn)) (c.in-Ok.ensures.scopes ∙ c.in_ok-bind_two.ensures.scopes) (ap length l.invariant.same ∙ c.height-height.ensures) in
    record {
      leads = turn_more whole body names (documents l.done.items) (documents c.keep.new.done.items) rest left turn scopes (scopes_of c.release.new.self.context) n p found (ap pairs_of next) l.invariant.leads
          (body_at body within inside n c.bind_two.new.self.cost.spent m p found c.in_ok-bind_two.ensures.scopes cost (ap (λ (x : Cost). x.spent) c.release.ensures.cost) c.in-Ok.ensures.answers) c.in_ok-keep.ensures out;
      same = out ∙ l.invariant.same;
    }

pub each-returns-in-Err-clause-answers : goal.each-returns-in-Err-clause-answers
each-returns-in-Err-clause-answers t c =
    let l = c.loop-item in
    let body : Meaning = MemberRenders c.args.key.now (members_in c.args.members.now.entries) in
    let names = names_in c.args.names in
    let turn : Document × Document = (document c.in-Some.item, document c.in-Some.index) in
    let rest = pairs_of (into_iter_items l.item-iterator) in
    let left = pairs_of (into_iter_items c.next.new.self) in
    let next : into_iter_items l.item-iterator ≡ (c.in-Some.item, c.in-Some.index) ∷ into_iter_items c.next.new.self = grind (arith, common_steps) in
    let scopes = scopes_of l.self.context in
    let n = l.self.cost.spent in
    let m = c.operand.new.self.cost.spent in
    let whole : Outcome (List Document) → Type 0 = EachRenders body names [] (pairs_of c.args.turns.items) (scopes_of c.args.self.now.context) c.args.self.now.cost.spent in
    let within = scopes ++ bound_to names (both turn) in
    let inside = scopes_of c.bind_two.new.self.context in
    let cost = ap (λ (x : Cost). x.spent) c.in_ok-bind_two.ensures.cost in
    let f = c.in-Err.fault in
    turn_fault whole body names (documents l.done.items) rest left turn scopes n m m f (ap pairs_of next) l.invariant.leads (body_fault body within inside n c.bind_two.new.self.cost.spent m f c.in_ok-bind_two.ensures.scopes cost c.in-Err.ensures.answers)

pub each-returns-clause-answers : goal.each-returns-clause-answers
each-returns-clause-answers t c =
    let l = c.loop-item in
    let body : Meaning = MemberRenders c.args.key.now (members_in c.args.members.now.entries) in
    let none : into_iter_items l.item-iterator ≡ [] = grind (arith, common_steps) in
    let scopes = scopes_of l.self.context in
    let done = documents l.done.items in
    let o = given done l.self.cost.spent in
    l.invariant.leads o (subst (λ ts. EachRenders body (names_in c.args.names) done ts scopes l.self.cost.spent o) (sym (ap pairs_of none)) refl)

pub reduced-returns-in_default-clause-answers : goal.reduced-returns-in_default-clause-answers
reduced-returns-in_default-clause-answers t c =
    let body : Meaning = MemberRenders c.args.key.now (members_in c.args.members.now.entries) in
    let names = names_in c.args.names in
    let initial = document c.args.initial in
    let d = document c.args.value in
    let scopes = scopes_of c.args.self.now.context in
    let n = c.args.self.now.cost.spent in
    subst (λ (f : RenderFault). Answers found_in (ReducedOver body names initial d scopes n) (Err f) n) (sym c.here.ensures) (reduce_kind body names initial d scopes n c.in_default.ensures.1)

pub reduced-loop-item-init : goal.reduced-loop-item-init
reduced-loop-item-init t c =
    let body : Meaning = MemberRenders c.args.key.now (members_in c.args.members.now.entries) in
    let names = names_in c.args.names in
    let initial = document c.args.initial in
    let d = document c.args.value in
    let scopes = scopes_of c.args.self.now.context in
    let n = c.args.self.now.cost.spent in
    let turns : into_iter_items c.into_iter-item-iterator.result ≡ c.in-Ok-numbered.turns.items = grind (arith, common_steps) in
    record {
      leads = λ o h. reduce_list body names initial d (documents c.in-Ok.items.items) (pairs_of (into_iter_items c.into_iter-item-iterator.result)) scopes n o c.in-Ok.ensures (ap pairs_of turns ∙ c.in-Ok-numbered.ensures) h;
      same = refl;
    }

pub reduced-returns-in-Err-operand-clause-answers : goal.reduced-returns-in-Err-operand-clause-answers
reduced-returns-in-Err-operand-clause-answers t c =
    let l = c.loop-item in
    let body : Meaning = MemberRenders c.args.key.now (members_in c.args.members.now.entries) in
    let names = names_in c.args.names in
    let initial = document c.args.initial in
    let d = document c.args.value in
    let turn : Document × Document = (document c.in-Some.item, document c.in-Some.index) in
    let rest = pairs_of (into_iter_items l.item-iterator) in
    let left = pairs_of (into_iter_items c.next.new.self) in
    let next : into_iter_items l.item-iterator ≡ (c.in-Some.item, c.in-Some.index) ∷ into_iter_items c.next.new.self = grind (arith, common_steps) in
    let scopes = scopes_of l.self.context in
    let n = l.self.cost.spent in
    let m = c.operand.new.self.cost.spent in
    let before = document l.before in
    let whole : Outcome (Option Document) → Type 0 = ReducedOver body names initial d (scopes_of c.args.self.now.context) c.args.self.now.cost.spent in
    let within = scopes ++ bound_to names (before ∷ both turn) in
    let inside = scopes_of c.bind_three.new.self.context in
    let cost = ap (λ (x : Cost). x.spent) c.in_ok-bind_three.ensures.cost in
    let f = c.in-Err-operand.fault in
    reduce_fault whole body names before rest left turn scopes n m m f (ap pairs_of next) l.invariant.leads (body_fault body within inside n c.bind_three.new.self.cost.spent m f c.in_ok-bind_three.ensures.scopes cost c.in-Err-operand.ensures.answers)

pub reduced-loop-item-preserved : goal.reduced-loop-item-preserved
reduced-loop-item-preserved t c =
    let l = c.loop-item in
    let body : Meaning = MemberRenders c.args.key.now (members_in c.args.members.now.entries) in
    let names = names_in c.args.names in
    let initial = document c.args.initial in
    let d = document c.args.value in
    let turn : Document × Document = (document c.in-Some.item, document c.in-Some.index) in
    let rest = pairs_of (into_iter_items l.item-iterator) in
    let left = pairs_of (into_iter_items c.next.new.self) in
    let next : into_iter_items l.item-iterator ≡ (c.in-Some.item, c.in-Some.index) ∷ into_iter_items c.next.new.self = grind (arith, common_steps) in
    let scopes = scopes_of l.self.context in
    let n = l.self.cost.spent in
    let m = c.operand.new.self.cost.spent in
    let before = document l.before in
    let whole : Outcome (Option Document) → Type 0 = ReducedOver body names initial d (scopes_of c.args.self.now.context) c.args.self.now.cost.spent in
    let within = scopes ++ bound_to names (before ∷ both turn) in
    let inside = scopes_of c.bind_three.new.self.context in
    let cost = ap (λ (x : Cost). x.spent) c.in_ok-bind_three.ensures.cost in
    let found = found_in c.in-Ok-operand.found in
    let p = c.take_back-kept.new.self.cost.spent in
    let back = taken_back c.args.names before (document c.take_back-kept.result) (both turn) scopes (scopes_of c.operand.new.self.context) (scopes_of c.release.new.self.context) (scopes_of c.take_back-kept.new.self.context) c.height-height.result
    (c.in-Ok-operand.ensures.scopes ∙ c.in_ok-bind_three.ensures.scopes) c.height-height.ensures c.release.ensures.scopes c.take_back-kept.ensures.scopes c.take_back-kept.ensures.value in
    record {
      leads = reduce_more whole body names before (document c.or_before-before.result) rest left turn scopes (scopes_of c.take_back-kept.new.self.context) n p found (ap pairs_of next) l.invariant.leads
          (body_at body within inside n c.bind_three.new.self.cost.spent m p found c.in_ok-bind_three.ensures.scopes cost (ap (λ (x : Cost). x.spent) (c.take_back-kept.ensures.cost ∙ c.release.ensures.cost)) c.in-Ok-operand.ensures.answers)
          (c.or_before-before.ensures ∙ ap (λ x. or_before x found) back.1) back.0;
      same = back.0 ∙ l.invariant.same;
    }

pub reduced-returns-clause-answers : goal.reduced-returns-clause-answers
reduced-returns-clause-answers t c =
    let body : Meaning = MemberRenders c.args.key.now (members_in c.args.members.now.entries) in
    let names = names_in c.args.names in
    let initial = document c.args.initial in
    let d = document c.args.value in
    let l = c.loop-item in
    let none : into_iter_items l.item-iterator ≡ [] = grind (arith, common_steps) in
    let scopes = scopes_of l.self.context in
    let n = l.self.cost.spent in
    let before = document l.before in
    let r = c.finish.result in
    let k = c.finish.new.self.cost.spent in
    answer_through found_in (λ o. o ≡ worth n (Some before)) (ReducedOver body names initial d (scopes_of c.args.self.now.context) c.args.self.now.cost.spent) r k
    (λ o e. l.invariant.leads o (subst (λ ts. TurnsReduce body names before ts scopes n o) (sym (ap pairs_of none)) e)) c.finish.ensures.answers

pub reduced-returns-clause-scopes : goal.reduced-returns-clause-scopes
reduced-returns-clause-scopes t c = kept_from c.finish.result (scopes_of c.args.self.now.context) (scopes_of c.loop-item.self.context) (scopes_of c.finish.new.self.context) c.loop-item.invariant.same c.finish.ensures.scopes
