use Rattle.std.proofs.Common.{◌≡◌, [], ◌∷◌, ◌++◌, Option, ap, ◌∙◌, arith}
use Rattle.std.specs.Vec.Iter.{into_iter_items}
use Rattle.std.proofs.lemmas.Grind.{common_steps}
use Rattle.farm_text.specs.Document.{Document}
use Rattle.farm_text.specs.Doc.{document}
use Rattle.jsone_eval.specs.Scopes.{scopes_of}
use Rattle.jsone_render.specs.Answers.{Tested, names_in, pairs_of}
use Rattle.jsone_render.specs.Bindings.{bound_to, FirstTrue}
use Rattle.jsone_render.specs.Outcomes.{Outcome, given}
use Rattle.jsone_render.proofs.SearchLemmas.{turn_true, turn_false, turn_fault, no_turn_left}
use Rattle.jsone_render.proofs.renderer.Renderer.first_true.Goals as goal

pub loop-item-preserved : goal.loop-item-preserved
loop-item-preserved c =
    let l = c.loop-item in
    let next : into_iter_items l.item-iterator ≡ (c.in-Some.item, c.in-Some.index) ∷ into_iter_items c.next.new.self = grind (arith, common_steps) in
    let source = c.args.reading.now in
    let names = names_in c.args.names in
    let scopes = scopes_of l.self.context in
    let n = l.self.cost.spent in
    let m = c.holds_for.new.self.cost.spent in
    let whole : Outcome (Option Document) → Type 0 = FirstTrue source names (pairs_of c.args.turns.items) (scopes_of c.args.self.now.context) c.args.self.now.cost.spent in
    let test : Tested source (scopes ++ bound_to names (document c.in-Some.item ∷ document c.in-Some.index ∷ [])) n (given c.in-Ok.holds m) = c.in-Ok.ensures.answers in
    record {
      leads = turn_false whole source names (pairs_of (into_iter_items l.item-iterator)) (pairs_of (into_iter_items c.next.new.self)) (document c.in-Some.item, document c.in-Some.index) scopes (scopes_of c.holds_for.new.self.context) n m c.in-Ok.holds
          (ap pairs_of next) l.invariant.leads test c.if-holds.false c.in-Ok.ensures.scopes;
      same = c.in-Ok.ensures.scopes ∙ l.invariant.same;
    }

pub returns-then-holds-clause-answers : goal.returns-then-holds-clause-answers
returns-then-holds-clause-answers c =
    let l = c.loop-item in
    let next : into_iter_items l.item-iterator ≡ (c.in-Some.item, c.in-Some.index) ∷ into_iter_items c.next.new.self = grind (arith, common_steps) in
    let source = c.args.reading.now in
    let names = names_in c.args.names in
    let scopes = scopes_of l.self.context in
    let n = l.self.cost.spent in
    let m = c.holds_for.new.self.cost.spent in
    let whole : Outcome (Option Document) → Type 0 = FirstTrue source names (pairs_of c.args.turns.items) (scopes_of c.args.self.now.context) c.args.self.now.cost.spent in
    let test : Tested source (scopes ++ bound_to names (document c.in-Some.item ∷ document c.in-Some.index ∷ [])) n (given c.in-Ok.holds m) = c.in-Ok.ensures.answers in
    turn_true whole source names (pairs_of (into_iter_items l.item-iterator)) (pairs_of (into_iter_items c.next.new.self)) (document c.in-Some.item, document c.in-Some.index) scopes n m c.finish.new.self.cost.spent c.in-Ok.holds c.finish.result
    (ap pairs_of next) l.invariant.leads test c.if-holds.true c.finish.ensures.answers

pub returns-in-Err-clause-answers : goal.returns-in-Err-clause-answers
returns-in-Err-clause-answers c =
    let l = c.loop-item in
    let next : into_iter_items l.item-iterator ≡ (c.in-Some.item, c.in-Some.index) ∷ into_iter_items c.next.new.self = grind (arith, common_steps) in
    let source = c.args.reading.now in
    let names = names_in c.args.names in
    let scopes = scopes_of l.self.context in
    let n = l.self.cost.spent in
    let m = c.holds_for.new.self.cost.spent in
    let whole : Outcome (Option Document) → Type 0 = FirstTrue source names (pairs_of c.args.turns.items) (scopes_of c.args.self.now.context) c.args.self.now.cost.spent in
    turn_fault whole source names (pairs_of (into_iter_items l.item-iterator)) (pairs_of (into_iter_items c.next.new.self)) (document c.in-Some.item, document c.in-Some.index) scopes n m m c.in-Err.fault
    (ap pairs_of next) l.invariant.leads
    c.in-Err.ensures.answers

pub returns-clause-answers : goal.returns-clause-answers
returns-clause-answers c =
    let l = c.loop-item in
    let none : into_iter_items l.item-iterator ≡ [] = grind (arith, common_steps) in
    let whole : Outcome (Option Document) → Type 0 = FirstTrue c.args.reading.now (names_in c.args.names) (pairs_of c.args.turns.items) (scopes_of c.args.self.now.context) c.args.self.now.cost.spent in
    no_turn_left whole c.args.reading.now (names_in c.args.names) (pairs_of (into_iter_items l.item-iterator)) (scopes_of l.self.context) l.self.cost.spent c.finish-2.new.self.cost.spent c.finish-2.result
    (ap pairs_of none) l.invariant.leads c.finish-2.ensures.answers
