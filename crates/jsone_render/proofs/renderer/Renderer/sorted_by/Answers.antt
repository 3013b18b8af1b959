use Rattle.std.proofs.Common.{ℕ, List, [], Err, Vec, Global, sym, subst, ◌∙◌}
use Rattle.farm_text.specs.Document.{member_at}
use Rattle.farm_text.specs.Doc.{document, documents}
use Rattle.farm_text.proofs.DocLemmas.{members_in}
use Rattle.jsone_eval.specs.Scopes.{scopes_of}
use Rattle.jsone_render.specs.declared.faults.RenderFault.{RenderFault}
use Rattle.jsone_render.specs.Answers.{Answers, found_in, names_in, pairs_of}
use Rattle.farm_text.specs.declared.doc.Doc.{Doc}
use Rattle.jsone_render.specs.Sorting.{KeysEvaluated, SortedBy, IsSortOf}
use Rattle.jsone_render.specs.Outcomes.{given}
use Rattle.jsone_render.proofs.SearchLemmas.{finished, kept_so, sorted_list, sorted_fault, sorted_no_list, sorted_no_text}
use Rattle.jsone_render.proofs.renderer.Renderer.sorted_by.Goals as goal

pub returns-in-Err-clause-answers : goal.returns-in-Err-clause-answers
returns-in-Err-clause-answers c =
    let x = member_at c.args.key.now (members_in c.args.members.now.entries) in
    let names = names_in c.args.names in
    let d = document c.args.value in
    let scopes = scopes_of c.args.self.now.context in
    let spent = c.args.self.now.cost.spent in
    subst (λ (f : RenderFault). Answers found_in (SortedBy x names d scopes spent) (Err f) spent) (sym c.here.ensures) (sorted_no_list x names d scopes spent c.in-Err.ensures.1)

pub returns-in-None-clause-answers : goal.returns-in-None-clause-answers
returns-in-None-clause-answers c =
    let x = member_at c.args.key.now (members_in c.args.members.now.entries) in
    let names = names_in c.args.names in
    let d = document c.args.value in
    let scopes = scopes_of c.args.self.now.context in
    let spent = c.args.self.now.cost.spent in
    subst (λ (f : RenderFault). Answers found_in (SortedBy x names d scopes spent) (Err f) spent) (sym c.here-in-None.ensures)
    (sorted_no_text x names d (documents c.in-Ok.items.items) scopes spent c.in-Ok.ensures c.in-None.ensures)

pub returns-in-Err-sort_keys-clause-answers : goal.returns-in-Err-sort_keys-clause-answers
returns-in-Err-sort_keys-clause-answers c =
    let x = member_at c.args.key.now (members_in c.args.members.now.entries) in
    let scopes = scopes_of c.args.self.now.context in
    let spent = c.args.self.now.cost.spent in
    sorted_fault (λ (v : Vec (Doc × Doc) Global). pairs_of v.items) x (names_in c.args.names) (document c.args.value) (documents c.in-Ok.items.items) c.in-Some.source.now scopes spent c.sort_keys.new.self.cost.spent c.sort_keys.new.self.cost.spent c.in-Err-sort_keys.fault
    c.in-Ok.ensures c.in-Some.ensures
    (subst (λ (e : List ℕ). Answers (λ (v : Vec (Doc × Doc) Global). pairs_of v.items) (KeysEvaluated e (names_in c.args.names) [] (documents c.in-Ok.items.items) scopes spent) (Err c.in-Err-sort_keys.fault) c.sort_keys.new.self.cost.spent) (c.deref.ensures ∙ c.in_ok-reading-in-Some.ensures) c.in-Err-sort_keys.ensures.answers)

pub returns-in-Ok-sort_keys-clause-answers : goal.returns-in-Ok-sort_keys-clause-answers
returns-in-Ok-sort_keys-clause-answers c =
    let x = member_at c.args.key.now (members_in c.args.members.now.entries) in
    let scopes = scopes_of c.args.self.now.context in
    let spent = c.args.self.now.cost.spent in
    let pairs = pairs_of c.in-Ok-sort_keys.pairs.items in
    sorted_list x (names_in c.args.names) (document c.args.value) (documents c.in-Ok.items.items) pairs c.in-Some.source.now scopes spent c.sort_keys.new.self.cost.spent c.finish_made.new.self.cost.spent c.finish_made.result
    c.in-Ok.ensures c.in-Some.ensures
    (subst (λ (e : List ℕ). KeysEvaluated e (names_in c.args.names) [] (documents c.in-Ok.items.items) scopes spent (given pairs c.sort_keys.new.self.cost.spent)) (c.deref.ensures ∙ c.in_ok-reading-in-Some.ensures) c.in-Ok-sort_keys.ensures.answers)
    (finished (IsSortOf pairs) c.sort_of.result c.sort_keys.new.self.cost.spent c.finish_made.result c.finish_made.new.self.cost.spent c.sort_of.ensures c.finish_made.ensures.answers)

pub returns-in-Ok-sort_keys-clause-scopes : goal.returns-in-Ok-sort_keys-clause-scopes
returns-in-Ok-sort_keys-clause-scopes c =
    kept_so c.finish_made.result (scopes_of c.args.self.now.context) (scopes_of c.sort_keys.new.self.context) (scopes_of c.finish_made.new.self.context) c.in-Ok-sort_keys.ensures.scopes c.finish_made.ensures.scopes
