use Rattle.std.proofs.Common.{ℕ, List, Err, sym, subst, ◌∙◌}
use Rattle.farm_text.specs.Document.{member_at}
use Rattle.farm_text.specs.Doc.{document, documents}
use Rattle.farm_text.proofs.DocLemmas.{members_in}
use Rattle.jsone_eval.specs.Scopes.{scopes_of}
use Rattle.jsone_render.specs.declared.faults.RenderFault.{RenderFault}
use Rattle.jsone_render.specs.Answers.{Answers, found_in, names_in, pairs_of}
use Rattle.jsone_render.specs.Bindings.{FirstTrue, FoundIn}
use Rattle.jsone_render.proofs.SearchLemmas.{found_list, found_no_list, found_no_text}
use Rattle.jsone_render.proofs.renderer.Renderer.found_in.Goals as goal

pub returns-in-Err-clause-answers : goal.returns-in-Err-clause-answers
returns-in-Err-clause-answers c =
    let x = member_at c.args.key.now (members_in c.args.members.now.entries) in
    let names = names_in c.args.names in
    let d = document c.args.value in
    let scopes = scopes_of c.args.self.now.context in
    let spent = c.args.self.now.cost.spent in
    subst (λ (f : RenderFault). Answers found_in (FoundIn x names d scopes spent) (Err f) spent) (sym c.here.ensures) (found_no_list x names d scopes spent c.in-Err.ensures.1)

pub returns-in-None-clause-answers : goal.returns-in-None-clause-answers
returns-in-None-clause-answers c =
    let x = member_at c.args.key.now (members_in c.args.members.now.entries) in
    let names = names_in c.args.names in
    let d = document c.args.value in
    let scopes = scopes_of c.args.self.now.context in
    let spent = c.args.self.now.cost.spent in
    subst (λ (f : RenderFault). Answers found_in (FoundIn x names d scopes spent) (Err f) spent) (sym c.here-in-None.ensures)
    (found_no_text x names d (documents c.in-Ok.items.items) scopes spent c.in-Ok.ensures c.in-None.ensures)

pub returns-in_ok-reading-in-Some-clause-answers : goal.returns-in_ok-reading-in-Some-clause-answers
returns-in_ok-reading-in-Some-clause-answers c =
    let x = member_at c.args.key.now (members_in c.args.members.now.entries) in
    let names = names_in c.args.names in
    let turns = pairs_of c.in_ok-turns-in-Some.turns.items in
    let scopes = scopes_of c.args.self.now.context in
    let spent = c.args.self.now.cost.spent in
    let r = c.first_true.result in
    let m = c.first_true.new.self.cost.spent in
    found_list x names (document c.args.value) (documents c.in-Ok.items.items) turns c.in-Some.source.now scopes spent m r
    c.in-Ok.ensures c.in-Some.ensures c.in_ok-turns-in-Some.ensures
    (subst (λ (e : List ℕ). Answers found_in (FirstTrue e names turns scopes spent) r m) (c.deref.ensures ∙ c.in_ok-reading-in-Some.ensures) c.first_true.ensures.answers)
