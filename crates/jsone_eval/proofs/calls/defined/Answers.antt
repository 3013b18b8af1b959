use Rattle.std.proofs.Common.{ℕ, Bool, List, Ok, is_some, Bor, sym, ap, ◌∙◌}
use Rattle.farm_text.specs.Document.{boolean}
use Rattle.farm_text.specs.Doc.{document}
use Rattle.farm_text.specs.declared.doc.Doc.{Doc}
use Rattle.jsone_values.proofs.JoinLemmas.{document-Text}
use Rattle.jsone_eval.specs.Calls.{defined}
use Rattle.jsone_eval.specs.Scopes.{bound, scopes_of}
use Rattle.jsone_eval.proofs.CallLemmas.{same_bound, document-Bool}
use Rattle.jsone_eval.proofs.calls.defined.Goals as goal

pub returns-in-Text : goal.returns-in-Text
returns-in-Text c =
    let scopes = scopes_of c.args.context.now in
    let there = c.is_some.ensures ∙ same_bound (λ (d : Bor Doc). document d.now) c.get.result ∙ ap is_some c.get.ensures ∙ ap (λ (k : List ℕ). is_some (bound k scopes)) c.as_str.ensures in
    ap Ok (document-Bool c.is_some.result) ∙ ap (λ (b : Bool). Ok (boolean b)) there ∙ ap (defined scopes) (sym (ap document c.in-Text.is ∙ document-Text c.in-Text.name))
