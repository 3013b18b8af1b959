use Rattle.std.proofs.Common.{◌≡◌, Bor, Option, Some, None, option_map, MatchOption, sym, ap, ◌∙◌}
use Rattle.farm_text.specs.Document.{Document, member_at}
use Rattle.farm_text.specs.Doc.{document}
use Rattle.farm_text.specs.declared.doc.Doc.{Doc}
use Rattle.farm_text.proofs.DocLemmas.{members_in, document_of_ref, document-lookup}
use Rattle.jsone_render.proofs.lists.member_of.Goals as goal

by_cases : (r : Option (Bor Doc)) (x : Option Document) → option_map (λ d. document d.now) r ≡ x → MatchOption r (x ≡ None) (λ d. x ≡ Some (document d.now))
by_cases None x e = sym e
by_cases (Some d) x e = sym e

pub returns : goal.returns
returns c =
    by_cases c.get.result (member_at c.args.key.now (members_in c.args.members.now.entries)) (document_of_ref c.get.result ∙ ap (option_map document) c.get.ensures.value ∙ document-lookup c.args.key.now c.args.members.now.entries)
