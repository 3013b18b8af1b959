use Rattle.std.proofs.Common.{ℕ, List, string_bytes, ap, ◌∙◌}
use Rattle.farm_text.specs.Document.{member_at, put}
use Rattle.farm_text.specs.Doc.{document}
use Rattle.farm_text.proofs.DocLemmas.{members_in, members_in-insert_entry, document-lookup}
use Rattle.jsone_render.specs.Answers.{found_in}
use Rattle.jsone_render.proofs.merges.replaced.Goals as goal

pub returns-in_ok-insert-in-Ok-clause-before : goal.returns-in_ok-insert-in-Ok-clause-before
returns-in_ok-insert-in-Ok-clause-before c =
    let ms = members_in c.args.members.now.entries in
    ap found_in c.in_ok-insert-in-Ok.ensures.old ∙ document-lookup (string_bytes c.in-Ok.name) c.args.members.now.entries ∙ ap (λ (k : List ℕ). member_at k ms) c.in-Ok.ensures.ok

pub returns-in_ok-insert-in-Ok-clause-put : goal.returns-in_ok-insert-in-Ok-clause-put
returns-in_ok-insert-in-Ok-clause-put c =
    let ms = members_in c.args.members.now.entries in
    ap members_in c.in_ok-insert-in-Ok.ensures.entries ∙ members_in-insert_entry c.args.members.now.entries c.in-Ok.name c.args.value ∙ ap (λ (k : List ℕ). put k (document c.args.value) ms) c.in-Ok.ensures.ok
