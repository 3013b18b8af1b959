use Rattle.std.proofs.Common.{ap, ◌∙◌}
use Rattle.farm_text.specs.Document.{put}
use Rattle.farm_text.specs.Doc.{document}
use Rattle.farm_text.proofs.DocLemmas.{members_in, members_in-insert_entry}
use Rattle.hook_fire.proofs.defaults.insert.Goals as goal

pub returns : goal.returns
returns c =
    ap members_in c.in_ok-insert.ensures.entries ∙ members_in-insert_entry c.args.members.now.entries c.in_ok-name.name c.args.value
    ∙ ap (λ k. put k (document c.args.value) (members_in c.args.members.now.entries)) c.in_ok-name.ensures.ok
