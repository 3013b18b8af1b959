use Rattle.std.proofs.Common.{ap, ◌∙◌}
use Rattle.farm_text.specs.Document.{put}
use Rattle.farm_text.specs.Doc.{document}
use Rattle.farm_text.specs.Entries.{held}
use Rattle.farm_text.proofs.DocLemmas.{members_in, members_in-insert_entry}
use Rattle.farm_text.proofs.entries.Entries.with.Goals as goal

pub returns : goal.returns
unfolding held
returns c =
    ap members_in (c.in_ok-insert.ensures.entries) ∙ members_in-insert_entry c.args.self.map.entries c.in_ok-name.name c.args.value
    ∙ ap (λ k. put k (document c.args.value) (held c.args.self)) c.in_ok-name.ensures.ok
