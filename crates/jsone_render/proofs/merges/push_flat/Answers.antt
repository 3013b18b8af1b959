use Rattle.std.proofs.Common.{◌≡◌, ◌++◌, List, OnOk, sym, subst}
use Rattle.farm_text.specs.Document.{Document}
use Rattle.farm_text.specs.Doc.{document, documents}
use Rattle.jsone_render.proofs.KindLemmas.{flat_list}
use Rattle.jsone_render.proofs.merges.push_flat.Goals as goal

pub returns-in-Ok : goal.returns-in-Ok
returns-in-Ok c =
    subst (λ (l : List Document). OnOk c.push_all.result (documents c.push_all.new.flat.items ≡ documents c.args.flat.now.items ++ l)) (sym (flat_list (document c.args.item) (documents c.in-Ok.inner.items) c.in-Ok.ensures)) c.push_all.ensures
