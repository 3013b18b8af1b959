use Rattle.std.proofs.Common.{ℕ, List}
use Rattle.farm_text.specs.Document.{Document}
use Rattle.farm_text.specs.Doc.{document}
use Rattle.hawk_auth.proofs.ExtLemmas.{ext_allows, ext_of_none, on_ok}
use Rattle.hawk_auth.proofs.ext.read_ext.Goals as goal

pub returns-in-Some-2 : goal.returns-in-Some-2
returns-in-Some-2 c =
    let content : List ℕ = c.in-Some.content.items in
    let d : Document = document c.in-Some-2.doc in
    let (bytes, encoded, once) = rw c.in-Some.is at c.in_ok-content.ensures in
    let read = rw (c.in-Some-2.is, c.deref.ensures.value) at c.in_ok-doc.ensures in
    on_ok c.allowed_by.result (λ a h. ext_allows c.args.ext.now content d a bytes encoded once read.0 read.1 h) c.allowed_by.ensures

pub returns : goal.returns
returns c =
    let content : List ℕ = c.in-Some.content.items in
    let (bytes, encoded, once) = rw c.in-Some.is at c.in_ok-content.ensures in
    ext_of_none c.args.ext.now content once (rw (c.in-None.is, c.deref.ensures.value) at c.in_ok-doc.ensures)
