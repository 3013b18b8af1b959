use Rattle.farm_text.specs.Doc.{documents}
use Rattle.std.proofs.Common.{◌≡◌, length, arith}
use Rattle.std.proofs.lemmas.List.{length-map}
use Rattle.task_defs.proofs.TextLemmas.{too_many, not_once, all_texts}
use Rattle.task_defs.proofs.texts.distinct_texts_of.Goals as goal

pub returns-then-len-most : goal.returns-then-len-most
returns-then-len-most c =
    let docs = documents c.args.items.now.items in
    too_many c.args.most docs (let e : length docs ≡ length c.args.items.now.items = rw length-map in omega arith)

pub returns-then-branch : goal.returns-then-branch
returns-then-branch c =
    let found = rw c.in-Some.is at c.in_ok-texts.ensures in
    let twice = rw c.deref.ensures.value at (rw c.if-branch.true at c.in_ok-has_repeat.ensures) in
    λ ts. not_once c.args.most (documents c.args.items.now.items) _ ts found twice

pub returns : goal.returns
returns c =
    let docs = documents c.args.items.now.items in
    let found = rw c.in-Some.is at c.in_ok-texts.ensures in
    let once = rw c.deref.ensures.value at (rw c.if-branch.false at c.in_ok-has_repeat.ensures) in
    all_texts c.args.most docs _ found (let e : length docs ≡ length c.args.items.now.items = rw length-map in omega arith) once
