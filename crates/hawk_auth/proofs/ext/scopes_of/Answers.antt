use Rattle.std.proofs.Common.{◌≡◌, List, ap, sym, ◌∙◌, take}
use Rattle.std.proofs.lemmas.List.{take_all}
use Rattle.farm_text.specs.Document.{Document, array, items_of}
use Rattle.farm_text.specs.Doc.{documents}
use Rattle.hawk_auth.proofs.ExtLemmas.{not_scopes_at, one_more, formed_more}
use Rattle.hawk_auth.proofs.ext.scopes_of.Goals as goal

pub returns-in-None : goal.returns-in-None
returns-in-None c = not_scopes_at c.args.items.now c.loop-item.item-index c.item-item.result c.loop-item-test.true c.item-item.is (rw c.in-None.is at c.in_ok-scope.ensures)

pub loop-item-preserved : goal.loop-item-preserved
loop-item-preserved c =
    let read = rw c.in-Some.is at c.in_ok-scope.ensures in (
      one_more c.args.items.now c.loop-item.item-index c.item-item.result c.loop-item-test.true c.item-item.is c.loop-item.scopes.items c.push.new.self.items c.in-Some.scope
          c.in_ok-push-in-Some.ensures.items read.1 c.loop-item.invariant.0,
      formed_more c.loop-item.scopes.items c.push.new.self.items c.in-Some.scope c.in_ok-push-in-Some.ensures.items read.0 c.loop-item.invariant.1,
    )

pub returns : goal.returns
returns c =
    let all : take c.loop-item.item-index c.args.items.now ≡ c.args.items.now = take_all c.loop-item.item-index c.args.items.now c.loop-item-test.false in
    record {
      is = ap (λ (ds : List Document). array (items_of ds)) (ap documents (sym all) ∙ c.loop-item.invariant.0);
      formed = c.loop-item.invariant.1;
    }
