use Rattle.std.proofs.Common.{◌∙◌, ◌-◌}
use Rattle.std.proofs.lemmas.Iterator.{YieldsList-from_chars, YieldsList-from_take, text_from_collect}
use Rattle.std.proofs.lemmas.Iterator.Adapters.{YieldsList-from_skip}
use Rattle.std.proofs.lemmas.Iterator.Consumers.{YieldsList-at}
use Rattle.jsone_values.proofs.texts.chars_between.Goals as goal

pub returns : goal.returns
returns c =
    let all = YieldsList-from_chars c.args.text.now c.utf8.text c.chars.ensures.rest in
    let behind = YieldsList-from_skip c.args.from (YieldsList-at c.skip.ensures.source all) c.skip.ensures.count in
    let part = YieldsList-from_take (c.args.to - c.args.from) (YieldsList-at c.take.ensures.source behind) (c.take.ensures.count ∙ c.saturating_sub.ensures) in
    text_from_collect c.collect.result c.collect.ensures.ran part
