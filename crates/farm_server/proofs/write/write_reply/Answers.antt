use Rattle.std.proofs.Common.{◌≡◌, ◌++◌, List, ℕ, subst, ◌∙◌}
use Rattle.http_wire.specs.Calls.{state_of}
use Rattle.http_wire.specs.Whole.{WritesAll}
use Rattle.api_routes.specs.ReplyText.{reply_text}
use Rattle.farm_server.proofs.WriteLemmas.{reply_text-parts}
use Rattle.farm_server.proofs.write.write_reply.Goals as goal

pub returns : goal.returns
returns g c =
    let is : c.as_slice.result.now ++ c.as_bytes.result.now ≡ reply_text c.args.reply.now c.args.closes = reply_text-parts c.args.reply.now c.args.closes c.as_slice.result.now c.as_bytes.result.now (c.as_slice.ensures.bytes ∙ c.reply_head-head.ensures) (c.as_bytes.ensures.value ∙ c.body.ensures) in
    let P : List ℕ → Type 0 = λ text. WritesAll (state_of g.L.Link c.args.link.now) (state_of g.L.Link c.write_pair.new.link) text c.write_pair.result in
    subst P is c.write_pair.ensures
