use Rattle.std.proofs.Common.{◌≡◌, List, ℕ, length, ap, ◌∙◌}
use Rattle.farm_asks.specs.Replies.{answer_of}
use Rattle.api_routes.specs.ReplyText.{head_text}
use Rattle.api_routes.proofs.HeadLemmas.{head_text-from_lines}
use Rattle.api_routes.proofs.head.reply_head.Goals as goal

pub returns : goal.returns
returns c =
    let lines : c.push.new.self ≡ head_text c.status.result c.args.closes (length c.body.result.now) = head_text-from_lines c.status.result (length c.body.result.now) c.args.closes c.new-head.result c.push_status.new.self c.push_close.new.self c.push_size.new.self c.push.new.self c.new-head.ensures c.push_status.ensures.bytes c.push_close.ensures.bytes c.push_size.ensures.bytes c.push.ensures.bytes in
    lines ∙ (ap (λ (n : ℕ). head_text n c.args.closes (length c.body.result.now)) c.status.ensures ∙ ap (λ (body : List ℕ). head_text (answer_of c.args.reply.now).status c.args.closes (length body)) c.body.ensures)
