use Rattle.plain_text.proofs.PlainLemmas.{IsUtf8-plain}
use Rattle.plain_text.proofs.escapes.text_of.Goals as goal

pub unreachable-requires : goal.unreachable-requires
unreachable-requires c =
    let none = c.in-Err.ensures.succeeds (IsUtf8-plain c.args.bytes.items c.requires) in
    cc
