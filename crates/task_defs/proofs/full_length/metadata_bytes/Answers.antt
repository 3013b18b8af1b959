use Rattle.std.proofs.Common.{◌+◌, ◌≤◌, arith}
use Rattle.farm_text.specs.Document.{text}
use Rattle.task_defs.proofs.FullLengthLemmas.{covered, summed, metadata_total}
use Rattle.task_defs.proofs.full_length.metadata_bytes.Goals as goal

pub returns : goal.returns
returns c within =
    let all : 200 + c.text_bytes.result + c.text_bytes-2.result + c.text_bytes-3.result + c.text_bytes-4.result ≤ c.total.result = summed _ _ _ c.as_slice.ensures c.total.ensures within in
    metadata_total c.args.metadata.now _ _ _ _ _ all
    (covered text _ _ _ c.as_str.ensures c.text_bytes.ensures.text (omega arith))
    (covered text _ _ _ c.as_str-2.ensures c.text_bytes-2.ensures.text (omega arith))
    (covered text _ _ _ c.as_str-3.ensures c.text_bytes-3.ensures.text (omega arith))
    (covered text _ _ _ c.as_str-4.ensures c.text_bytes-4.ensures.text (omega arith))
