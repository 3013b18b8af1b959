use Rattle.std.proofs.Common.{ap, ◌∙◌}
use Rattle.base64.specs.GeneralPurpose.{encode_of}
use Rattle.base64.specs.Engines.{standard}
use Rattle.hawk_auth.specs.Mac.{PartsData, parts_data, mac_of, signed_text}
use Rattle.hawk_auth.proofs.macs.mac.Goals as goal

pub returns-clause-value : goal.returns-clause-value
unfolding mac_of
returns-clause-value c =
    let p : PartsData = parts_data c.args.parts.now in
    c.base64_of.ensures.value ∙ ap (encode_of standard) (c.finish.ensures p.token (signed_text p) c.signed-hmac.ensures)
