use Rattle.std.proofs.Common.{ℕ, List, [], subst}
use Rattle.hawk_auth.specs.Hashing.{Authenticates}
use Rattle.hawk_auth.specs.Mac.{parts_data}
use Rattle.hawk_auth.proofs.macs.signed.Goals as goal

pub returns : goal.returns
returns c =
    let k : List ℕ = (parts_data c.args.parts.now).token in
    let fresh = subst (λ (key : List ℕ). Authenticates key [] c.new-hmac.result) c.as_bytes.ensures.value c.new-hmac.ensures in
    c.line_or_empty-2.ensures k _ (c.line_or_empty.ensures k _ (c.line_of_number.ensures k _ (c.line_in_lower_case.ensures k _
    (c.line-2.ensures k _ (c.line_in_capitals.ensures k _ (c.text_line-2.ensures k _ (c.text_line.ensures k _ (c.line.ensures k [] fresh))))))))
