use Rattle.std.proofs.Common.{ℕ, List, arith}
use Rattle.std.proofs.lemmas.Str.{IsUtf8-from_ascii}
use Rattle.std.proofs.lemmas.Str.Ascii.{IsAscii-from_all}
use Rattle.std.proofs.lemmas.List.Elements.{All-weaker}
use Rattle.std.specs.Prelude.{◌<◌}
use Rattle.hawk_auth.specs.Header.{IsValueByte}
use Rattle.hawk_auth.proofs.attributes.text_of.Goals as goal

pub unreachable-requires : goal.unreachable-requires
unreachable-requires c =
    let text : List ℕ = c.args.value.now in
    c.in_default.ensures.cases.0 (IsUtf8-from_ascii text (IsAscii-from_all text (All-weaker IsValueByte (λ b. b < 128) (λ b h. omega (arith, h.0.1)) text c.requires)))
