use Rattle.std.proofs.Common.{◌≡◌, arith}
use Rattle.std.specs.Char.{encode_utf8}
use Rattle.std.proofs.lemmas.Grind.{common_steps}
use Rattle.farm_text.specs.Reading.{escaped}
use Rattle.jsone_render.proofs.PathLemmas.{escaped-char}
use Rattle.jsone_render.proofs.paths.push_char.Goals as goal

pub returns-in_default : goal.returns-in_default
returns-in_default c =
    let same : escaped (encode_utf8 c.args.c) ≡ encode_utf8 c.args.c = escaped-char c.args.c (grind arith) (grind arith) in
    rw same (grind (arith, common_steps))
