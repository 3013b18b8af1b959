use Rattle.std.proofs.Common.{◌≡◌, ◌++◌, string_bytes, ap, sym, ◌∙◌, append_assoc, arith}
use Rattle.std.specs.Char.{encode_utf8}
use Rattle.std.specs.Str.Iter.{chars_rest}
use Rattle.std.proofs.lemmas.Grind.{common_steps}
use Rattle.farm_text.specs.Reading.{escaped}
use Rattle.jsone_render.proofs.PathLemmas.{escaped-append}
use Rattle.jsone_render.proofs.paths.escaped.Goals as goal

pub chars-preserved : goal.chars-preserved
chars-preserved c =
    let char = c.in-Some.c in
    let rest = chars_rest c.next.new.self in
    let old = string_bytes c.chars.out in
    let here : chars_rest c.chars.c-iterator ≡ encode_utf8 char ++ rest = grind (arith, common_steps) in
    let pushed : string_bytes c.push_char.new.out ≡ old ++ escaped (encode_utf8 char) = grind (arith, common_steps) in
    ap (λ t. t ++ escaped rest) pushed ∙ append_assoc old (escaped (encode_utf8 char)) (escaped rest)
    ∙ ap (λ t. old ++ t) (sym (escaped-append (encode_utf8 char) rest) ∙ ap escaped (sym here)) ∙ c.chars.invariant
