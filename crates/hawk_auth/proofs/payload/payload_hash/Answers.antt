use Rattle.std.proofs.Common.{◌≡◌, ℕ, List, [], ◌++◌, map, ap, ◌∙◌, subst}
use Rattle.std.specs.Prelude.{codes, ◌==◌}
use Rattle.std.specs.Char.{to_ascii_lowercase}
use Rattle.std.specs.Option.{option_copied}
use Rattle.sha2.specs.Hashers.{Holds256}
use Rattle.base64.specs.GeneralPurpose.{encode_of}
use Rattle.base64.specs.Engines.{standard}
use Rattle.hawk_auth.specs.Mac.{payload_hash_of, line, or_empty, trimmed}
use Rattle.std.specs.List.{before_first}
use Rattle.hawk_auth.proofs.payload.payload_hash.Goals as goal

pub returns : goal.returns
unfolding payload_hash_of
returns c =
    let type_is : c.media_type.result.now ≡ trimmed (before_first (λ b. b == 59) (or_empty (option_copied c.args.content_type))) =
    c.media_type.ensures ∙ ap (λ (t : List ℕ). trimmed (before_first (λ b. b == 59) t)) c.or_empty.ensures in
    let held = subst (λ (t : List ℕ). Holds256 c.add_line-2.new.hasher (line (codes "hawk.1.payload") ++ line (map to_ascii_lowercase t) ++ line c.args.body.now)) type_is
    (c.add_line-2.ensures _ (c.add_line_in_lower_case.ensures _ (c.add_line.ensures [] c.new-hasher.ensures))) in
    c.base64_of.ensures.value ∙ ap (encode_of standard) (c.finalize.ensures _ held)
