use Rattle.std.proofs.Common.{List, ℕ, subst, sym, arith, rules}
use Rattle.std.proofs.lemmas.Grind.{common_steps}
use Rattle.std.specs.List.{All}
use Rattle.std.specs.Prelude.{IsUtf8}
use Rattle.std.proofs.lemmas.Str.{IsUtf8-from_ascii}
use Rattle.base64.proofs.EngineFacts.{IsAscii-encode_of}
use Rattle.base64.specs.Engines.{standard}
use Rattle.hawk_auth.specs.Mac.{PartsData, hmac, mac_of, parts_data, signed_text}
use Rattle.hawk_auth.specs.Header.{IsHeader, IsValueByte}
use Rattle.hawk_auth.specs.Signed.{signed_header}
use Rattle.hawk_auth.proofs.SignLemmas.{mac_is_value, read_back}
use Rattle.hawk_auth.proofs.signing.sign.Goals as goal

pub unreachable-requires : goal.unreachable-requires
unfolding mac_of
unreachable-requires c =
    let p = parts_data c.args.parts.now in
    c.in_default.ensures.cases.0 (subst IsUtf8 (sym c.mac-mac.ensures.value) (IsUtf8-from_ascii (mac_of p) (IsAscii-encode_of standard (hmac p.token (signed_text p)))))

pub returns-clause-text : goal.returns-clause-text
returns-clause-text c = first_of (search rules, grind (arith, common_steps))

pub returns-clause-reads_back : goal.returns-clause-reads_back
returns-clause-reads_back c =
    let p : PartsData = parts_data c.args.parts.now in
    let mac = mac_is_value p (subst (All IsValueByte) c.mac-mac.ensures.value c.mac-mac.ensures.plain) in
    λ form. subst (λ (t : List ℕ). IsHeader t (signed_header p)) (sym (returns-clause-text c)) (read_back p form mac)
