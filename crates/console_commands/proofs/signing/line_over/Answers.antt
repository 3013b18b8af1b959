use Rattle.std.proofs.Common.{List, ℕ, Option, Some, subst, sym}
use Rattle.std.specs.Prelude.{IsUtf8}
use Rattle.std.proofs.lemmas.Str.{IsUtf8-from_ascii}
use Rattle.base64.proofs.EngineFacts.{IsAscii-encode_of}
use Rattle.base64.specs.Engines.{standard}
use Rattle.sha2.specs.Sha256.{sha256}
use Rattle.hawk_auth.specs.Mac.{payload_hash_of, payload_text}
use Rattle.console_commands.proofs.signing.line_over.Goals as goal

pub unreachable-requires : goal.unreachable-requires
unfolding payload_hash_of
unreachable-requires c =
    let kind : Option (List ℕ) = Some c.as_bytes.result.now in
    c.in_default.ensures.cases.0
    (subst IsUtf8 (sym c.payload_hash-hash.ensures) (IsUtf8-from_ascii (payload_hash_of kind c.args.body.now) (IsAscii-encode_of standard (sha256 (payload_text kind c.args.body.now)))))
