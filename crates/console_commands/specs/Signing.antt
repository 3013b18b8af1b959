-- What `sign` does: it writes the value of the header that signs a request (Hawk, scheme 1).
use Rattle.std.specs.Prelude.{◌≡◌, ℕ, ◌<◌, ◌≤◌, List, ◌++◌, length, codes, Option, Some, None}
use Rattle.command_line.specs.declared.signing.Signing.{Signing}
use Rattle.hawk_auth.specs.Mac.{PartsData, payload_hash_of}
use Rattle.hawk_auth.specs.Signed.{header_text}
use Rattle.http_wire.specs.Calls.{LinkState}
use Rattle.console_commands.specs.declared.status.Status.{Status}
use Rattle.console_commands.specs.Inputs.{longest_input, Tells, Turns}

-- what is signed, with this hash of the body
abbrev pub parts_of : Signing → Option (List ℕ) → PartsData
parts_of signing hash = record {
  id = signing.id;
  token = signing.token;
  ts = signing.ts;
  nonce = signing.nonce;
  method = signing.method;
  target = signing.target;
  host = signing.host;
  port = signing.port;
  hash = hash;
  ext = signing.ext;
}

-- the value of the header, and a line feed
abbrev pub signed_line : Signing → Option (List ℕ) → List ℕ
signed_line signing hash = header_text (parts_of signing hash) ++ codes "\n"

-- the body is not too long, and this is the line with its hash
pub record IsSigned (signing : Signing) (content_type body text : List ℕ) : Type 0 where
  pub short : length body ≤ longest_input
  pub text_is : text ≡ signed_line signing (Some (payload_hash_of (Some content_type) body))

-- the body is too long
abbrev pub IsTooLong : List ℕ → Type 0
IsTooLong body = longest_input < length body

-- the same by the content type: with one the console is the body, whose hash is signed; without one it is not read, and no hash is signed
abbrev pub SignsAs : Signing → Option (List ℕ) → LinkState → LinkState → Status → Type 0
SignsAs signing None before after status = Tells (signed_line signing None) before after status
SignsAs signing (Some content_type) before after status = Turns (IsSigned signing content_type) IsTooLong before after status

-- what `sign` did with a console, by the status that it ended with
abbrev pub Signs : Signing → LinkState → LinkState → Status → Type 0
Signs signing before after status = SignsAs signing signing.content_type before after status
