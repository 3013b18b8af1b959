-- The message that a head and a body make.
use Rattle.std.specs.Prelude.{ℕ, Bool, ◌||◌, ◌==◌, List, [], ◌∷◌, length, Option, Some, None, codes}
use Rattle.httparse.specs.Grammar.{RequestHead}
use Rattle.http1.specs.Fields.{Header, values_named, elements_named, has_option}
use Rattle.http_wire.specs.Framing.{named_fields}
use Rattle.http_wire.specs.declared.message.Message.{Message}

-- the first of the values, if there is one
abbrev pub first_of : List (List ℕ) → Option (List ℕ)
first_of [] = None
first_of (value ∷ values) = Some value

-- HTTP/1.0, or the option `close` in some Connection field (RFC 9112, section 9.3)
abbrev pub closes_after : ℕ → List Header → Bool
closes_after minor fields = (minor == 0) || has_option (codes "close") (elements_named (codes "connection") fields)

-- the message with this head and this body
abbrev pub message_of : RequestHead → List ℕ → Message
message_of h body = record {
  method = h.method;
  target = h.target;
  authorization = first_of (values_named (codes "authorization") (named_fields h));
  authorizations = length (values_named (codes "authorization") (named_fields h));
  content_type = first_of (values_named (codes "content-type") (named_fields h));
  body = body;
  closes = closes_after h.minor (named_fields h);
}
