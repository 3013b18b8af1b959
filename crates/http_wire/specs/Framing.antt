-- The length of a request's body, from the fields of its head (RFC 9112, section 6).
use Rattle.std.specs.Prelude.{ℕ, Bool, ◌&&◌, List, [], ◌∷◌, length, if◌then◌else◌, nat_lt, nat_le, codes, Result, Ok, Err, map}
use Rattle.std.specs.List.{list_all}
use Rattle.std.specs.Char.{is_ascii_digit}
use Rattle.std.specs.Str.Parse.{digits_value}
use Rattle.httparse.specs.Grammar.{RequestHead}
use Rattle.httparse.specs.Spans.{name_and_value}
use Rattle.http1.specs.Fields.{Header, values_named}
use Rattle.http_wire.specs.declared.head.TheConstants.{BODY_LIMIT}
use Rattle.http_wire.specs.declared.message.Wire.{Wire}
use Rattle.http_wire.specs.declared.message.Wire.TheVariants.{HeadFault, NoLength, BodyTooLarge}

-- the greatest length of a body: 1,048,576 bytes, by a law
abbrev pub body_limit : ℕ
body_limit = BODY_LIMIT

-- the names and the values of a head's fields
abbrev pub named_fields : RequestHead → List Header
named_fields h = map name_and_value h.fields

-- 1*DIGIT, of any value
abbrev pub is_digits : List ℕ → Bool
is_digits value = nat_lt 0 (length value) && list_all is_ascii_digit value

-- the number that one Content-Length says
abbrev pub length_of : List ℕ → Result ℕ Wire
length_of value =
    if is_digits value then (if nat_le (digits_value 10 value) body_limit then Ok (digits_value 10 value) else Err BodyTooLarge)
    else Err HeadFault

-- the number that the values of Content-Length say
abbrev pub stated_length : List (List ℕ) → Result ℕ Wire
stated_length [] = Ok 0
stated_length (value ∷ []) = length_of value
stated_length (value ∷ another ∷ values) = Err HeadFault

-- the length of the body, where no value of Transfer-Encoding stands, or why there is none
abbrev pub length_unless : List (List ℕ) → List (List ℕ) → Result ℕ Wire
length_unless [] lengths = stated_length lengths
length_unless (coding ∷ codings) lengths = Err NoLength

-- the length of the body under these fields, or why there is none
abbrev pub body_length : List Header → Result ℕ Wire
body_length fields = length_unless (values_named (codes "transfer-encoding") fields) (values_named (codes "content-length") fields)
