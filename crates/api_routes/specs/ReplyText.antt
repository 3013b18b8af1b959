-- The bytes of a reply: a head of HTTP/1.1 (RFC 9112) and a JSON body.
use Rattle.std.specs.Prelude.{ℕ, List, [], ◌∷◌, ◌++◌, Bool, true, length, codes, decimal, if◌then◌else◌, ◌==◌}
use Rattle.http_wire.specs.declared.message.Wire.{Wire}
use Rattle.http_wire.specs.declared.message.Wire.TheVariants.{End, HeadFault, HeadTooLarge, NoLength, BodyTooLarge, EndedInside, ReadFault, NoMemory}
use Rattle.farm_text.specs.Document.{no_members}
use Rattle.farm_asks.specs.declared.reply.Answer.{Answer}
use Rattle.farm_asks.specs.declared.reply.Reply.{Reply}
use Rattle.farm_asks.specs.Replies.{answer_of, error_text}

-- a line, with its end
abbrev pub line : List ℕ → List ℕ
line text = text ++ 13 ∷ 10 ∷ []

-- the phrase of a status (RFC 9110, section 15, but 413 as RFC 7231, section 6.5.11, has it; 431: RFC 6585, section 5; 507: RFC 4918, section 11.5)
abbrev pub phrase : ℕ → List ℕ
phrase n =
    if n == 200 then codes "OK" else (
    if n == 400 then codes "Bad Request" else (
    if n == 401 then codes "Unauthorized" else (
    if n == 403 then codes "Forbidden" else (
    if n == 404 then codes "Not Found" else (
    if n == 409 then codes "Conflict" else (
    if n == 411 then codes "Length Required" else (
    if n == 413 then codes "Payload Too Large" else (
    if n == 431 then codes "Request Header Fields Too Large" else (
    if n == 500 then codes "Internal Server Error" else (
    if n == 503 then codes "Service Unavailable" else (
    if n == 507 then codes "Insufficient Storage" else (
    []))))))))))))

-- the head of a reply: its status, whether it closes the connection, and the length of its body
abbrev pub head_text : ℕ → Bool → ℕ → List ℕ
head_text status closes size =
    line (codes "HTTP/1.1 " ++ decimal status ++ codes " " ++ phrase status)
    ++ (if closes then line (codes "Connection: close") else [])
    ++ line (codes "Content-Length: " ++ decimal size)
    ++ line (codes "Content-Type: application/json")
    ++ line []

-- an answer as bytes
abbrev pub answer_text : Answer → Bool → List ℕ
answer_text answer closes = head_text answer.status closes (length answer.body) ++ answer.body

-- a reply as bytes
unfoldable pub reply_text : Reply → Bool → List ℕ
reply_text reply closes = answer_text (answer_of reply) closes

-- the answer to what is no request, or one that is not read
abbrev pub wire_answer : ℕ → List ℕ → List ℕ → Answer
wire_answer status code message = record { status = status; body = error_text code no_members message }

-- the wire's own reply, which closes the connection; there is none where the stream ends or fails
abbrev pub wire_text : Wire → List ℕ
wire_text HeadFault = answer_text (wire_answer 400 (codes "BadHead") (codes "not a request")) true
wire_text NoLength = answer_text (wire_answer 411 (codes "LengthRequired") (codes "a length is needed")) true
wire_text BodyTooLarge = answer_text (wire_answer 413 (codes "PayloadTooLarge") (codes "the body is too long")) true
wire_text HeadTooLarge = answer_text (wire_answer 431 (codes "HeadTooLarge") (codes "the head is too long")) true
wire_text End = []
wire_text EndedInside = []
wire_text ReadFault = []
wire_text NoMemory = []
