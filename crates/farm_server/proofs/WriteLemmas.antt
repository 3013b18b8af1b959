-- Replies that are written part by part.
use Rattle.std.proofs.Common.{◌≡◌, ℕ, ◌<◌, Bool, List, ◌++◌, length, Option, sym, ap, ◌∙◌, append_assoc, arith, length-append}
use Rattle.std.proofs.KnownBytes.{Appends-trans}
use Rattle.std.specs.Io.KnownBytes.{Appends}
use Rattle.http_wire.specs.Whole.{AppendsFront}
use Rattle.farm_asks.specs.declared.reply.Reply.{Reply}
use Rattle.farm_asks.specs.Replies.{answer_of}
use Rattle.api_routes.specs.ReplyText.{head_text, reply_text}

-- a front of the first of two texts is a front of both
pub AppendsFront-first : (before now : Option (List ℕ)) (first second : List ℕ) → AppendsFront before now first → AppendsFront before now (first ++ second)
AppendsFront-first before now first second front =
    let some : 0 < length (front.1.0 ++ second) = omega (arith, front.1.1, length-append front.1.0 second) in
    (front.0, (front.1.0 ++ second, some, ap (λ xs. xs ++ second) front.1.2 ∙ append_assoc front.0 front.1.0 second), front.2)

-- all of the first text, and then a front of the second
pub AppendsFront-second : (before between now : Option (List ℕ)) (first second : List ℕ) → Appends before between first → AppendsFront between now second → AppendsFront before now (first ++ second)
AppendsFront-second before between now first second done front =
    (first ++ front.0, (front.1.0, front.1.1, ap (λ xs. first ++ xs) front.1.2 ∙ sym (append_assoc first front.0 front.1.0)), Appends-trans before between now first front.0 done front.2)

-- a reply is its head and its body
pub reply_text-parts : (reply : Reply) (closes : Bool) (head body : List ℕ) → head ≡ head_text (answer_of reply).status closes (length (answer_of reply).body) → body ≡ (answer_of reply).body → head ++ body ≡ reply_text reply closes
unfolding reply_text
reply_text-parts reply closes head body is_head is_body =
    ap (λ (h : List ℕ). h ++ body) is_head ∙ ap (λ (b : List ℕ). head_text (answer_of reply).status closes (length (answer_of reply).body) ++ b) is_body
