-- The body of a reply is its last line.
use Rattle.std.proofs.Common.{◌≡◌, ℕ, Bool, List, [], ◌∷◌, ◌++◌, length, codes, decimal, if◌then◌else◌, refl, append_assoc}
use Rattle.std.specs.List.{Contains}
use Rattle.farm_asks.specs.Replies.{answer_of}
use Rattle.farm_asks.specs.declared.reply.Reply.{Reply}
use Rattle.api_routes.specs.ReplyText.{reply_text, line, phrase}
use Rattle.farm_bulk.specs.Replies.{IsLastLine}

joined : (before head body : List ℕ) → before ++ ((head ++ 13 ∷ 10 ∷ []) ++ body) ≡ (before ++ (head ++ 13 ∷ [])) ++ 10 ∷ body
joined before head body = simp append_assoc refl

pub IsLastLine-body : (before : List ℕ) (reply : Reply) (closes : Bool) → (Contains (answer_of reply).body 10 → ⊥) → IsLastLine (before ++ reply_text reply closes) (answer_of reply).body
unfolding reply_text
IsLastLine-body before reply closes plain =
    let answer = answer_of reply in
    let head =
    ((line (((codes "HTTP/1.1 " ++ decimal answer.status) ++ codes " ") ++ phrase answer.status) ++ (if closes then line (codes "Connection: close") else []))
    ++ line (codes "Content-Length: " ++ decimal (length answer.body))) ++ line (codes "Content-Type: application/json") in
    record {
      front = before ++ (head ++ 13 ∷ []);
      splits = joined before head answer.body;
      last = plain;
    }
