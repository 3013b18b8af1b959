-- The head of a reply, from its lines.
use Rattle.std.proofs.Common.{◌≡◌, ℕ, Bool, List, [], ◌++◌, if◌then◌else◌, codes, sym, ◌∙◌, ap, append_assoc}
use Rattle.std.specs.Fmt.{decimal}
use Rattle.api_routes.specs.ReplyText.{line, phrase, head_text}

pub head_text-from_lines : (status size : ℕ) (closes : Bool) (empty first second third all : List ℕ) → empty ≡ [] → first ≡ empty ++ line (codes "HTTP/1.1 " ++ decimal status ++ codes " " ++ phrase status) → second ≡ first ++ (if closes then line (codes "Connection: close") else []) → third ≡ second ++ line (codes "Content-Length: " ++ decimal size) → all ≡ third ++ (line (codes "Content-Type: application/json") ++ line []) → all ≡ head_text status closes size
head_text-from_lines status size closes empty first second third all e a b c d =
    let one : first ≡ line (codes "HTTP/1.1 " ++ decimal status ++ codes " " ++ phrase status) = a ∙ ap (λ (s : List ℕ). s ++ line (codes "HTTP/1.1 " ++ decimal status ++ codes " " ++ phrase status)) e in
    let two = b ∙ ap (λ (s : List ℕ). s ++ (if closes then line (codes "Connection: close") else [])) one in
    let three = c ∙ ap (λ (s : List ℕ). s ++ line (codes "Content-Length: " ++ decimal size)) two in
    d ∙ (sym (append_assoc third (line (codes "Content-Type: application/json")) (line [])) ∙ ap (λ (s : List ℕ). s ++ line (codes "Content-Type: application/json") ++ line []) three)
