-- Records with one more behind them.
use Rattle.std.proofs.Common.{◌≡◌, ℕ, ◌+◌, ◌<◌, ◌^◌, List, [], ◌∷◌, ◌++◌, length, sym, ◌∙◌, ap, arith, append_assoc, length-append}
use Rattle.std.proofs.lemmas.List.{append-nil}
use Rattle.std.specs.Int.{w32, to_be_bytes}
use Rattle.disk_journal.specs.Records.{sized, records, AreSized}

pub length-sized : (body : List ℕ) → length (sized body) ≡ 4 + length body
length-sized body = length-append (to_be_bytes w32 (length body)) body

pub records-push : (bodies : List (List ℕ)) (body : List ℕ) → records (bodies ++ body ∷ []) ≡ records bodies ++ 165 ∷ sized body
records-push [] body = ap (λ (l : List ℕ). 165 ∷ l) (append-nil (sized body))
records-push (b ∷ bodies) body = ap (λ (l : List ℕ). 165 ∷ (sized b ++ l)) (records-push bodies body) ∙ ap (λ (l : List ℕ). 165 ∷ l) (sym (append_assoc (sized b) (records bodies) (165 ∷ sized body)))

-- an open record behind those of these bodies
pub opened : (head : List ℕ) (bodies : List (List ℕ)) (body rest : List ℕ) → head ++ records bodies ++ 165 ∷ (sized body ++ rest) ≡ head ++ records (bodies ++ body ∷ []) ++ rest
opened head bodies body rest =
    sym (append_assoc (head ++ records bodies) (165 ∷ sized body) rest)
    ∙ ap (λ (l : List ℕ). l ++ rest) (append_assoc head (records bodies) (165 ∷ sized body) ∙ ap (λ (l : List ℕ). head ++ l) (sym (records-push bodies body)))

pub sized-push : (bodies : List (List ℕ)) (body : List ℕ) → AreSized bodies → length body < 2 ^ 32 → AreSized (bodies ++ body ∷ [])
sized-push [] body sizes size = (size, tt)
sized-push (b ∷ bodies) body sizes size = (sizes.0, sized-push bodies body sizes.1 size)

pub length-records-push : (bodies : List (List ℕ)) (body : List ℕ) → length (records (bodies ++ body ∷ [])) ≡ length (records bodies) + (5 + length body)
length-records-push bodies body =
    ap length (records-push bodies body) ∙ length-append (records bodies) (165 ∷ sized body) ∙ omega (arith, length-sized body)

pub sized-front : (bodies : List (List ℕ)) (body : List ℕ) → AreSized (bodies ++ body ∷ []) → AreSized bodies
sized-front [] body sizes = tt
sized-front (b ∷ bodies) body sizes = (sizes.0, sized-front bodies body sizes.1)

pub sized-last : (bodies : List (List ℕ)) (body : List ℕ) → AreSized (bodies ++ body ∷ []) → length body < 2 ^ 32
sized-last [] body sizes = sizes.0
sized-last (b ∷ bodies) body sizes = sized-last bodies body sizes.1
