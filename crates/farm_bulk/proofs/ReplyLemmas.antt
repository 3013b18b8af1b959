-- The last line of a text.
use Rattle.std.proofs.Common.{Result, Ok, Err, Option, IfOk, ◌≡◌, ℕ, ◌+◌, ◌-◌, ◌<◌, List, ◌∷◌, Some, length, take, drop, get_or, sym, ◌∙◌, arith, take-append-drop, take_all, length-drop, get_or-drop, add-one, subst}
use Rattle.std.proofs.lemmas.Bool.{eq-eqb}
use Rattle.std.specs.List.{Contains}
use Rattle.std.proofs.Math.Seq.{drop-cons}
use Rattle.std.proofs.lemmas.List.{get_or_default}
use Rattle.farm_text.specs.Document.{Document, data_of}
use Rattle.farm_text.specs.Reading.{IsJson}
use Rattle.load_requests.specs.declared.requests.ClaimedRun.{ClaimedRun}
use Rattle.memchr.specs.Find.{NoneAfter, Passes, IsLastByte, is_byte}
use Rattle.farm_bulk.specs.Replies.{IsLastLine, Tells, IsTold}

-- behind the last line feed there is none
no_feed : (text : List ℕ) (place : ℕ) → NoneAfter (Passes (is_byte 10) text) 0 (length text) place → Contains (drop (place + 1) text) 10 → ⊥
no_feed text place last has =
    let within : place + 1 + has.0 < length text = omega (arith, has.1, length-drop (place + 1) text) in
    let found : get_or text (place + 1 + has.0) 10 ≡ 10 = sym (get_or-drop (place + 1) text has.0 10) ∙ has.2 in
    last.after (place + 1 + has.0) (omega arith) within (eq-eqb (get_or text (place + 1 + has.0) 0) 10 (get_or_default text (place + 1 + has.0) 0 10 within ∙ found))

-- what stands behind the last line feed
pub IsLastLine-behind : (text : List ℕ) (place : ℕ) → IsLastByte (is_byte 10) text (Some place) → IsLastLine text (take (length text - (place + 1)) (drop (place + 1) text))
IsLastLine-behind text place found =
    let rest : take (length text - (place + 1)) (drop (place + 1) text) ≡ drop (place + 1) text = take_all (length text - (place + 1)) (drop (place + 1) text) (omega (arith, length-drop (place + 1) text)) in
    let within : place < length text = found.0.high in
    let feed : get_or text place 0 ≡ 10 = grind (arith, found.1) in
    let cut : drop place text ≡ 10 ∷ drop (place + 1) text = rw (add-one, ← feed) (drop-cons text place 0 within) in
    record {
      front = take place text;
      splits = rw (rest, ← cut) (sym (take-append-drop place text));
      last = λ has. no_feed text place found.0 (subst (λ line. Contains line 10) rest has);
    }

-- what a document tells that was read behind the last line feed is told
pub IfOk-told : {E : Type 0} (written body : List ℕ) (said : Document) (claimed : Result (Option ClaimedRun) E) → IsLastLine written body → IsJson body (data_of said) → IfOk claimed (Tells said) → IfOk claimed (IsTold written)
IfOk-told written body said (Ok run) line json tells = record { body = body; line = line; said = said; json = json; tells = tells }
IfOk-told written body said (Err e) line json tells = tells
