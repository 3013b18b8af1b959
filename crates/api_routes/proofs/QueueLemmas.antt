-- The names of queues and of hooks are texts.
use Rattle.std.proofs.Common.{All, ℕ, ◌<◌, List, ◌∷◌, inl, inr, get_or, length, sym, subst, arith}
use Rattle.std.specs.Str.{IsUtf8}
use Rattle.std.proofs.lemmas.List.Elements.{All-append, All-cons, All-get_or, All-weaker}
use Rattle.std.proofs.lemmas.Str.{IsUtf8-from_ascii}
use Rattle.std.proofs.lemmas.Str.Ascii.{IsAscii-from_reads}
use Rattle.call_rules.specs.HookNames.{IsHookByte, IsHookGroupId, IsHookId}
use Rattle.task_types.specs.Forms.{IsIdentifierByte, queue_name}
use Rattle.task_defs.specs.Values.{IsQueue}

low : (b : ℕ) → IsIdentifierByte b → b < 128
low b (inl (inl (inl h))) = omega arith
low b (inl (inl (inr h))) = omega arith
low b (inl (inr h)) = omega arith
low b (inr (inl h)) = omega arith
low b (inr (inr h)) = omega arith

pub queue_text : (name : List ℕ) → IsQueue name → IsUtf8 name
queue_text name (provisioner, worker, p, w, is) =
    let first = All-weaker IsIdentifierByte (λ b. b < 128) low provisioner p.bytes in
    let last = All-weaker IsIdentifierByte (λ b. b < 128) low worker w.bytes in
    let all = All-append (λ b. b < 128) provisioner (47 ∷ worker) first (All-cons (λ b. b < 128) 47 worker (omega arith) last) in
    let reads : (k : ℕ) → k < length (queue_name provisioner worker) → get_or (queue_name provisioner worker) k 0 < 128 = λ k within. All-get_or (λ b. b < 128) (queue_name provisioner worker) k 0 within all in
    subst IsUtf8 (sym is) (IsUtf8-from_ascii (queue_name provisioner worker) (IsAscii-from_reads (queue_name provisioner worker) (length (queue_name provisioner worker)) (omega arith) reads))

-- bytes below 128 are a text
low_text : (text : List ℕ) → All (λ b. b < 128) text → IsUtf8 text
low_text text all =
    let reads : (k : ℕ) → k < length text → get_or text k 0 < 128 = λ k within. All-get_or (λ b. b < 128) text k 0 within all in
    IsUtf8-from_ascii text (IsAscii-from_reads text (length text) (omega arith) reads)

low_hook : (b : ℕ) → IsHookByte b → b < 128
low_hook b (inl h) = low b h
low_hook b (inr h) = omega (arith, h)

pub group_text : (text : List ℕ) → IsHookGroupId text → IsUtf8 text
group_text text form = low_text text (All-weaker IsIdentifierByte (λ b. b < 128) low text form.bytes)

pub hook_text : (text : List ℕ) → IsHookId text → IsUtf8 text
hook_text text form = low_text text (All-weaker IsHookByte (λ b. b < 128) low_hook text form.bytes)
