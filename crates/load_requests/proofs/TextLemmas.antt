-- A text that was made is the text that is wanted.
use Rattle.std.proofs.Common.{◌≡◌, ℕ, List, Result, Ok, Err, IfOk, ◌∙◌, String, string_bytes}
use Rattle.std.specs.declared.alloc.Global.{Global}

pub IfOk-bytes : {E : Type 0} (made : Result (String Global) E) (text wanted : List ℕ) → IfOk made (λ t. string_bytes t ≡ text) → text ≡ wanted → IfOk made (λ t. string_bytes t ≡ wanted)
IfOk-bytes (Ok t) text wanted is same = is ∙ same
IfOk-bytes (Err e) text wanted is same = is
