-- The members of a map without an operator, one after the other.
use Rattle.std.proofs.Common.{◌≡◌, ℕ, ◌+◌, List, [], Option, Some, sym, subst}
use Rattle.farm_text.specs.Document.{Document, object, Members}
use Rattle.jsone_render.specs.Maps.{KeysRender}
use Rattle.jsone_render.specs.Outcomes.{Outcome, pay}

abbrev pub Rest : Type 0
Rest = List (List ℕ × Document)

pub no_key_left : (Whole : Outcome (Option Document) → Type 0) (count : ℕ) (ms : Members) (rest : Rest) (scopes : List Document) (n : ℕ) → rest ≡ []
    → ((o : Outcome (Option Document)) → KeysRender count ms rest scopes n o → Whole o) → (o : Outcome (Option Document)) → o ≡ pay n (1 + count) (Some (object ms)) → Whole o
no_key_left Whole count ms rest scopes n e leads o h = leads o (subst (λ l. KeysRender count ms l scopes n o) (sym e) h)
