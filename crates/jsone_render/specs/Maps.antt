-- Maps of a template without an operator (JSON-e, "Object Keys"; that two equal keys are a fault is this project's).
use Rattle.std.specs.Prelude.{◌≡◌, ℕ, ◌+◌, Bool, false, ◌&&◌, ◌==◌, if◌then◌else◌, is_some, List, [], ◌∷◌, drop, Option, Some, None}
use Rattle.std.specs.Bool.{MatchBool}
use Rattle.farm_text.specs.Document.{Document, object, Members, no_members, member, member_at, put}
use Rattle.jsone_values.specs.declared.faults.Fault.TheVariants.{KeyTwice}
use Rattle.jsone_expr.specs.Tokens.{is_letter}
use Rattle.jsone_render.specs.Outcomes.{Outcome, faulted, pay, After}
use Rattle.jsone_render.specs.Texts.{Written}

abbrev pub keys_of : Members → List (List ℕ)
keys_of no_members = []
keys_of (member k d ms) = k ∷ keys_of ms

-- `$`, and a letter or `_` behind it
abbrev pub is_operator_key : List ℕ → Bool
is_operator_key [] = false
is_operator_key (a ∷ []) = false
is_operator_key (a ∷ b ∷ bs) = (a == 36) && is_letter b

-- `$$` and a letter or `_` behind it stand for a key that begins with one `$`
abbrev pub loses_dollar : List ℕ → Bool
loses_dollar [] = false
loses_dollar (a ∷ bs) = (a == 36) && is_operator_key bs

abbrev pub key_text : List ℕ → List ℕ
key_text key = if loses_dollar key then drop 1 key else key

-- the members that stay, in turn: their keys are rendered as texts, and no two of them are equal
abbrev pub KeysRender : ℕ → Members → List (List ℕ × Document) → List Document → ℕ → Outcome (Option Document) → Type 0
KeysRender count ms [] scopes n o = o ≡ pay n (1 + count) (Some (object ms))
KeysRender count ms (m ∷ more) scopes n o =
    After (Written (key_text m.0) scopes n) (λ key k p. MatchBool (is_some (member_at key ms)) (p ≡ faulted KeyTwice []) (KeysRender count (put key m.1 ms) more scopes k p)) o

-- a value at its key, unless it is removed
abbrev pub kept_at : List ℕ → Option Document → List (List ℕ × Document)
kept_at key (Some d) = (key, d) ∷ []
kept_at key None = []
