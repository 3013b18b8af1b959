-- Texts of a template, in which `${e}` is the value of an expression and `$${` is `${` (JSON-e, "String Interpolation").
use Rattle.std.specs.Prelude.{◌≡◌, ℕ, ◌+◌, ◌-◌, ◌<◌, ◌≤◌, Bool, false, true, ◌==◌, codes, List, [], ◌∷◌, ◌++◌, length, take, slice_index, Option, Some, Result, Ok, Err}
use Rattle.std.specs.Str.Pattern.{LacksTextAt}
use Rattle.farm_text.specs.Document.{Document, null, text}
use Rattle.jsone_values.specs.declared.faults.Fault.{Fault}
use Rattle.jsone_values.specs.declared.faults.Fault.TheVariants.{Syntax}
use Rattle.jsone_values.specs.Builtins.{text_of}
use Rattle.jsone_values.specs.Splits.{IsFirstCut}
use Rattle.jsone_render.specs.Outcomes.{Outcome, given, faulted, pay, After}
use Rattle.jsone_render.specs.Expressions.{HasTree, Evaluated}

-- what a text has up to its next `${`
pub data Part : Type 0 where
  -- no `${` follows
  last : List ℕ → Part
  -- `$` and all before it: it is a `$${`, which gives `${`
  escaped : List ℕ → Part
  -- all before `${e}`, and e
  valued : List ℕ → List ℕ → Part
  -- all before a `${` behind which no `}` ends an expression
  unended : List ℕ → Part

abbrev pub ends_with_dollar : List ℕ → Bool
ends_with_dollar bs = slice_index bs (length bs - 1) == 36

abbrev pub opening : List ℕ
opening = codes "${"

-- the expression is the shortest text before a `}` that has a tree
pub record IsShortest (behind source : List ℕ) : Type 0 where
  pub has_tree : HasTree source
  pub first : (i : ℕ) → i < length source → slice_index behind i ≡ 125 → ¬ HasTree (take i behind)

-- no `}` ends an expression
abbrev pub NoneEnds : List ℕ → Type 0
NoneEnds behind = (i : ℕ) → i < length behind → slice_index behind i ≡ 125 → ¬ HasTree (take i behind)

-- the parts of a text in turn; they need not go past one that is a fault
abbrev pub AreParts : List ℕ → List Part → Type 0
AreParts bs [] = Unit {0}
AreParts bs (last front ∷ parts) = (front ≡ bs) × ((i : ℕ) → i ≤ length bs → LacksTextAt opening bs i) × (parts ≡ [])
AreParts bs (escaped front ∷ parts) = (rest : List ℕ) × IsFirstCut opening bs front rest × (ends_with_dollar front ≡ true) × AreParts rest parts
AreParts bs (valued front source ∷ parts) = (rest : List ℕ) × IsFirstCut opening bs front (source ++ 125 ∷ rest) × (ends_with_dollar front ≡ false) × IsShortest (source ++ 125 ∷ rest) source × AreParts rest parts
AreParts bs (unended front ∷ parts) =
    (rest : List ℕ) × IsFirstCut opening bs front rest × (ends_with_dollar front ≡ false) × NoneEnds rest × (parts ≡ [])

-- null gives nothing, and other values their text; a list and a map have none
abbrev pub shown : Document → Result (List ℕ) Fault
shown null = Ok []
shown d = text_of d

abbrev pub as_outcome : ℕ → Result (List ℕ) Fault → Outcome (List ℕ)
as_outcome spent (Ok bs) = given bs spent
as_outcome spent (Err f) = faulted f []

-- the text of the value of an expression
abbrev pub Valued : List ℕ → List Document → ℕ → Outcome (List ℕ) → Type 0
Valued source scopes n o = After (Evaluated source scopes n) (λ d m p. p ≡ as_outcome m (shown d)) o

-- the parts in turn, behind what they gave so far, up to the last one or a fault
abbrev pub PartsRender : List ℕ → List Part → List Document → ℕ → Outcome (List ℕ) → Type 0
PartsRender done [] scopes n o = ⊥
PartsRender done (last front ∷ parts) scopes n o = o ≡ given (done ++ front) n
PartsRender done (escaped front ∷ parts) scopes n o = PartsRender ((done ++ front) ++ codes "{") parts scopes n o
PartsRender done (valued front source ∷ parts) scopes n o =
    After (Valued source scopes n) (λ bs m. PartsRender ((done ++ front) ++ bs) parts scopes m) o
PartsRender done (unended front ∷ parts) scopes n o = o ≡ faulted Syntax []

abbrev pub Interpolated : List ℕ → List Document → ℕ → Outcome (List ℕ) → Type 0
Interpolated bs scopes n o = (parts : List Part) × AreParts bs parts × PartsRender [] parts scopes n o

-- a text costs 1 and the bytes of its value
abbrev pub Written : List ℕ → List Document → ℕ → Outcome (List ℕ) → Type 0
Written bs scopes n o = After (Interpolated bs scopes n) (λ cs m p. p ≡ pay m (1 + length cs) cs) o

abbrev pub TextRenders : List ℕ → List Document → ℕ → Outcome (Option Document) → Type 0
TextRenders bs scopes n o = After (Written bs scopes n) (λ cs m p. p ≡ given (Some (text cs)) m) o
