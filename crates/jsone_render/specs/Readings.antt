-- What is kept of a text that was read as an expression; for private clauses.
use Rattle.std.specs.Prelude.{◌≡◌, ℕ, List, [], ◌∷◌, ◌++◌}
use Rattle.jsone_expr.specs.Texts.{IsParsed, IsTooDeep}
use Rattle.jsone_eval.specs.Ends.{AreEnds}
use Rattle.jsone_render.specs.declared.found.Found.{Found}
use Rattle.jsone_render.specs.declared.found.Found.TheVariants.{Tree as a_tree, TooDeep as too_deep, NoTree as no_tree}
use Rattle.jsone_render.specs.Expressions.{HasTree}

-- what was found is what the text has
abbrev pub IsFound : List ℕ → Found → Type 0
IsFound source (a_tree nodes ends) = IsParsed source nodes.items × AreEnds nodes.items ends.items
IsFound source too_deep = IsTooDeep source
IsFound source no_tree = ¬ HasTree source

-- the first byte, or else the `}` behind the bytes
abbrev pub first_or_curly : List ℕ → ℕ
first_or_curly [] = 125
first_or_curly (b ∷ bs) = b

-- the bytes begin with the text, and end there, or a `}` is next
abbrev pub Begins : List ℕ → List ℕ → Type 0
Begins text bytes = (rest : List ℕ) × (bytes ≡ text ++ rest) × (first_or_curly rest ≡ 125)
