-- The functions of the language by their names (JSON-e, "Builtins", without those of fractions).
use Rattle.std.specs.Prelude.{ℕ, List, [], ◌∷◌, codes, Option}
use Rattle.std.specs.Map.{lookup}
use Rattle.std.specs.Str.{bytes_eq}
use Rattle.jsone_expr.specs.declared.functions.Function.{Function}
use Rattle.jsone_expr.specs.declared.functions.Function.TheVariants.{Min, Max, Abs, Len, Str, Number, Lowercase, Uppercase, Strip, StripLeft, StripRight, Split, Join, Range, TypeOf, Defined, FromNow}

abbrev pub functions : List (List ℕ × Function)
functions =
    (codes "min", Min) ∷ (codes "max", Max) ∷ (codes "abs", Abs) ∷ (codes "len", Len) ∷ (codes "str", Str) ∷ (codes "number", Number)
    ∷ (codes "lowercase", Lowercase) ∷ (codes "uppercase", Uppercase) ∷ (codes "strip", Strip) ∷ (codes "lstrip", StripLeft)
    ∷ (codes "rstrip", StripRight) ∷ (codes "split", Split) ∷ (codes "join", Join) ∷ (codes "range", Range) ∷ (codes "typeof", TypeOf)
    ∷ (codes "defined", Defined) ∷ (codes "fromNow", FromNow) ∷ []

-- the function of this name, if there is one
abbrev pub function_of : List ℕ → Option Function
function_of name = lookup (bytes_eq name) functions
