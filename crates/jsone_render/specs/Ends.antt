-- Where a byte of an expression stands: in how many brackets, and whether in a text in quotes.
use Rattle.std.specs.Prelude.{ℕ, ◌+◌, ◌-◌, Bool, ◌==◌, ◌||◌, if◌then◌else◌, Option, Some, None}
use Rattle.jsone_expr.specs.Tokens.{is_quote}
use Rattle.jsone_render.specs.declared.ends.Place.{Place}
use Rattle.jsone_render.specs.declared.ends.Place.TheVariants.{Outside, Quoted}

-- `(`, `[` or `{`
abbrev pub opens : ℕ → Bool
opens b = (b == 40) || ((b == 91) || (b == 123))

-- `)`, `]` or `}`
abbrev pub shuts : ℕ → Bool
shuts b = (b == 41) || ((b == 93) || (b == 125))

-- how many brackets are open
abbrev pub opened : Place → ℕ
opened (Outside depth) = depth
opened (Quoted quote depth) = depth

-- one bracket fewer, if there is one
abbrev pub shut : ℕ → Option Place
shut depth = if depth == 0 then None else Some (Outside (depth - 1))

-- behind a byte outside texts
abbrev pub beside : ℕ → ℕ → Option Place
beside b depth = if is_quote b then Some (Quoted b depth) else (if opens b then Some (Outside (depth + 1)) else (if shuts b then shut depth else Some (Outside depth)))

-- behind one more byte: nowhere, where a bracket ends that did not begin
abbrev pub behind : ℕ → Place → Option Place
behind b (Outside depth) = beside b depth
behind b (Quoted quote depth) = Some (if b == quote then Outside depth else Quoted quote depth)
