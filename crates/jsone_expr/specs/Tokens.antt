-- The tokens of a text (JSON-e, "Language"; which bytes names, texts and marks are made of is this project's): spaces part them, and each is the longest that begins where it begins.
use Rattle.std.specs.Prelude.{◌≡◌, ℕ, ◌+◌, ◌-◌, ◌<◌, ◌≤◌, Bool, true, false, ◌||◌, if◌then◌else◌, ◌==◌, codes, List, [], ◌∷◌, length, take, drop, Option, Some, None, is_some, unwrap_or, ◌⊎◌}
use Rattle.std.specs.List.{list_all, prefix_len}
use Rattle.std.specs.Char.{is_ascii_digit, is_ascii_alphabetic}
use Rattle.std.specs.Map.{lookup}
use Rattle.std.specs.Str.{bytes_eq}
use Rattle.jsone_expr.specs.declared.marks.Operator.TheVariants.{Or, And, Within, Equal, NotEqual, Below, AtMost, Above, AtLeast, Plus, Minus, Times, Over, Power}
use Rattle.jsone_expr.specs.declared.marks.Literal.TheVariants.{True, False, Null}
use Rattle.jsone_expr.specs.declared.marks.Mark.TheVariants.{Bang, Dot, Comma, Colon, OpenRound, CloseRound, OpenSquare, CloseSquare, OpenCurly, CloseCurly, Unknown}
use Rattle.jsone_expr.specs.declared.tokens.Token.{Token}
use Rattle.jsone_expr.specs.declared.tokens.Token.TheVariants.{Digits as digits, Quoted as quoted, Word as word, Literal as literal_word, Operator as operator, Mark as mark}
use Rattle.jsone_expr.specs.declared.tokens.Word.{Word}
use Rattle.jsone_expr.specs.declared.tokens.Piece.{Piece}
use Rattle.jsone_expr.specs.Functions.{function_of}

-- the name is one of the functions
abbrev pub is_function : Word → Bool
is_function w = is_some w.function

-- a space, a tab, a line feed or a carriage return
abbrev pub is_space : ℕ → Bool
is_space b = (b == 32) || ((b == 9) || ((b == 10) || (b == 13)))

-- `"` or `'`
abbrev pub is_quote : ℕ → Bool
is_quote b = (b == 34) || (b == 39)

-- what a name begins with: a letter or `_`
abbrev pub is_letter : ℕ → Bool
is_letter b = is_ascii_alphabetic b || (b == 95)

abbrev pub is_word_byte : ℕ → Bool
is_word_byte b = is_letter b || is_ascii_digit b

-- the first such quote is the last byte
abbrev pub closes : ℕ → List ℕ → Bool
closes quote [] = false
closes quote (b ∷ bs) = if b == quote then length bs == 0 else closes quote bs

-- the words that are no names
abbrev pub words : List (List ℕ × Token)
words = (codes "in", operator Within) ∷ (codes "true", literal_word True) ∷ (codes "false", literal_word False) ∷ (codes "null", literal_word Null) ∷ []

abbrev pub symbols : List (List ℕ × Token)
symbols =
    (codes "||", operator Or) ∷ (codes "&&", operator And) ∷ (codes "==", operator Equal) ∷ (codes "!=", operator NotEqual)
    ∷ (codes "<=", operator AtMost) ∷ (codes ">=", operator AtLeast) ∷ (codes "**", operator Power) ∷ (codes "<", operator Below)
    ∷ (codes ">", operator Above) ∷ (codes "+", operator Plus) ∷ (codes "-", operator Minus) ∷ (codes "*", operator Times) ∷ (codes "/", operator Over)
    ∷ (codes "!", mark Bang) ∷ (codes ".", mark Dot) ∷ (codes ",", mark Comma) ∷ (codes ":", mark Colon) ∷ (codes "(", mark OpenRound)
    ∷ (codes ")", mark CloseRound) ∷ (codes "[", mark OpenSquare) ∷ (codes "]", mark CloseSquare) ∷ (codes "{", mark OpenCurly) ∷ (codes "}", mark CloseCurly) ∷ []

-- the token that a word is, which stands at this place
abbrev pub word_token : ℕ → List ℕ → Token
word_token at bytes = unwrap_or (lookup (bytes_eq bytes) words) (word (record { span = record { from = at; to = at + length bytes }; function = function_of bytes }))

abbrev pub only_if : Bool → Token → Option Token
only_if true x = Some x
only_if false x = None

-- the token that these bytes are, all of them, where they stand at this place: digits, a text in quotes (without them), a word or a symbol
abbrev pub token_at : ℕ → List ℕ → Option Token
token_at at [] = None
token_at at (b ∷ bs) =
    if is_ascii_digit b then only_if (list_all is_ascii_digit bs) (digits (record { from = at; to = at + length (b ∷ bs) }))
    else (if is_quote b then only_if (closes b bs) (quoted (record { from = at + 1; to = at + length bs }))
    else (if is_letter b then only_if (list_all is_word_byte bs) (word_token at (b ∷ bs))
    else lookup (bytes_eq (b ∷ bs)) symbols))

-- these bytes begin, at this place, with a token of this length, and with none that is longer
pub record IsLongest (at : ℕ) (bytes : List ℕ) (x : Token) (n : ℕ) : Type 0 where
  pub within : n ≤ length bytes
  pub spelled : token_at at (take n bytes) ≡ Some x
  pub longest : (m : ℕ) → n < m → m ≤ length bytes → token_at at (take m bytes) ≡ None

-- these bytes begin with no token
abbrev pub BeginsNone : ℕ → List ℕ → Type 0
BeginsNone at bytes = (n : ℕ) → n ≤ length bytes → token_at at (take n bytes) ≡ None

-- the place behind the spaces that stand from a place on
abbrev pub behind_spaces : List ℕ → ℕ → ℕ
behind_spaces text at = at + prefix_len is_space (drop at text)

-- the piece is the longest token at its place
pub record IsToken (text : List ℕ) (p : Piece) : Type 0 where
  pub ordered : p.span.from ≤ p.span.to
  pub longest : IsLongest p.span.from (drop p.span.from text) p.token (p.span.to - p.span.from)

-- no token begins at the piece, which is all of the text from there on
pub record IsUnknown (text : List ℕ) (p : Piece) : Type 0 where
  pub within : p.span.from < length text
  pub none : BeginsNone p.span.from (drop p.span.from text)
  pub token : p.token ≡ mark Unknown
  pub end : p.span.to ≡ length text

-- these are the tokens of the text from this place on; where no token begins, an unknown one ends them
abbrev pub AreTokens : List ℕ → ℕ → List Piece → Type 0
AreTokens text at [] = behind_spaces text at ≡ length text
AreTokens text at (p ∷ ps) = (p.span.from ≡ behind_spaces text at) × ((IsToken text p × AreTokens text p.span.to ps) ⊎ (IsUnknown text p × (ps ≡ [])))
