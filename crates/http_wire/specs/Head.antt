-- What stands at the front of a stream of bytes: a request head (RFC 9112, sections 2 and 3, by httparse's grammar, whose heads include the empty lines before them), or why none does.
use Rattle.std.specs.Prelude.{◌≡◌, ℕ, ◌-◌, ◌<◌, ◌≤◌, List, [], ◌∷◌, length, take, slice_index, replicate}
use Rattle.std.specs.List.{concat}
use Rattle.httparse.specs.Ascii.{line_feed, carriage_return}
use Rattle.httparse.specs.Grammar.{RequestHead, print_request, ReadsRequest, NeverHasRequest}
use Rattle.http_wire.specs.declared.head.TheConstants.{HEAD_LIMIT}

-- the greatest length of a head, with the empty lines before it: 16,384 bytes, by a law
abbrev pub head_limit : ℕ
head_limit = HEAD_LIMIT

-- the bytes begin with the head h, which fits, and rest follows
pub record HasHead (bytes : List ℕ) (h : RequestHead) (rest : List ℕ) : Type 0 where
  pub reads : ReadsRequest bytes h rest
  pub fits : length (print_request h) ≤ head_limit

-- a line ends after n bytes
abbrev pub EndsLine : List ℕ → ℕ → Type 0
EndsLine bytes n = (0 < n) × (n ≤ length bytes) × (slice_index bytes (n - 1) ≡ line_feed)

-- the line that ends after n bytes makes it certain that no head comes
pub record HasFault (bytes : List ℕ) (n : ℕ) : Type 0 where
  pub fits : n ≤ head_limit
  pub line : EndsLine bytes n
  pub never : NeverHasRequest (take n bytes)

-- the bytes hold neither a head nor such a line
pub record IsOpen (bytes : List ℕ) : Type 0 where
  pub no_head : (h : RequestHead) (rest : List ℕ) → ¬ (HasHead bytes h rest)
  pub no_fault : (n : ℕ) → ¬ (HasFault bytes n)

-- empty lines alone, each of them a carriage return and a line feed (RFC 9112, section 2.2)
abbrev pub IsEmptyLines : List ℕ → Type 0
IsEmptyLines bytes = (count : ℕ) × (bytes ≡ concat (replicate count (carriage_return ∷ line_feed ∷ [])))

-- what comes next: a head and what follows it, a fault, too many bytes without either, or the end of the input before or inside a message
pub data Next : Type 0 where
  message : RequestHead → List ℕ → Next
  fault too_large ended inside : Next

-- that is what comes next in these bytes, which are all of the input
abbrev pub Begins : List ℕ → Next → Type 0
Begins bytes (message h rest) = HasHead bytes h rest
Begins bytes fault = (n : ℕ) × HasFault bytes n
Begins bytes too_large = (head_limit ≤ length bytes) × IsOpen bytes
Begins bytes ended = (length bytes < head_limit) × IsOpen bytes × IsEmptyLines bytes
Begins bytes inside = (length bytes < head_limit) × IsOpen bytes × ¬ IsEmptyLines bytes
