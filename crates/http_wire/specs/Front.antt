-- What the bytes held begin with, as the reader's steps tell it.
use Rattle.std.specs.Prelude.{◌≡◌, ℕ, ◌<◌, ◌≤◌, ◌⊎◌, List, [], ◌++◌, length, take}
use Rattle.httparse.specs.declared.spans.HeaderSpan.{HeaderSpan}
use Rattle.httparse.specs.Grammar.{RequestHead, ReadsRequest, HasNoRequest, NeverHasRequest}
use Rattle.httparse.specs.Spans.{IsRequestWithin, IsRequestOf}
use Rattle.http_wire.specs.Head.{head_limit, HasFault, IsOpen}
use Rattle.http_wire.specs.declared.head.HeadAt.{HeadAt}
use Rattle.http_wire.specs.declared.head.Lines.{Lines}
use Rattle.http_wire.specs.declared.head.Lines.TheVariants as Line
use Rattle.http_wire.specs.declared.head.Front.{Front}
use Rattle.http_wire.specs.declared.head.Front.TheVariants as At

-- no head is there yet, and some bytes would make it one
pub record IsUndecided (bytes : List ℕ) : Type 0 where
  pub no_head : HasNoRequest bytes
  pub more : List ℕ
  pub head : RequestHead
  pub rest : List ℕ
  pub reads : ReadsRequest (bytes ++ more) head rest

-- whole lines are a head with these spans, or can never begin with one, or are neither
abbrev pub Judges : List ℕ → List HeaderSpan → Lines → Type 0
Judges lines spans (Line.Head request) = IsRequestWithin lines spans request × IsRequestOf lines spans request
Judges lines spans Line.Fault = (0 < length lines) × NeverHasRequest lines
Judges lines spans Line.Open = (lines ≡ []) ⊎ IsUndecided lines

-- the first `at.lines` bytes begin with the head that the spans cover
pub record IsHeadAt (held : List ℕ) (spans : List HeaderSpan) (at : HeadAt) : Type 0 where
  pub inside : at.lines ≤ length held
  pub fits : at.lines ≤ head_limit
  pub within : IsRequestWithin (take at.lines held) spans at.request
  pub head : IsRequestOf (take at.lines held) spans at.request

-- the same of all bytes held, whatever follows them
abbrev pub IsFront : List ℕ → List HeaderSpan → Front → Type 0
IsFront held spans (At.Head at) = IsHeadAt held spans at
IsFront held spans At.Fault = (n : ℕ) × HasFault held n
IsFront held spans At.TooLarge = (head_limit ≤ length held) × ((more : List ℕ) → IsOpen (held ++ more))
IsFront held spans At.Short = (length held < head_limit) × IsOpen held
