-- What is taken from a link is needed.
use Rattle.std.proofs.Common.{◌≡◌, ℕ, ◌+◌, ◌-◌, ◌<◌, ◌≤◌, ⊎_elim, inl, inr, min, Bool, true, false, List, [], ◌∷◌, ◌++◌, Option, Some, None, IfSome, Ok, length, take, drop, refl, sym, ap, ◌∙◌, subst, subst₂, arith, append_assoc, append-nil, length-append, length-drop, length-take-le, take-append-drop, take_all}
use Rattle.std.proofs.lemmas.List.{take-append-le, nil_from_length}
use Rattle.std.proofs.lemmas.Bool.{cases_lt}
use Rattle.std.specs.Io.KnownBytes.{prepend_known, Keeps, Consumes}
use Rattle.httparse.specs.Grammar.{RequestHead, print_request}
use Rattle.httparse.specs.declared.spans.HeaderSpan.{HeaderSpan}
use Rattle.http_wire.specs.declared.head.HeadAt.{HeadAt}
use Rattle.http_wire.specs.declared.message.Message.{Message}
use Rattle.http_wire.specs.Framing.{body_length}
use Rattle.http_wire.specs.Front.{IsHeadAt}
use Rattle.http_wire.specs.Head.{head_limit, HasHead, IsOpen, IsEmptyLines, ended, inside}
use Rattle.http_wire.specs.Needed.{IsUnfinished, LosesUnfinished, LosesFew, TakesTo, TakesInto, GrowsOpen, GrowsNeeded, TakesLacking}
use Rattle.http_wire.specs.Whole.{piece_size, LosesWithin}
use Rattle.http_wire.specs.Stream.{Gives, stops}
use Rattle.http_wire.specs.declared.message.Wire.TheVariants.{EndedInside}
use Rattle.http_wire.proofs.EmptyLines.{is_pairs, empty_lines_meaning}
use Rattle.http_wire.proofs.HeadLemmas.{head_line, take_past}
use Rattle.http_wire.proofs.KnownLemmas.{Consumes-held}
use Rattle.http_wire.proofs.StreamLemmas.{fields_at, begins, stops_short}
use Rattle.http_wire.proofs.Taken.{TakesKnown}

-- bytes that are open, and fewer than a head may have, are an unfinished message
by_pairs : (bytes : List ℕ) (pairs : Bool) → pairs ≡ is_pairs bytes → length bytes < head_limit → IsOpen bytes → IsUnfinished bytes
by_pairs bytes true e short open_ = inl (ended, (short, open_, (empty_lines_meaning bytes true e).0 refl), refl)
by_pairs bytes false e short open_ =
    inr (inside, (short, open_, λ (lines : IsEmptyLines bytes). let no : false ≡ true = (empty_lines_meaning bytes false e).1 lines in cc), refl)

pub open_unfinished : (bytes : List ℕ) → length bytes < head_limit → IsOpen bytes → IsUnfinished bytes
open_unfinished bytes short open_ = by_pairs bytes (is_pairs bytes) refl short open_

-- no bytes are open
IsOpen-none : IsOpen []
IsOpen-none = record {
  no_head = λ h rest head.
      let line = head_line [] h rest head.reads in
      let some = line.0 in
      let none = line.1 in
      omega arith;
  no_fault = λ n fault.
      let some = fault.line.0 in
      let none = fault.line.1 in
      omega arith;
}

pub none_unfinished : IsUnfinished []
none_unfinished = open_unfinished [] (omega arith) IsOpen-none

-- ---- what is held grows

pub GrowsOpen-then : (old middle new : List ℕ) → GrowsNeeded old middle → GrowsOpen middle new → GrowsOpen old new
GrowsOpen-then old middle new (inl same) grown = subst (λ (l : List ℕ). GrowsOpen l new) same grown
GrowsOpen-then old middle new (inr first) grown =
    let before : middle ++ grown.seen ≡ old ++ (first.seen ++ (first.last ++ grown.seen)) =
    ap (λ (l : List ℕ). l ++ grown.seen) first.is ∙ append_assoc (old ++ first.seen) first.last grown.seen
    ∙ append_assoc old first.seen (first.last ++ grown.seen) in
    record {
      seen = first.seen ++ (first.last ++ grown.seen);
      last = grown.last;
      is = grown.is ∙ ap (λ (l : List ℕ). l ++ grown.last) before;
      piece = grown.piece;
      short = subst (λ (l : List ℕ). length l < head_limit) before grown.short;
      open_ = subst IsOpen before grown.open_;
    }

pub GrowsOpen-piece : (old held new seen piece : List ℕ) → held ≡ old ++ seen → new ≡ held ++ piece → length piece ≤ piece_size → length held < head_limit → IsOpen held → GrowsOpen old new
GrowsOpen-piece old held new seen piece so_far grown few short open_ = record {
  seen = seen;
  last = piece;
  is = grown ∙ ap (λ (l : List ℕ). l ++ piece) so_far;
  piece = few;
  short = subst (λ (l : List ℕ). length l < head_limit) so_far short;
  open_ = subst IsOpen so_far open_;
}

-- the same where no piece came
pub GrowsOpen-none : (old held new : List ℕ) → (seen : List ℕ) × (held ≡ old ++ seen) → new ≡ held → length held < head_limit → IsOpen held → GrowsOpen old new
GrowsOpen-none old held new so_far same short open_ = GrowsOpen-piece old held new so_far.0 [] so_far.1 (same ∙ sym (append-nil held)) (omega arith) short open_

-- ---- what a stream loses

-- the bytes held and those read after them are lost of a stream
lost_held : (old new : List ℕ) (a b : Option (List ℕ)) → Keeps (prepend_known old a) (prepend_known new b) → Consumes (prepend_known old a) b new
lost_held old new None b kept = tt
lost_held old new (Some xs) None kept = absurd kept
lost_held old new (Some xs) (Some ys) kept = sym kept

pub head_needed : (old new : List ℕ) (a b : Option (List ℕ)) → length old < piece_size → Keeps (prepend_known old a) (prepend_known new b) → GrowsNeeded old new
    → LosesUnfinished (prepend_known old a) b
head_needed old new a b few kept (inl same) = record {
  seen = [];
  last = old;
  lost = subst (Consumes (prepend_known old a) b) same (lost_held old new a b kept);
  unfinished = none_unfinished;
  piece = omega arith;
}
head_needed old new a b few kept (inr grown) = record {
  seen = old ++ grown.seen;
  last = grown.last;
  lost = subst (Consumes (prepend_known old a) b) grown.is (lost_held old new a b kept);
  unfinished = open_unfinished (old ++ grown.seen) grown.short grown.open_;
  piece = grown.piece;
}

lost_kept : (a b c : Option (List ℕ)) (bytes : List ℕ) → Keeps a b → Consumes b c bytes → Consumes a c bytes
lost_kept None b c bytes kept lost = tt
lost_kept (Some xs) None c bytes kept lost = absurd kept
lost_kept (Some xs) (Some ys) c bytes kept lost = subst (λ (l : List ℕ). Consumes (Some l) c bytes) kept lost

kept_none : (held : List ℕ) (a b c : Option (List ℕ)) → Keeps a (prepend_known held b) → Consumes b c [] → Keeps a (prepend_known held c)
kept_none held None b c kept lost = tt
kept_none held (Some xs) None c kept lost = absurd kept
kept_none held (Some xs) (Some ys) None kept lost = absurd lost
kept_none held (Some xs) (Some ys) (Some zs) kept lost = ap (λ (l : List ℕ). held ++ l) (sym lost) ∙ kept

-- a read of a body takes no more than it lacks
pub lacking_by : (held have n size : ℕ) (before now : Option (List ℕ)) → have ≡ min held size → have + n ≡ size → LosesWithin n before now → TakesLacking held size before now
lacking_by held have n size before now least sum (gone, lost, within) = (
  gone,
  lost,
  ⊎_elim
      (λ (lacks : held < size). inr (omega (arith, least, sum, within)))
      (λ (holds : size ≤ held). inl (nil_from_length gone (omega (arith, least, sum, within))))
      (cases_lt held size),
)

-- a body of which some is lacking is unfinished without the last byte that was read for it
pub body_needed : (old held : List ℕ) (spans : List HeaderSpan) (at : HeadAt) (a b c : Option (List ℕ)) (n : ℕ) → length old < piece_size → Keeps (prepend_known old a) (prepend_known held b) → GrowsNeeded old held
    → IsHeadAt held spans at → Ok n ≡ body_length (fields_at held spans at) → TakesLacking (length held - at.request.len) n b c → LosesUnfinished (prepend_known old a) c
body_needed old held spans at a b c n few kept grown has e (gone, lost, inl none) =
    head_needed old held a c few (kept_none held (prepend_known old a) b c kept (subst (Consumes b c) none lost)) grown
body_needed old held spans at a b c n few kept grown has e ([], lost, inr fits) = head_needed old held a c few (kept_none held (prepend_known old a) b c kept lost) grown
body_needed old held spans at a b c n few kept grown has e (x ∷ xs, lost, inr fits) =
    let gone = x ∷ xs in
    let front = take (length xs) gone in
    let last = drop (length xs) gone in
    let all : held ++ gone ≡ (held ++ front) ++ last = ap (λ (l : List ℕ). held ++ l) (sym (take-append-drop (length xs) gone)) ∙ sym (append_assoc held front last) in
    let size : length front ≡ length xs = length-take-le (length xs) gone (omega arith) in
    let short : length (drop at.request.len held ++ front) < n = omega (arith, length-append (drop at.request.len held) front, length-drop at.request.len held, size, fits) in
    record {
      seen = held ++ front;
      last = last;
      lost = subst (Consumes (prepend_known old a) c) all (lost_kept (prepend_known old a) (prepend_known held b) c (held ++ gone) kept (Consumes-held held gone b c lost));
      unfinished = inr (stops_short held spans at (Some front) n has e short);
      piece = omega (arith, length-drop (length xs) gone);
    }

-- where the bytes held are not unfinished, the body is held whole
pub body_there : (held : List ℕ) (spans : List HeaderSpan) (at : HeadAt) (n : ℕ) → ¬ IsUnfinished held → IsHeadAt held spans at → Ok n ≡ body_length (fields_at held spans at)
    → at.request.len + n ≤ length held
body_there held spans at n finished has e =
    let size = length-take-le at.lines held has.inside in
    let lacks_none : n ≤ length held - at.request.len =
    ⊎_elim
    (λ (lacks : length held - at.request.len < n).
    let short : length (drop at.request.len held ++ []) < n = omega (arith, ap length (append-nil (drop at.request.len held)), length-drop at.request.len held, lacks) in
    absurd (finished (inr (subst (λ (bytes : List ℕ). Gives bytes (stops EndedInside)) (append-nil held) (stops_short held spans at (Some []) n has e short)))))
    (λ (there : n ≤ length held - at.request.len). there)
    (cases_lt (length held - at.request.len) n) in
    omega (arith, lacks_none, size, has.within.section.len_fits, has.inside)

-- ---- what is held behind a message

-- a head that open bytes begin with ends behind them
head_past : (s more : List ℕ) (h : RequestHead) (rest : List ℕ) → IsOpen s → HasHead (s ++ more) h rest → length s < length (print_request h)
head_past s more h rest open_ head =
    ⊎_elim
    (λ (past : length s < length (print_request h)). past)
    (λ (within : length (print_request h) ≤ length s).
    let front : s ≡ print_request h ++ take (length s - length (print_request h)) rest =
    sym (take-append-le (length s) s more (omega arith) ∙ take_all (length s) s (omega arith)) ∙ ap (take (length s)) head.reads.1 ∙ take_past (print_request h) rest (length s) within in
    absurd (open_.no_head h (take (length s - length (print_request h)) rest) (record { reads = (head.reads.0, front); fits = head.fits })))
    (cases_lt (length s) (length (print_request h)))

-- less than a piece is held behind a message, whatever its body takes
pub rest_few : (old held : List ℕ) (spans : List HeaderSpan) (at : HeadAt) (n : ℕ) → length old < piece_size → GrowsNeeded old held → IsHeadAt held spans at → length held - (at.request.len + n) < piece_size
rest_few old held spans at n few (inl same) has = omega (arith, ap length same)
rest_few old held spans at n few (inr grown) has =
    let h = has.head.0 in
    let after = drop at.request.len held in
    let front : HasHead held h after = subst₂ (λ (s r : List ℕ). HasHead s h r) (append-nil held) (append-nil after) (begins held spans at has []) in
    let past : length (old ++ grown.seen) < length (print_request h) = head_past (old ++ grown.seen) grown.last h after grown.open_ (subst (λ (s : List ℕ). HasHead s h after) grown.is front) in
    omega (arith, past, has.head.1.len, ap length grown.is, length-append (old ++ grown.seen) grown.last, grown.piece)

-- ---- what is left behind messages

-- what is held, less than a piece, stands before what its link has left
pub LosesFew-held : (held : List ℕ) (left : Option (List ℕ)) → length held < piece_size → LosesFew (prepend_known held left) left
LosesFew-held held None few = (held, tt, few)
LosesFew-held held (Some bytes) few = (held, refl, few)

-- an unfinished message was taken behind those that came
pub known_into : (left stream now : Option (List ℕ)) (ms : List Message) → TakesKnown left ms stream → LosesUnfinished stream now → IfSome left (λ bytes. TakesInto bytes ms now)
known_into None stream now ms took needed = tt
known_into (Some bytes) None now ms took needed = absurd took
known_into (Some bytes) (Some rest) now ms took needed = (rest, took, needed)

-- or few bytes
pub known_to : (left stream now : Option (List ℕ)) (ms : List Message) → TakesKnown left ms stream → LosesFew stream now → IfSome left (λ bytes. TakesTo bytes ms now)
known_to None stream now ms took few = tt
known_to (Some bytes) None now ms took few = absurd took
known_to (Some bytes) (Some rest) now ms took few = (rest, took, few)
