-- What the lines held so far decide of the stream.
use Rattle.std.proofs.Common.{◌≡◌, ℕ, ◌+◌, ◌-◌, ◌*◌, ◌<◌, ◌≤◌, ◌⊎◌, min, ⊎_elim, inl, inr, true, List, [], ◌∷◌, ◌++◌, length, get_or, take, drop, refl, sym, ap, ◌∙◌, subst, arith, append_assoc, append-nil, length-append, length-take-le, take-append-drop, take_all, slice_index, length-drop}
use Rattle.std.specs.List.{flat_map, All}
use Rattle.std.proofs.lemmas.List.Elements.{All-head, All-tail}
use Rattle.std.proofs.lemmas.List.{take-append-le, get_or_append_left, get_or-append_right, get_or-append-add, length_push, take-take}
use Rattle.std.proofs.lemmas.Bool.{cases_lt}
use Rattle.std.proofs.Math.Seq.{get_or-append_seam, take-append-add, drop-append_seam}
use Rattle.httparse.specs.Grammar.{AllPass, is_uri_byte, LineEnd, crlf, lf, print_end, print_blank, Field, IsField, print_field, RequestHead, print_request, ReadsRequest, NeverHasRequest, MayBecomeRequest}
use Rattle.httparse.specs.Spans.{RequestExceeds}
use Rattle.httparse.proofs.GrammarLemmas.{ReadsRequest-append}
use Rattle.http_wire.specs.declared.head.TheConstants.{FIELD_LIMIT}
use Rattle.http_wire.specs.Front.{IsUndecided}
use Rattle.http_wire.specs.Head.{head_limit, HasHead, EndsLine, HasFault, IsOpen}

-- ---- a head is whole lines

ends_by : (x fields : List ℕ) (last : LineEnd) → (front : List ℕ) × (x ++ (fields ++ print_end last) ≡ front ++ 10 ∷ [])
ends_by x fields crlf = (x ++ (fields ++ 13 ∷ []), sym (append_assoc x (fields ++ 13 ∷ []) (10 ∷ []) ∙ ap (λ l. x ++ l) (append_assoc fields (13 ∷ []) (10 ∷ []))))
ends_by x fields lf = (x ++ fields, sym (append_assoc x fields (10 ∷ [])))

-- a head ends in a line feed
pub print_request-ends : (h : RequestHead) → (front : List ℕ) × (print_request h ≡ front ++ 10 ∷ [])
unfolding print_request
print_request-ends h = ends_by _ (flat_map print_field h.fields) h.last

line_at : (s p front rest : List ℕ) → p ≡ front ++ 10 ∷ [] → s ≡ p ++ rest → EndsLine s (length p)
line_at s p front rest e r =
    let size : length p ≡ length front + 1 = ap length e ∙ length_push front 10 in
    let all : length s ≡ length p + length rest = ap length r ∙ length-append p rest in
    let whole : s ≡ front ++ 10 ∷ rest = r ∙ ap (λ l. l ++ rest) e ∙ append_assoc front (10 ∷ []) rest in
    let place : length p - 1 ≡ length front = omega arith in
    (omega arith, omega arith, ap (λ n. get_or s n 0) place ∙ ap (λ l. get_or l (length front) 0) whole ∙ get_or-append_seam front 10 rest 0)

-- the line that ends a head
pub head_line : (s : List ℕ) (h : RequestHead) (rest : List ℕ) → ReadsRequest s h rest → EndsLine s (length (print_request h))
head_line s h rest reads = let e = print_request-ends h in line_at s (print_request h) e.0 rest e.1 reads.1

-- ---- a head has no more fields than fit

print_end-length : (end : LineEnd) → 1 ≤ length (print_end end)
print_end-length crlf = omega arith
print_end-length lf = omega arith

field_long : (f : Field) → IsField f → 3 ≤ length (print_field f)
field_long f is =
    let some = is.name.0 in
    omega (arith, length-append (f.name ++ 58 ∷ f.raw) (print_end f.end), length-append f.name (58 ∷ f.raw), print_end-length f.end)

fields_long : (fs : List Field) → All IsField fs → 3 * length fs ≤ length (flat_map print_field fs)
fields_long [] all = omega arith
fields_long (f ∷ fs) all =
    let rest = fields_long fs (All-tail IsField f fs all) in
    let first = field_long f (All-head IsField f fs all) in
    omega (arith, length-append (print_field f) (flat_map print_field fs))

print_parts : (h : RequestHead) → (x : List ℕ) × (print_request h ≡ x ++ (flat_map print_field h.fields ++ print_end h.last))
unfolding print_request
print_parts h = (_, refl)

head_long : (h : RequestHead) → All IsField h.fields → 3 * length h.fields ≤ length (print_request h)
head_long h all =
    let some = fields_long h.fields all in
    let parts = print_parts h in
    omega (arith, ap length parts.1, length-append parts.0 (flat_map print_field h.fields ++ print_end h.last), length-append (flat_map print_field h.fields) (print_end h.last))

-- lines within the limit never have too many fields
pub fields_fit : (lines : List ℕ) → length lines ≤ head_limit → RequestExceeds FIELD_LIMIT lines → ⊥
fields_fit lines fits (front, rest, split, h, reads, over) =
    let some = head_long h reads.0.fields in
    let size : length (front ++ 10 ∷ []) ≡ length (print_request h ++ []) = ap length reads.1 in
    omega (arith, ap length split, length-append front rest, length-append front (10 ∷ []), length-append (print_request h) [])

-- ---- whole lines do not end in a target

no_target_byte : (target : List ℕ) → AllPass is_uri_byte target → get_or (32 ∷ target) (length target) 0 ≡ 10 → ⊥
no_target_byte [] all line = cc
no_target_byte (b ∷ bs) all line =
    let passes : is_uri_byte (get_or (b ∷ bs) (length bs) 0) ≡ true = all (length bs) 0 (omega arith) in
    let fails : is_uri_byte 10 ≡ true = subst (λ x. is_uri_byte x ≡ true) line passes in
    cc

no_target : (front target : List ℕ) → AllPass is_uri_byte target → get_or (front ++ 32 ∷ target) (length front + length target) 0 ≡ 10 → ⊥
no_target front target all line =
    no_target_byte target all (sym (get_or-append-add front (32 ∷ target) (length target) 0) ∙ line)

-- some bytes make whole lines a head, where httparse says that some may
pub becomes : (lines : List ℕ) → EndsLine lines (length lines) → MayBecomeRequest lines → (more : List ℕ) × (h : RequestHead) × ReadsRequest (lines ++ more) h []
becomes lines line (inl some) = some
becomes lines line (inr (blank, method, target, token, all, is)) =
    let front = print_blank blank ++ method in
    let size : length lines ≡ length front + (length target + 1) = ap length is ∙ length-append front (32 ∷ target) ∙ (omega arith) in
    let place : length lines - 1 ≡ length front + length target = omega arith in
    absurd (no_target front target all (sym (ap (λ l. get_or l (length front + length target) 0) is) ∙ sym (ap (λ n. get_or lines n 0) place) ∙ line.2))

-- ---- more bytes

-- a line that ends in the front of the bytes, and one that ends anywhere
pub EndsLine-append : (s more : List ℕ) (n : ℕ) → EndsLine s n → EndsLine (s ++ more) n
EndsLine-append s more n line =
    let size = length-append s more in
    let some = line.0 in
    let within = line.1 in
    (line.0, omega arith, get_or_append_left s more 0 (n - 1) (omega arith) ∙ line.2)

pub EndsLine-front : (s more : List ℕ) (n : ℕ) → n ≤ length s → EndsLine (s ++ more) n → EndsLine s n
EndsLine-front s more n within line =
    let some = line.0 in
    (line.0, within, sym (get_or_append_left s more 0 (n - 1) (omega arith)) ∙ line.2)

pub HasFault-append : (s more : List ℕ) (n : ℕ) → HasFault s n → HasFault (s ++ more) n
HasFault-append s more n fault = record {
  fits = fault.fits;
  line = EndsLine-append s more n fault.line;
  never = λ extra. subst (λ t. (h : RequestHead) (rest : List ℕ) → ¬ (ReadsRequest (t ++ extra) h rest)) (sym (take-append-le n s more fault.line.1)) (fault.never extra);
}

pub HasHead-append : (s more : List ℕ) (h : RequestHead) (rest : List ℕ) → HasHead s h rest → HasHead (s ++ more) h (rest ++ more)
HasHead-append s more h rest head = record { reads = ReadsRequest-append s h rest more head.reads; fits = head.fits }

-- ---- undecided lines

pub take_past : (p rest : List ℕ) (n : ℕ) → length p ≤ n → take n (p ++ rest) ≡ p ++ take (n - length p) rest
take_past p rest n le =
    let same : n ≡ length p + (n - length p) = omega arith in
    ap (λ k. take k (p ++ rest)) same ∙ take-append-add p rest (n - length p)

-- a prefix of lines from which a head may come is no fault, and no head stands in them
pub undecided_open : (w more : List ℕ) (n : ℕ) → n ≤ length w → length w ≤ head_limit
    → ((m : ℕ) → n < m → EndsLine w m → ⊥) → (take n w ≡ []) ⊎ IsUndecided (take n w)
    → (head_limit ≤ length w) ⊎ (more ≡ []) → IsOpen (w ++ more)
undecided_open w more n within fits last state whole = record {
  no_head = λ h rest head.
      let line = head_line (w ++ more) h rest head.reads in
      let size = length-append w more in
      let inside = front_of line.1 head.fits in
      let shorter : length (print_request h) ≤ n = upto (length (print_request h)) line inside in
      let front : take n w ≡ print_request h ++ take (n - length (print_request h)) rest = front_is h rest head.reads shorter in
      ⊎_elim
      (λ (none : take n w ≡ []).
      let nothing : length (take n w) ≡ 0 = ap length none in
      let long = length-take-le n w within in
      let some = line.0 in
      omega arith)
      (λ (open_ : IsUndecided (take n w)). open_.no_head h (take (n - length (print_request h)) rest) (head.reads.0, front))
      state;
  no_fault = λ m fault.
      let size = length-append w more in
      let inside = front_of fault.line.1 fault.fits in
      let shorter : m ≤ n = upto m fault.line inside in
      let some = fault.line.0 in
      ⊎_elim
      (λ (none : take n w ≡ []).
      let nothing : length (take n w) ≡ 0 = ap length none in
      let long = length-take-le n w within in
      omega arith)
      (λ (open_ : IsUndecided (take n w)).
      fault.never (drop m (take n w) ++ open_.more) open_.head open_.rest
      (subst (λ t. ReadsRequest t open_.head open_.rest) (rejoin m shorter open_.more) open_.reads))
      state;
}
  where
    front_of : {m : ℕ} → m ≤ length (w ++ more) → m ≤ head_limit → m ≤ length w
    front_of {m} inside limit =
        let size = length-append w more in
        ⊎_elim (λ (full : head_limit ≤ length w). omega arith) (λ (none : more ≡ []). omega (arith, ap length none)) whole

    upto : (m : ℕ) → EndsLine (w ++ more) m → m ≤ length w → m ≤ n
    upto m line inside =
        ⊎_elim (λ (lt : n < m). absurd (last m lt (EndsLine-front w more m inside line))) (λ (le : m ≤ n). le) (cases_lt n m)

    front_is : (h : RequestHead) (rest : List ℕ) → ReadsRequest (w ++ more) h rest → length (print_request h) ≤ n
        → take n w ≡ print_request h ++ take (n - length (print_request h)) rest
    front_is h rest reads shorter =
        sym (take-append-le n w more within) ∙ ap (take n) reads.1 ∙ take_past (print_request h) rest n shorter

    rejoin : (m : ℕ) → m ≤ n → (extra : List ℕ) → take n w ++ extra ≡ take m (w ++ more) ++ (drop m (take n w) ++ extra)
    rejoin m le extra =
        let front : take m (take n w) ≡ take m (w ++ more) = take-take m n w le ∙ sym (take-append-le m w more (omega arith)) in
        ap (λ l. l ++ extra) (sym (take-append-drop m (take n w))) ∙ append_assoc (take m (take n w)) (drop m (take n w)) extra
        ∙ ap (λ l. l ++ (drop m (take n w) ++ extra)) front

-- the bytes held are all of the input, and fewer than a head may have
pub short_open : (held : List ℕ) (k n : ℕ) → k ≡ min (length held) head_limit → length held < head_limit
    → n ≤ length (take k held) → ((m : ℕ) → n < m → EndsLine (take k held) m → ⊥)
    → (take n held ≡ []) ⊎ IsUndecided (take n held) → IsOpen held
short_open held k n least short inside last state =
    let all : take k held ≡ held = take_all k held (omega arith) in
    let within : n ≤ length held = subst (λ w. n ≤ length w) all inside in
    let none : (m : ℕ) → n < m → EndsLine held m → ⊥ = subst (λ w. (m : ℕ) → n < m → EndsLine w m → ⊥) all last in
    subst IsOpen (append-nil held) (undecided_open held [] n within (omega arith) none state (inr refl))

-- the bytes held are as many as a head may have, or more
pub large_open : (held : List ℕ) (k n : ℕ) → k ≡ min (length held) head_limit → head_limit ≤ length held
    → n ≤ length (take k held) → ((m : ℕ) → n < m → EndsLine (take k held) m → ⊥)
    → (take n held ≡ []) ⊎ IsUndecided (take n held) → (more : List ℕ) → IsOpen (held ++ more)
large_open held k n least large inside last state more =
    let w = take k held in
    let limit : k ≡ head_limit = omega arith in
    let size : length w ≡ k = length-take-le k held (omega arith) in
    let front : take n w ≡ take n held = take-take n k held (omega arith) in
    let whole : w ++ (drop k held ++ more) ≡ held ++ more = sym (append_assoc w (drop k held) more) ∙ ap (λ l. l ++ more) (take-append-drop k held) in
    subst IsOpen whole (undecided_open w (drop k held ++ more) n inside (omega arith) last
    (subst (λ t. (t ≡ []) ⊎ IsUndecided t) (sym front) state) (inl (omega arith)))

-- a line that ends behind the front of the bytes ends in what follows that front
EndsLine-tail : (s more : List ℕ) (n : ℕ) → length s < n → EndsLine (s ++ more) n → EndsLine more (n - length s)
EndsLine-tail s more n past line =
    let size = length-append s more in
    let inside = line.1 in
    let place : (n - 1) - length s ≡ (n - length s) - 1 = omega arith in (
      omega arith,
      omega arith,
      ap (λ k. slice_index more k) (sym place) ∙ (sym (get_or-append_right s more (length s) (n - 1) 0 refl (omega arith)) ∙ line.2),
    )

-- bytes that hold neither a head nor a fault hold neither after more of them in which no line ends
pub IsOpen-more : (s more : List ℕ) → IsOpen s → ((n : ℕ) → 0 < n → EndsLine more n → ⊥) → IsOpen (s ++ more)
IsOpen-more s more open_ none = record {
  no_head = λ h rest head.
      let shorter = within (length (print_request h)) (head_line (s ++ more) h rest head.reads) in
      let front : s ≡ print_request h ++ take (length s - length (print_request h)) rest =
      sym (take-append-le (length s) s more (omega arith) ∙ take_all (length s) s (omega arith)) ∙ ap (take (length s)) head.reads.1 ∙ take_past (print_request h) rest (length s) shorter in
      open_.no_head h (take (length s - length (print_request h)) rest) (record { reads = (head.reads.0, front); fits = head.fits });
  no_fault = λ m fault.
      let shorter = within m fault.line in
      open_.no_fault m
      (record {
        fits = fault.fits;
        line = EndsLine-front s more m shorter fault.line;
        never = subst NeverHasRequest (take-append-le m s more shorter) fault.never;
      });
}
  where
    within : (m : ℕ) → EndsLine (s ++ more) m → m ≤ length s
    within m line =
        ⊎_elim (λ (past : length s < m). absurd (none (m - length s) (omega arith) (EndsLine-tail s more m past line))) (λ (le : m ≤ length s). le)
        (cases_lt (length s) m)

-- the same where the bytes are those held and a piece, and no line ends in what stands behind the first n
pub IsOpen-piece : (s new seen piece : List ℕ) (n : ℕ) → new ≡ s ++ piece → length s ≡ n → seen ≡ new → IsOpen s
    → ((m : ℕ) → 0 < m → EndsLine (take (length seen - n) (drop n seen)) m → ⊥) → IsOpen new
IsOpen-piece s new seen piece n grown size is open_ none =
    let all : take (length seen - n) (drop n seen) ≡ drop n seen = take_all (length seen - n) (drop n seen) (omega (arith, length-drop n seen)) in
    let same : take (length seen - n) (drop n seen) ≡ piece =
    all ∙ ap (drop n) (is ∙ grown) ∙ ap (λ k. drop k (s ++ piece)) (sym size) ∙ drop-append_seam s piece in
    subst IsOpen (sym grown) (IsOpen-more s piece open_ (subst (λ t. (m : ℕ) → 0 < m → EndsLine t m → ⊥) same none))

-- lines that never begin with a head, at the front of the bytes held
pub lines_fault : (held : List ℕ) (k n : ℕ) → k ≡ min (length held) head_limit → EndsLine (take k held) n
    → NeverHasRequest (take n held) → HasFault held n
lines_fault held k n least line never =
    let size : length (take k held) ≡ k = length-take-le k held (omega arith) in
    let inside = line.1 in
    record {
      fits = omega arith;
      line = subst (λ l. EndsLine l n) (take-append-drop k held) (EndsLine-append (take k held) (drop k held) n line);
      never = never;
    }
