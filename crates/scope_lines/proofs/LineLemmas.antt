-- The lines of a text, cut off one after the other.
use Rattle.std.proofs.Common.{◌≡◌, ◌≢◌, ℕ, ◌<◌, ◌⊎◌, inl, inr, List, [], ◌∷◌, ◌++◌, length, take, get_or, Some, refl, sym, ap, ◌∙◌, subst, arith}
use Rattle.std.proofs.lemmas.Bool.{cases_eq, cases_lt}
use Rattle.std.proofs.lemmas.List.{append_assoc, append-nil, length-append, length-take, get_or-take, take_at, get_or_at, get_or_past}
use Rattle.std.proofs.lemmas.List.Elements.{All-nil, All-cons, All-head, All-tail, All-push, All-weaker}
use Rattle.std.proofs.lemmas.Option.{slice_get_read, slice_get_within, get_or_from_slice_get}
use Rattle.std.proofs.lemmas.Str.{IsUtf8-from_ascii}
use Rattle.std.specs.List.{All, slice_get}
use Rattle.std.specs.Str.{IsUtf8}
use Rattle.scope_sets.specs.Scopes.{IsPrintable}
use Rattle.scope_lines.specs.Lines.{line_feed, lines_text, IsOneLine, EndsWithIncompleteLine, HasLines, IsScope, SaysScopes, RefusesLines}
use Rattle.scope_lines.specs.Steps.{CutsLine}
use Rattle.scope_lines.specs.declared.lines.LineFault.{LineFault}
use Rattle.scope_lines.specs.declared.lines.LineFault.TheVariants.{BadLine, NoMemory}

-- ---- one line

no_feed : (line rest : List ℕ) → IsOneLine (line ++ line_feed ∷ rest) → ⊥
no_feed [] rest h = All-head (λ b. b ≢ line_feed) line_feed rest h refl
no_feed (x ∷ line) rest h = no_feed line rest (All-tail (λ b. b ≢ line_feed) x (line ++ line_feed ∷ rest) h)

same_at_feed : (line other rest tail : List ℕ) → IsOneLine line → IsOneLine other → line ++ line_feed ∷ rest ≡ other ++ line_feed ∷ tail → (line ≡ other) × (rest ≡ tail)
same_at_feed [] [] rest tail h k e = (refl, cc)
same_at_feed [] (y ∷ other) rest tail h k e =
    let first : y ≡ line_feed = cc in
    absurd (All-head (λ b. b ≢ line_feed) y other k first)
same_at_feed (x ∷ line) [] rest tail h k e =
    let first : x ≡ line_feed = cc in
    absurd (All-head (λ b. b ≢ line_feed) x line h first)
same_at_feed (x ∷ line) (y ∷ other) rest tail h k e =
    let later : line ++ line_feed ∷ rest ≡ other ++ line_feed ∷ tail = cc in
    let same = same_at_feed line other rest tail (All-tail (λ b. b ≢ line_feed) x line h) (All-tail (λ b. b ≢ line_feed) y other k) later in
    (cc, same.1)

not_open : (text line rest : List ℕ) → IsOneLine text → text ≡ line ++ line_feed ∷ rest → ⊥
not_open text line rest h e = no_feed line rest (subst IsOneLine e h)

-- a text is cut in one way
cuts_are_one : (text line rest other tail : List ℕ) → CutsLine text line rest → CutsLine text other tail → (line ≡ other) × (rest ≡ tail)
cuts_are_one text line rest other tail h k = by_ends h.whole k.whole
  where
    by_ends : (text ≡ line ++ line_feed ∷ rest) ⊎ ((text ≡ line) × (line ≢ []) × (rest ≡ []))
        → (text ≡ other ++ line_feed ∷ tail) ⊎ ((text ≡ other) × (other ≢ []) × (tail ≡ [])) → (line ≡ other) × (rest ≡ tail)
    by_ends (inl e) (inl d) = same_at_feed line other rest tail h.apart k.apart (sym e ∙ d)
    by_ends (inl e) (inr d) = absurd (not_open other line rest k.apart (sym d.0 ∙ e))
    by_ends (inr e) (inl d) = absurd (not_open line other tail h.apart (sym e.0 ∙ d))
    by_ends (inr e) (inr d) = (sym e.0 ∙ d.0, e.2 ∙ sym d.2)

nothing_to_cut : (line rest : List ℕ) → CutsLine [] line rest → ⊥
nothing_to_cut line rest h = by_end h.whole
  where
    by_end : ([] ≡ line ++ line_feed ∷ rest) ⊎ (([] ≡ line) × (line ≢ []) × (rest ≡ [])) → ⊥
    by_end (inl e) = omega (arith, ap length e, length-append line (line_feed ∷ rest))
    by_end (inr e) = e.1 (sym e.0)

-- ---- lines

pub HasLines-nil : HasLines [] []
HasLines-nil = record { apart = All-nil IsOneLine; whole = inl refl }

-- an empty text has no line, and no other text has none
text_without_lines : (text : List ℕ) → HasLines text [] → text ≡ []
text_without_lines text h = by_end h.whole
  where
    by_end : (text ≡ []) ⊎ EndsWithIncompleteLine text [] → text ≡ []
    by_end (inl e) = e
    by_end (inr e) = absurd (omega (arith, ap length e.2, length-append e.0 (e.1 ∷ [])))

-- the first of some lines is cut off, and the others are the lines of the rest
lines_of_rest : (text line : List ℕ) (lines : List (List ℕ)) → HasLines text (line ∷ lines) → (rest : List ℕ) × CutsLine text line rest × HasLines rest lines
lines_of_rest text line lines h = by_end h.whole
  where
    apart : IsOneLine line
    apart = All-head IsOneLine line lines h.apart

    others : All IsOneLine lines
    others = All-tail IsOneLine line lines h.apart

    by_open : (front : List (List ℕ)) (last : List ℕ) → line ∷ lines ≡ front ++ last ∷ [] → last ≢ [] → text ≡ lines_text front ++ last
        → (rest : List ℕ) × CutsLine text line rest × HasLines rest lines
    by_open [] last is some e =
        let first : line ≡ last = cc in
        let none : lines ≡ [] = cc in
        ([], record { apart = apart; whole = inr (cc, (λ d. some (cc)), refl) }, subst (λ (t : List (List ℕ)). HasLines [] t) (sym none) HasLines-nil)
    by_open (f ∷ front) last is some e =
        let first : f ≡ line = cc in
        let later : lines ≡ front ++ last ∷ [] = cc in
        let cut : text ≡ line ++ line_feed ∷ (lines_text front ++ last) =
        e ∙ append_assoc (f ++ line_feed ∷ []) (lines_text front) last ∙ append_assoc f (line_feed ∷ []) (lines_text front ++ last)
        ∙ ap (λ (t : List ℕ). t ++ line_feed ∷ (lines_text front ++ last)) first in
        (lines_text front ++ last, record { apart = apart; whole = inl cut }, record { apart = others; whole = inr (front, last, later, some, refl) })

    by_end : (text ≡ lines_text (line ∷ lines)) ⊎ EndsWithIncompleteLine text (line ∷ lines) → (rest : List ℕ) × CutsLine text line rest × HasLines rest lines
    by_end (inl e) =
        (lines_text lines, record { apart = apart; whole = inl (e ∙ append_assoc line (line_feed ∷ []) (lines_text lines)) }, record { apart = others; whole = inl refl })
    by_end (inr e) = by_open e.0 e.1 e.2 e.3 e.4

-- an empty text has no line
lines_of_nil : (lines : List (List ℕ)) → HasLines [] lines → lines ≡ []
lines_of_nil [] h = refl
lines_of_nil (line ∷ lines) h =
    let cut = lines_of_rest [] line lines h in
    absurd (nothing_to_cut line cut.0 cut.1)

-- a line before the lines of the rest
pub HasLines-cut : (text line rest : List ℕ) (lines : List (List ℕ)) → CutsLine text line rest → HasLines rest lines → HasLines text (line ∷ lines)
HasLines-cut text line rest lines cut h = record { apart = All-cons IsOneLine line lines cut.apart h.apart; whole = by_cut cut.whole h.whole }
  where
    by_cut : (text ≡ line ++ line_feed ∷ rest) ⊎ ((text ≡ line) × (line ≢ []) × (rest ≡ [])) → (rest ≡ lines_text lines) ⊎ EndsWithIncompleteLine rest lines
        → (text ≡ lines_text (line ∷ lines)) ⊎ EndsWithIncompleteLine text (line ∷ lines)
    by_cut (inl e) (inl d) = inl (e ∙ ap (λ (t : List ℕ). line ++ line_feed ∷ t) d ∙ sym (append_assoc line (line_feed ∷ []) (lines_text lines)))
    by_cut (inl e) (inr (front, last, is, some, d)) =
        inr (
          line ∷ front,
          last,
          ap (λ t. line ∷ t) is,
          some,
          e ∙ ap (λ (t : List ℕ). line ++ line_feed ∷ t) d ∙ sym (append_assoc line (line_feed ∷ []) (lines_text front ++ last))
              ∙ sym (append_assoc (line ++ line_feed ∷ []) (lines_text front) last),
        )
    by_cut (inr (e, some, none)) d =
        let lines_none : lines ≡ [] = lines_of_nil lines (subst (λ (t : List ℕ). HasLines t lines) none h) in
        inr ([], line, ap (λ t. line ∷ t) lines_none, some, e)

pub lines_are_one : (text : List ℕ) (lines other : List (List ℕ)) → HasLines text lines → HasLines text other → lines ≡ other
lines_are_one text [] [] h k = refl
lines_are_one text [] (m ∷ other) h k =
    let cut = lines_of_rest text m other k in
    absurd (nothing_to_cut m cut.0 (subst (λ (t : List ℕ). CutsLine t m cut.0) (text_without_lines text h) cut.1))
lines_are_one text (l ∷ lines) [] h k =
    let cut = lines_of_rest text l lines h in
    absurd (nothing_to_cut l cut.0 (subst (λ (t : List ℕ). CutsLine t l cut.0) (text_without_lines text k) cut.1))
lines_are_one text (l ∷ lines) (m ∷ other) h k =
    let a = lines_of_rest text l lines h in
    let b = lines_of_rest text m other k in
    let same = cuts_are_one text l a.0 m b.0 a.1 b.1 in
    let later : lines ≡ other = lines_are_one a.0 lines other a.2 (subst (λ (t : List ℕ). HasLines t other) (sym same.1) b.2) in
    let first : l ≡ m = same.0 in
    cc

-- the lines of a text with one more byte before it
with_byte : (x : ℕ) (text : List ℕ) (lines : List (List ℕ)) → HasLines text lines → x ≢ line_feed → (more : List (List ℕ)) × HasLines (x ∷ text) more
with_byte x text [] h other =
    let none : text ≡ [] = text_without_lines text h in
    let cut : CutsLine (x ∷ text) (x ∷ []) [] =
    record { apart = All-cons (λ b. b ≢ line_feed) x [] other (All-nil (λ b. b ≢ line_feed)); whole = inr (ap (λ t. x ∷ t) none, (λ d. cc), refl) } in
    ((x ∷ []) ∷ [], HasLines-cut (x ∷ text) (x ∷ []) [] [] cut HasLines-nil)
with_byte x text (l ∷ lines) h other =
    let cut = lines_of_rest text l lines h in
    ((x ∷ l) ∷ lines, HasLines-cut (x ∷ text) (x ∷ l) cut.0 lines (longer cut.0 cut.1) cut.2)
  where
    longer : (rest : List ℕ) → CutsLine text l rest → CutsLine (x ∷ text) (x ∷ l) rest
    longer rest cut = record { apart = All-cons (λ b. b ≢ line_feed) x l other cut.apart; whole = by_end cut.whole }
      where
        by_end : (text ≡ l ++ line_feed ∷ rest) ⊎ ((text ≡ l) × (l ≢ []) × (rest ≡ []))
            → (x ∷ text ≡ (x ∷ l) ++ line_feed ∷ rest) ⊎ ((x ∷ text ≡ x ∷ l) × (x ∷ l ≢ []) × (rest ≡ []))
        by_end (inl e) = inl (ap (λ t. x ∷ t) e)
        by_end (inr e) = inr (ap (λ t. x ∷ t) e.0, (λ d. cc), e.2)

pub each_text_has_lines : (text : List ℕ) → (lines : List (List ℕ)) × HasLines text lines
each_text_has_lines [] = ([], HasLines-nil)
each_text_has_lines (x ∷ text) =
    let later = each_text_has_lines text in
    elim (cases_eq x line_feed) [
      | inl is ↦
          let cut : CutsLine (x ∷ text) [] text = record { apart = All-nil (λ b. b ≢ line_feed); whole = inl (ap (λ b. b ∷ text) is) } in
          ([] ∷ later.0, HasLines-cut (x ∷ text) [] text later.0 cut later.1)
      | inr other ↦ with_byte x text later.0 later.1 other
    ]

-- ---- scopes

IsOneLine-scope : (line : List ℕ) → IsScope line → IsOneLine line
IsOneLine-scope line h = All-weaker IsPrintable (λ b. b ≢ line_feed) (λ b low e. omega (arith, low.0, e)) line h.printable

-- a scope is a text
pub IsUtf8-scope : (line : List ℕ) → IsScope line → IsUtf8 line
IsUtf8-scope line h = IsUtf8-from_ascii line (λ i. elim (cases_lt i (length line)) [
  | inl within ↦ let low = (h.printable i 0 within).1 in omega arith
  | inr past ↦ let none : get_or line i 0 ≡ 0 = get_or_past line i 0 past in omega arith
])

pub SaysScopes-written : (scopes : List (List ℕ)) → All IsScope scopes → SaysScopes (lines_text scopes) scopes
SaysScopes-written scopes each = record {
  in_text = record { apart = All-weaker IsScope IsOneLine IsOneLine-scope scopes each; whole = inl refl };
  each = each;
}

-- a place before which all lines are scopes
scope_before : (lines : List (List ℕ)) (place end : ℕ) (line : List ℕ) → place < end → slice_get lines place ≡ Some line → All IsScope (take end lines) → IsScope line
scope_before lines place end line lt at all =
    let within : place < length lines = slice_get_within lines place line at in
    let here : IsScope (get_or (take end lines) place line) = all place line (omega (arith, length-take end lines)) in
    subst IsScope (get_or-take end lines place line lt ∙ get_or_from_slice_get lines place line line at) here

pub the_bad_line_is_one : (text : List ℕ) (place other : ℕ) → RefusesLines text (BadLine place) → RefusesLines text (BadLine other) → place ≡ other
the_bad_line_is_one text place other (lines, has, p) (more, has', q) =
    let same : lines ≡ more = lines_are_one text lines more has has' in
    let p_at : slice_get more place ≡ Some p.line = rw same at p.at in
    let p_before : All IsScope (take place more) = subst (λ (t : List (List ℕ)). All IsScope (take place t)) same p.before in
    elim (cases_lt place other) [
      | inl earlier ↦ absurd (p.bad (scope_before more place other p.line earlier p_at q.before))
      | inr upto ↦
          elim (cases_lt other place) [
            | inl later ↦ absurd (q.bad (scope_before more other place q.line later q.at p_before))
            | inr within ↦ omega arith
          ]
    ]

pub says_not_refused : (text : List ℕ) (scopes : List (List ℕ)) (fault : LineFault) → SaysScopes text scopes → RefusesLines text fault → fault ≡ NoMemory
says_not_refused text scopes NoMemory says h = refl
says_not_refused text scopes (BadLine place) says (lines, has, bad) =
    let same : scopes ≡ lines = lines_are_one text scopes lines says.in_text has in
    let within : place < length lines = slice_get_within lines place bad.line bad.at in
    let each : All IsScope lines = subst (λ (t : List (List ℕ)). All IsScope t) same says.each in
    absurd (bad.bad (subst IsScope (get_or_from_slice_get lines place bad.line bad.line bad.at) (each place bad.line within)))

-- ---- what has been read

-- the scopes are the lines of the text so far, and the lines of the rest follow
pub record HasRead (text rest : List ℕ) (scopes : List (List ℕ)) : Type 0 where
  pub whole : (lines : List (List ℕ)) → HasLines rest lines → HasLines text (scopes ++ lines)
  pub each : All IsScope scopes

pub HasRead-start : (text : List ℕ) → HasRead text text []
HasRead-start text = record { whole = λ lines h. h; each = All-nil IsScope }

module _ (text rest : List ℕ) (scopes : List (List ℕ)) (h : HasRead text rest scopes) where
  pub SaysScopes-read : rest ≡ [] → SaysScopes text scopes
  SaysScopes-read none = record {
    in_text = subst (λ (t : List (List ℕ)). HasLines text t) (append-nil scopes) (h.whole [] (subst (λ (t : List ℕ). HasLines t []) (sym none) HasLines-nil));
    each = h.each;
  }

  module _ (line after : List ℕ) (cut : CutsLine rest line after) where
    pub HasRead-more : IsScope line → HasRead text after (scopes ++ line ∷ [])
    HasRead-more is = record {
      whole = λ lines k. subst (λ (t : List (List ℕ)). HasLines text t) (sym (append_assoc scopes (line ∷ []) lines)) (h.whole (line ∷ lines) (HasLines-cut rest line after lines cut k));
      each = All-push IsScope scopes line h.each is;
    }

    pub RefusesLines-read : (place : ℕ) → place ≡ length scopes → ¬ IsScope line → RefusesLines text (BadLine place)
    RefusesLines-read place is bad =
        let later = each_text_has_lines after in
        let lines : List (List ℕ) = scopes ++ line ∷ later.0 in (
          lines,
          h.whole (line ∷ later.0) (HasLines-cut rest line after later.0 cut later.1),
          record {
            line = line;
            at = slice_get_read lines (length lines) place line refl (omega (arith, length-append scopes (line ∷ later.0))) (sym (get_or_at scopes line later.0 line place (sym is)));
            bad = bad;
            before = subst (λ (t : List (List ℕ)). All IsScope t) (sym (take_at scopes (line ∷ later.0) place (sym is))) h.each;
          },
        )
