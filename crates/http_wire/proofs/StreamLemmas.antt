-- What the reader's steps say of the stream.
use Rattle.std.proofs.Common.{◌≡◌, ℕ, ◌<◌, ◌≤◌, Bool, true, false, List, [], ◌∷◌, ◌++◌, Option, Some, None, IfSome, length, take, drop, map, Result, Ok, Err, refl, sym, ap, ◌∙◌, subst, subst₂, arith, le_trans, append_assoc, append-nil, length-append, length-take-le, take-append-drop}
use Rattle.std.specs.Prelude.{All, nat_le, if◌then◌else◌, codes}
use Rattle.std.specs.Str.Parse.{digits_value}
use Rattle.std.specs.Bool.{MatchBool}
use Rattle.std.specs.Io.KnownBytes.{prepend_known, Keeps, Consumes, IsAtEnd}
use Rattle.http_wire.specs.declared.message.Wire.{Wire}
use Rattle.http_wire.specs.declared.message.Wire.TheVariants.{End, HeadFault, HeadTooLarge, NoLength, BodyTooLarge, EndedInside, ReadFault, NoMemory}
use Rattle.http_wire.specs.declared.message.Message.{Message}
use Rattle.http_wire.specs.declared.head.HeadAt.{HeadAt}
use Rattle.httparse.specs.declared.spans.HeaderSpan.{HeaderSpan}
use Rattle.httparse.specs.Grammar.{RequestHead}
use Rattle.httparse.specs.Spans.{header_bytes, IsHeaderWithin, IsSectionWithin}
use Rattle.http1.specs.Fields.{Header, values_named}
use Rattle.http_wire.specs.Calls.{LinkState, CountsReads, OnlyReads}
use Rattle.http_wire.specs.Framing.{body_limit, named_fields, body_length, is_digits, length_of, stated_length, length_unless}
use Rattle.http_wire.specs.Front.{IsHeadAt}
use Rattle.http_wire.specs.Message.{first_of, message_of}
use Rattle.http_wire.specs.Reading.{IsFillStop, IsBodyStop, Ends}
use Rattle.http_wire.specs.Head.{head_limit, HasHead, message, HasFault, IsOpen, IsEmptyLines, fault, too_large, ended, inside}
use Rattle.http_wire.specs.Stream.{Gives, Stops, stops, whole, with_body, is_of_stream, TakesOne}
use Rattle.http_wire.proofs.HeadLemmas.{HasFault-append, HasHead-append}
use Rattle.http_wire.proofs.KnownLemmas.{match_any}
use Rattle.std.proofs.lemmas.List.{drop-append-le, take_at, drop_at}
use Rattle.std.proofs.lemmas.Bool.{cond-true, cond-false, le-leb, lt-leb}

-- a stream that stayed the same stops for the same reason
pub Stops-kept : (a b : Option (List ℕ)) (wire : Wire) → Keeps a b → Stops b wire → Stops a wire
Stops-kept None b wire kept stop = tt
Stops-kept (Some xs) None wire kept stop = absurd kept
Stops-kept (Some xs) (Some ys) wire kept stop = subst (λ l. Stops (Some l) wire) kept stop

pub stops_fault : (held : List ℕ) (left : Option (List ℕ)) (n : ℕ) → HasFault held n → Stops (prepend_known held left) HeadFault
stops_fault held None n has = tt
stops_fault held (Some more) n has = (fault, (n, HasFault-append held more n has), refl)

pub stops_large : (held : List ℕ) (left : Option (List ℕ)) → head_limit ≤ length held → ((more : List ℕ) → IsOpen (held ++ more)) → Stops (prepend_known held left) HeadTooLarge
stops_large held None large open_ = tt
stops_large held (Some more) large open_ = (too_large, (omega (arith, length-append held more), open_ more), refl)

pub stops_end : (held : List ℕ) (left : Option (List ℕ)) → length held < head_limit → IsOpen held → IsAtEnd left → IsEmptyLines held → Stops (prepend_known held left) End
stops_end held None short open_ at_end pairs = tt
stops_end held (Some more) short open_ at_end pairs =
    let whole : held ++ more ≡ held = ap (λ l. held ++ l) at_end ∙ append-nil held in
    subst (λ l. Gives l (stops End)) (sym whole) (ended, (short, open_, pairs), refl)

pub stops_inside : (held : List ℕ) (left : Option (List ℕ)) → length held < head_limit → IsOpen held → IsAtEnd left → ¬ IsEmptyLines held → Stops (prepend_known held left) EndedInside
stops_inside held None short open_ at_end pairs = tt
stops_inside held (Some more) short open_ at_end pairs =
    let whole : held ++ more ≡ held = ap (λ l. held ++ l) at_end ∙ append-nil held in
    subst (λ l. Gives l (stops EndedInside)) (sym whole) (inside, (short, open_, pairs), refl)

-- ---- a head, and what its rules make of it

-- the head that the spans cover stands at the front of the stream
pub begins : (held : List ℕ) (spans : List HeaderSpan) (at : HeadAt) (has : IsHeadAt held spans at) (more : List ℕ)
    → HasHead (held ++ more) has.head.0 (drop at.request.len held ++ more)
begins held spans at has more =
    let lines = take at.lines held in
    let len = at.request.len in
    let is = has.head.1 in
    let size : length lines ≡ at.lines = length-take-le at.lines held has.inside in
    let fits : len ≤ length lines = has.within.section.len_fits in
    let under = has.fits in
    let rest : drop len lines ++ drop at.lines held ≡ drop len held =
    sym (drop-append-le len lines (drop at.lines held) fits) ∙ ap (drop len) (take-append-drop at.lines held) in
    let whole : lines ++ (drop at.lines held ++ more) ≡ held ++ more =
    sym (append_assoc lines (drop at.lines held) more) ∙ ap (λ l. l ++ more) (take-append-drop at.lines held) in
    let after : drop len lines ++ (drop at.lines held ++ more) ≡ drop len held ++ more =
    sym (append_assoc (drop len lines) (drop at.lines held) more) ∙ ap (λ l. l ++ more) rest in
    subst₂ (λ s r. HasHead s has.head.0 r) whole after
    (HasHead-append lines (drop at.lines held ++ more) has.head.0 (drop len lines) (record { reads = is.reads; fits = omega (arith, is.len) }))

-- the fields that the spans cover
abbrev pub fields_at : List ℕ → List HeaderSpan → HeadAt → List Header
fields_at held spans at = map (header_bytes (take at.lines held)) (take at.request.headers spans)

pub length_rule : (held : List ℕ) (spans : List HeaderSpan) (at : HeadAt) (has : IsHeadAt held spans at) (r : Result ℕ Wire)
    → r ≡ body_length (fields_at held spans at) → body_length (named_fields has.head.0) ≡ r
length_rule held spans at has r e = sym (e ∙ ap body_length has.head.1.fields)

pub stops_refused : (held : List ℕ) (spans : List HeaderSpan) (at : HeadAt) (left : Option (List ℕ)) (wire : Wire) → IsHeadAt held spans at
    → Err wire ≡ body_length (fields_at held spans at) → Stops (prepend_known held left) wire
stops_refused held spans at None wire has e = tt
stops_refused held spans at (Some more) wire has e =
    let h = has.head.0 in
    let rest = drop at.request.len held ++ more in
    match_any (is_of_stream wire) (Gives (held ++ more) (stops wire))
    (message h rest, begins held spans at has more, sym (ap (with_body h rest) (length_rule held spans at has (Err wire) e)))

body_whole : (h : RequestHead) (rest body after : List ℕ) (n : ℕ) → rest ≡ body ++ after → length body ≡ n → with_body h rest (Ok n) ≡ whole (message_of h body) after
body_whole h rest body after n is size =
    let fits : n ≤ length rest = omega (arith, ap length is, length-append body after) in
    let front : take n rest ≡ body = ap (take n) is ∙ take_at body after n size in
    let back : drop n rest ≡ after = ap (drop n) is ∙ drop_at body after n size in
    cond-true (nat_le n (length rest)) (whole (message_of h (take n rest)) (drop n rest)) (stops EndedInside) (le-leb n (length rest) fits)
    ∙ ap (λ b. whole (message_of h b) (drop n rest)) front ∙ ap (λ r. whole (message_of h body) r) back

pub takes_one : (held : List ℕ) (spans : List HeaderSpan) (at : HeadAt) (left : Option (List ℕ)) (n : ℕ) (body now : List ℕ) (after : Option (List ℕ)) (m : Message)
    → (has : IsHeadAt held spans at) → Ok n ≡ body_length (fields_at held spans at) → length body ≡ n
    → Consumes (prepend_known (drop at.request.len held) left) (prepend_known now after) body → m ≡ message_of has.head.0 body
    → TakesOne (prepend_known held left) m (prepend_known now after)
takes_one held spans at None n body now after m has e size took is = tt
takes_one held spans at (Some more) n body now None m has e size took is = absurd took
takes_one held spans at (Some more) n body now (Some last) m has e size took is =
    let h = has.head.0 in
    let rest = drop at.request.len held ++ more in (
      message h rest,
      begins held spans at has more,
      sym (ap (with_body h rest) (length_rule held spans at has (Ok n) e) ∙ body_whole h rest body (now ++ last) n took size ∙ ap (λ x. whole x (now ++ last)) (sym is)),
    )

body_short : (h : RequestHead) (rest : List ℕ) (n : ℕ) → length rest < n → with_body h rest (Ok n) ≡ stops EndedInside
body_short h rest n short =
    cond-false (nat_le n (length rest)) (whole (message_of h (take n rest)) (drop n rest)) (stops EndedInside) (lt-leb n (length rest) short)

pub stops_short : (held : List ℕ) (spans : List HeaderSpan) (at : HeadAt) (left : Option (List ℕ)) (n : ℕ) → IsHeadAt held spans at
    → Ok n ≡ body_length (fields_at held spans at) → IfSome (prepend_known (drop at.request.len held) left) (λ bytes. length bytes < n)
    → Stops (prepend_known held left) EndedInside
stops_short held spans at None n has e short = tt
stops_short held spans at (Some more) n has e short =
    let h = has.head.0 in
    let rest = drop at.request.len held ++ more in
    (message h rest, begins held spans at has more, sym (ap (with_body h rest) (length_rule held spans at has (Ok n) e) ∙ body_short h rest n short))

stops_outside : (stream : Option (List ℕ)) (wire : Wire) → is_of_stream wire ≡ false → Stops stream wire
stops_outside None wire e = tt
stops_outside (Some bytes) wire e = subst (λ b. MatchBool b (Gives bytes (stops wire)) (Unit {0})) (sym e) tt

pub stops_body : (held : List ℕ) (spans : List HeaderSpan) (at : HeadAt) (left : Option (List ℕ)) (n before now : ℕ) (wire : Wire) → IsHeadAt held spans at
    → Ok n ≡ body_length (fields_at held spans at) → IsBodyStop n (prepend_known (drop at.request.len held) left) before now wire
    → Stops (prepend_known held left) wire
stops_body held spans at left n before now EndedInside has e stop = stops_short held spans at left n has e stop
stops_body held spans at left n before now ReadFault has e stop = stops_outside _ ReadFault refl
stops_body held spans at left n before now NoMemory has e stop = stops_outside _ NoMemory refl
stops_body held spans at left n before now End has e stop = absurd stop
stops_body held spans at left n before now HeadFault has e stop = absurd stop
stops_body held spans at left n before now HeadTooLarge has e stop = absurd stop
stops_body held spans at left n before now NoLength has e stop = absurd stop
stops_body held spans at left n before now BodyTooLarge has e stop = absurd stop

-- a piece that did not come says nothing of the stream
pub stops_unread : (stream : Option (List ℕ)) (before now : ℕ) (wire : Wire) → IsFillStop before now wire → Stops stream wire
stops_unread stream before now ReadFault stop = stops_outside _ ReadFault refl
stops_unread stream before now NoMemory stop = stops_outside _ NoMemory refl
stops_unread stream before now End stop = absurd stop
stops_unread stream before now HeadFault stop = absurd stop
stops_unread stream before now HeadTooLarge stop = absurd stop
stops_unread stream before now NoLength stop = absurd stop
stops_unread stream before now BodyTooLarge stop = absurd stop
stops_unread stream before now EndedInside stop = absurd stop

-- a stream that stayed the same gives the same message
pub TakesOne-kept : (a b c : Option (List ℕ)) (m : Message) → Keeps a b → TakesOne b m c → TakesOne a m c
TakesOne-kept None b c m kept took = tt
TakesOne-kept (Some xs) None c m kept took = absurd kept
TakesOne-kept (Some xs) (Some ys) None m kept took = absurd took
TakesOne-kept (Some xs) (Some ys) (Some zs) m kept took = subst (λ l. Gives l (whole m zs)) kept took

-- ---- the rules of a head refuse for three reasons, none of which says that the input has ended

chosen_is : (P : Wire → Type 0) → P HeadFault → P BodyTooLarge → (wire : Wire) (digits fits : Bool) (n : ℕ)
    → Err wire ≡ (if digits then (if fits then Ok n else Err BodyTooLarge) else Err HeadFault) → P wire
chosen_is P unfit large wire true true n e = cc
chosen_is P unfit large wire true false n e = let is : BodyTooLarge ≡ wire = cc in subst P is large
chosen_is P unfit large wire false fits n e = let is : HeadFault ≡ wire = cc in subst P is unfit

stated_is : (P : Wire → Type 0) → P HeadFault → P BodyTooLarge → (wire : Wire) (values : List (List ℕ)) → Err wire ≡ stated_length values → P wire
stated_is P unfit large wire [] e = cc
stated_is P unfit large wire (v ∷ []) e = chosen_is P unfit large wire (is_digits v) (nat_le (digits_value 10 v) body_limit) (digits_value 10 v) e
stated_is P unfit large wire (v ∷ w ∷ vs) e = let is : HeadFault ≡ wire = cc in subst P is unfit

rule_is : (P : Wire → Type 0) → P HeadFault → P BodyTooLarge → P NoLength → (wire : Wire) (codings lengths : List (List ℕ))
    → Err wire ≡ length_unless codings lengths → P wire
rule_is P unfit large none wire [] lengths e = stated_is P unfit large wire lengths e
rule_is P unfit large none wire (c ∷ cs) lengths e = let is : NoLength ≡ wire = cc in subst P is none

refused_is : (P : Wire → Type 0) → P HeadFault → P BodyTooLarge → P NoLength → (wire : Wire) (fields : List Header) → Err wire ≡ body_length fields → P wire
refused_is P unfit large none wire fields e =
    rule_is P unfit large none wire (values_named (codes "transfer-encoding") fields) (values_named (codes "content-length") fields) e

pub refused_ends : (left : Option (List ℕ)) (wire : Wire) (fields : List Header) → Err wire ≡ body_length fields → Ends left wire
refused_ends left wire fields e = refused_is (Ends left) tt tt tt wire fields e

-- a head that the rules refuse is no read that failed
pub OnlyReads-refused : (S T : Type 0) (before now : LinkState) (value : S) (wire : Wire) (fields : List Header) → OnlyReads {T = S} before now (Ok value)
    → Err wire ≡ body_length fields → OnlyReads {T = T} before now (Err wire)
OnlyReads-refused S T before now value wire fields call e = record {
  later = call.later;
  reads = refused_is (λ (w : Wire). CountsReads {T = T} before.read_faults now.read_faults (Err w)) call.reads call.reads call.reads wire fields e;
  written = call.written;
  write_faults = call.write_faults;
}

-- the fields of a head lie in it
pub fields_inside : (buf : List ℕ) (headers : List HeaderSpan) (len count : ℕ) → IsSectionWithin buf headers len count → All (IsHeaderWithin (length buf)) (take count headers)
fields_inside buf headers len count section k d below =
    let field = section.headers_fit k d below in
    ((field.0.0, le_trans field.0.1 section.len_fits), (field.1.0, le_trans field.1.1 section.len_fits))

-- ---- the length of a body by the counts of its fields

pub coded : (codings lengths : List (List ℕ)) (n : ℕ) → n ≡ length codings → 0 < n → Err NoLength ≡ length_unless codings lengths
coded [] lengths n count some = absurd (omega (arith, count))
coded (c ∷ cs) lengths n count some = refl

pub repeated : (codings lengths : List (List ℕ)) (n m : ℕ) → n ≡ length codings → n ≤ 0 → m ≡ length lengths → 1 < m → Err HeadFault ≡ length_unless codings lengths
repeated (c ∷ cs) lengths n m codings_are none count many = absurd (omega (arith, codings_are))
repeated [] [] n m codings_are none count many = absurd (omega (arith, count))
repeated [] (v ∷ []) n m codings_are none count many = absurd (omega (arith, count))
repeated [] (v ∷ w ∷ vs) n m codings_are none count many = refl

pub unstated : (codings lengths : List (List ℕ)) (n : ℕ) → n ≡ length codings → n ≤ 0 → None ≡ first_of lengths → Ok 0 ≡ length_unless codings lengths
unstated (c ∷ cs) lengths n codings_are none first = absurd (omega (arith, codings_are))
unstated [] [] n codings_are none first = refl
unstated [] (v ∷ vs) n codings_are none first = cc

pub stated : (codings lengths : List (List ℕ)) (value : List ℕ) (n m : ℕ) → n ≡ length codings → n ≤ 0 → m ≡ length lengths → m ≤ 1
    → Some value ≡ first_of lengths → length_of value ≡ length_unless codings lengths
stated (c ∷ cs) lengths value n m codings_are none count one first = absurd (omega (arith, codings_are))
stated [] [] value n m codings_are none count one first = cc
stated [] (v ∷ []) value n m codings_are none count one first = let is : value ≡ v = cc in ap length_of is
stated [] (v ∷ w ∷ vs) value n m codings_are none count one first = absurd (omega (arith, count))
