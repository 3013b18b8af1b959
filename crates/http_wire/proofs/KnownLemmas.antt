-- What reads do to the bytes held and those that are left.
use Rattle.std.proofs.Common.{◌≡◌, ℕ, ◌+◌, ◌-◌, ◌<◌, ◌≤◌, Bool, true, false, ◌⊎◌, ⊎_elim, min, inl, inr, le_refl, List, [], ◌++◌, Option, Some, None, length, take, drop, sym, ap, ◌∙◌, subst, subst₂, arith, append_assoc, append-nil, length-append, length-drop, length-take-le, take-append-drop, take_all}
use Rattle.std.proofs.lemmas.List.{take-append-le, take_at, drop_all, drop-drop, nil_from_length}
use Rattle.std.proofs.lemmas.Bool.{cases_lt}
use Rattle.std.proofs.Math.Seq.{take-append-add}
use Rattle.std.specs.Bool.{MatchBool}
use Rattle.std.proofs.KnownBytes.{Keeps-trans}
use Rattle.std.specs.Io.KnownBytes.{prepend_known, Keeps, Consumes}
use Rattle.http_wire.specs.declared.message.Wire.{Wire}
use Rattle.http_wire.specs.declared.message.Wire.TheVariants.{End, HeadFault, HeadTooLarge, NoLength, BodyTooLarge, EndedInside, ReadFault, NoMemory}
use Rattle.http_wire.specs.Reading.{Loses, IsFillStop, IsReadStop, IsBodyStop, Ends, keeps_all, Leaves}

-- what was read to the end of the bytes held keeps the stream
pub Keeps-grown : (held bs : List ℕ) (a b : Option (List ℕ)) → Consumes a b bs → Keeps (prepend_known held a) (prepend_known (held ++ bs) b)
Keeps-grown held bs None b read = tt
Keeps-grown held bs (Some xs) None read = absurd read
Keeps-grown held bs (Some xs) (Some ys) read = append_assoc held bs ys ∙ ap (λ l. held ++ l) (sym read)

-- the bytes of a vector after a read into the room behind the first n
pub grown_by_read : (now held zeros buf after rest : List ℕ) (n count : ℕ) → now ≡ held ++ zeros → length held ≡ n → count ≤ length buf
    → take (n + count) ((take n now ++ (buf ++ after)) ++ rest) ≡ held ++ take count buf
grown_by_read now held zeros buf after rest n count is size fits =
    let front : take n now ≡ held = ap (take n) is ∙ take_at held zeros n size in
    ap (take (n + count)) (append_assoc (take n now) (buf ++ after) rest)
    ∙ ap (λ l. take (n + count) (l ++ ((buf ++ after) ++ rest))) front
    ∙ ap (λ k. take (k + count) (held ++ ((buf ++ after) ++ rest))) (sym size)
    ∙ take-append-add held ((buf ++ after) ++ rest) count
    ∙ ap (λ l. held ++ l) (ap (take count) (append_assoc buf after rest) ∙ take-append-le count buf (after ++ rest) fits)

-- a read that gave nothing lost nothing
pub Loses-none : (a b : Option (List ℕ)) → Keeps a b → Loses a b
Loses-none None b kept = ([], tt)
Loses-none (Some xs) None kept = absurd kept
Loses-none (Some xs) (Some ys) kept = ([], sym kept)

-- the bytes held and those read after them
pub Consumes-held : (held bs : List ℕ) (a b : Option (List ℕ)) → Consumes a b bs → Consumes (prepend_known held a) b (held ++ bs)
Consumes-held held bs None b read = tt
Consumes-held held bs (Some xs) None read = absurd read
Consumes-held held bs (Some xs) (Some ys) read = ap (λ l. held ++ l) read ∙ sym (append_assoc held bs ys)

-- the first bytes held, and those read where none are held behind them
pub Consumes-body : (first post bs : List ℕ) (a b : Option (List ℕ)) → (post ≡ []) ⊎ (bs ≡ []) → Consumes a b bs
    → Consumes (prepend_known (first ++ post) a) (prepend_known post b) (first ++ bs)
Consumes-body first post bs None b one read = tt
Consumes-body first post bs (Some xs) None one read = absurd read
Consumes-body first post bs (Some xs) (Some ys) (inl none) read =
    ap (λ l. (first ++ l) ++ xs) none ∙ ap (λ l. l ++ xs) (append-nil first) ∙ ap (λ l. first ++ l) read
    ∙ sym (append_assoc first bs ys) ∙ ap (λ l. (first ++ bs) ++ (l ++ ys)) (sym none)
Consumes-body first post bs (Some xs) (Some ys) (inr none) read =
    append_assoc first post xs ∙ ap (λ l. first ++ (post ++ l)) (read ∙ ap (λ l. l ++ ys) none)
    ∙ ap (λ l. l ++ (post ++ ys)) (sym (append-nil first)) ∙ ap (λ l. (first ++ l) ++ (post ++ ys)) (sym none)

-- why a body did not come, with the bytes of it that are held
pub IsBodyStop-held : (held : List ℕ) (left : Option (List ℕ)) (have n size before now : ℕ) (wire : Wire) → have + n ≡ size
    → (length held ≡ have) ⊎ (n ≡ 0) → IsReadStop n left before now wire → IsBodyStop size (prepend_known held left) before now wire
IsBodyStop-held held None have n size before now EndedInside sum one stop = tt
IsBodyStop-held held (Some xs) have n size before now EndedInside sum (inl all) stop = omega (arith, length-append held xs)
IsBodyStop-held held (Some xs) have n size before now EndedInside sum (inr none) stop = absurd (omega arith)
IsBodyStop-held held left have n size before now ReadFault sum one stop = stop
IsBodyStop-held held left have n size before now NoMemory sum one stop = tt
IsBodyStop-held held left have n size before now End sum one stop = stop
IsBodyStop-held held left have n size before now HeadFault sum one stop = stop
IsBodyStop-held held left have n size before now HeadTooLarge sum one stop = stop
IsBodyStop-held held left have n size before now NoLength sum one stop = stop
IsBodyStop-held held left have n size before now BodyTooLarge sum one stop = stop

-- ---- what a call leaves

pub match_any : (b : Bool) (P : Type 0) → P → MatchBool b P (Unit {0})
match_any true P p = p
match_any false P p = tt

leaves_any : (b : Bool) (P Q : Type 0) → P → (P → Q) → MatchBool b P Q
leaves_any true P Q p f = p
leaves_any false P Q p f = f p

-- all of the stream is left
pub Leaves-kept : (a b : Option (List ℕ)) (wire : Wire) → Keeps a b → Leaves a b wire
Leaves-kept a b wire kept = leaves_any (keeps_all wire) (Keeps a b) (Loses a b) kept (Loses-none a b)

Loses-kept : (a b c : Option (List ℕ)) → Keeps a b → Loses b c → Loses a c
Loses-kept None b c kept lost = ([], tt)
Loses-kept (Some xs) None c kept lost = absurd kept
Loses-kept (Some xs) (Some ys) c kept (gone, lost) = (gone, subst (λ l. Consumes (Some l) c gone) kept lost)

then_any : (b : Bool) (P Q R S : Type 0) → (P → R) → (Q → S) → MatchBool b P Q → MatchBool b R S
then_any true P Q R S f g m = f m
then_any false P Q R S f g m = g m

-- a call that kept the stream, and then one that left this of it
pub Leaves-then : (a b c : Option (List ℕ)) (wire : Wire) → Keeps a b → Leaves b c wire → Leaves a c wire
Leaves-then a b c wire kept = then_any (keeps_all wire) (Keeps b c) (Loses b c) (Keeps a c) (Loses a c) (Keeps-trans a b c kept) (Loses-kept a b c kept)

Loses-cleared : (held now : List ℕ) (a b : Option (List ℕ)) → now ≡ [] → Loses a b → Loses (prepend_known held a) (prepend_known now b)
Loses-cleared held now None b none lost = ([], tt)
Loses-cleared held now (Some xs) None none (gone, lost) = absurd lost
Loses-cleared held now (Some xs) (Some ys) none (gone, lost) =
    (held ++ gone, ap (λ l. held ++ l) lost ∙ sym (append_assoc held gone ys) ∙ ap (λ l. (held ++ gone) ++ (l ++ ys)) (sym none))

-- a read that was cut off, after which nothing is held
pub Leaves-cleared : (held now : List ℕ) (a b : Option (List ℕ)) (n before after : ℕ) (left : Option (List ℕ)) (wire : Wire) → now ≡ []
    → IsReadStop n left before after wire → Loses a b → Leaves (prepend_known held a) (prepend_known now b) wire
Leaves-cleared held now a b n before after left EndedInside none stop lost = Loses-cleared held now a b none lost
Leaves-cleared held now a b n before after left ReadFault none stop lost = Loses-cleared held now a b none lost
Leaves-cleared held now a b n before after left NoMemory none stop lost = absurd stop
Leaves-cleared held now a b n before after left End none stop lost = absurd stop
Leaves-cleared held now a b n before after left HeadFault none stop lost = absurd stop
Leaves-cleared held now a b n before after left HeadTooLarge none stop lost = absurd stop
Leaves-cleared held now a b n before after left NoLength none stop lost = absurd stop
Leaves-cleared held now a b n before after left BodyTooLarge none stop lost = absurd stop

-- ---- a body

-- where the bytes held end in the body, none is held behind it, and else none of it is read
body_ends : (held buf : List ℕ) (start have size : ℕ) → have ≡ min (length held - start) size → start ≤ length held → have + length buf ≡ size
    → (drop (start + have) held ≡ []) ⊎ (buf ≡ [])
body_ends held buf start have size least within sum =
    ⊎_elim
    (λ (lt : length held - start < size). inl (drop_all (start + have) held (omega arith)))
    (λ (ge : size ≤ length held - start). inr (nil_from_length buf (omega arith)))
    (cases_lt (length held - start) size)

-- the bytes of the body that were held, and those that were read after them
pub body_taken : (held now zeros buf after rest kept : List ℕ) (start have size m : ℕ) (a b : Option (List ℕ)) → have ≡ min (length held - start) size → start ≤ length held
    → now ≡ take have (drop start held) ++ zeros → have + length buf ≡ size → m ≡ size → kept ≡ drop (start + have) held → Consumes a b buf
    → Consumes (prepend_known (drop start held) a) (prepend_known kept b) (take m ((take have now ++ (buf ++ after)) ++ rest))
body_taken held now zeros buf after rest kept start have size m a b least within is sum all left read =
    let first = take have (drop start held) in
    let long : length (drop start held) ≡ length held - start = length-drop start held in
    let front : length first ≡ have = length-take-le have (drop start held) (omega arith) in
    let total : m ≡ have + length buf = omega arith in
    let bytes : take m ((take have now ++ (buf ++ after)) ++ rest) ≡ first ++ buf =
    ap (λ k. take k ((take have now ++ (buf ++ after)) ++ rest)) total
    ∙ grown_by_read now first zeros buf after rest have (length buf) is front (le_refl (length buf))
    ∙ ap (λ l. first ++ l) (take_all (length buf) buf (le_refl (length buf))) in
    let split : first ++ drop (start + have) held ≡ drop start held =
    ap (λ l. first ++ l) (sym (drop-drop have start held)) ∙ take-append-drop have (drop start held) in
    let whole = Consumes-body first (drop (start + have) held) buf a b (body_ends held buf start have size least within sum) read in
    subst (λ bs. Consumes (prepend_known (drop start held) a) (prepend_known kept b) bs) (sym bytes)
    (subst₂ (λ s k. Consumes (prepend_known s a) (prepend_known k b) (first ++ buf)) split (sym left) whole)

-- why a body did not come, with the bytes of it that are held
pub body_stop : (held : List ℕ) (start have n size : ℕ) (left : Option (List ℕ)) (before now : ℕ) (wire : Wire) → have ≡ min (length held - start) size → start ≤ length held
    → have + n ≡ size → IsReadStop n left before now wire → IsBodyStop size (prepend_known (drop start held) left) before now wire
body_stop held start have n size left before now wire least within sum stop =
    IsBodyStop-held (drop start held) left have n size before now wire sum
    (⊎_elim
    (λ (lt : length held - start < size). inl (length-drop start held ∙ (omega arith)))
    (λ (ge : size ≤ length held - start). inr (omega arith))
    (cases_lt (length held - start) size))
    stop

-- a piece that did not come is no end of the input
pub fill_ends : (before now : ℕ) (left : Option (List ℕ)) (wire : Wire) → IsFillStop before now wire → Ends left wire
fill_ends before now left ReadFault stop = tt
fill_ends before now left NoMemory stop = tt
fill_ends before now left End stop = absurd stop
fill_ends before now left HeadFault stop = absurd stop
fill_ends before now left HeadTooLarge stop = absurd stop
fill_ends before now left NoLength stop = absurd stop
fill_ends before now left BodyTooLarge stop = absurd stop
fill_ends before now left EndedInside stop = absurd stop
