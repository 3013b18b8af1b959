-- Entries and what they tell.
use Rattle.std.proofs.Common.{◌≡◌, ℕ, zero, suc, ◌+◌, ◌-◌, ◌<◌, ◌≤◌, Bool, true, false, List, [], ◌∷◌, ◌++◌, map, length, replicate, Option, Some, None, option_map, refl, sym, ap, ◌∙◌, slice_get, slice_index_or, slice_set, subst, arith}
use Rattle.std.specs.Str.{bytes_eq}
use Rattle.claim_queue.specs.declared.entries.Entry.{Entry}
use Rattle.claim_queue.specs.declared.queues.Queue.{Queue}
use Rattle.claim_queue.specs.Held.{up_to}
use Rattle.claim_queue.specs.Waits.{Waiting, Waits, knows, raised, with_room, roomier, room_in, count_in, spare_in}
use Rattle.claim_queue.specs.Places.{name_at, told, told_rows, ArePlaced}
use Rattle.claim_queue.proofs.HeldLemmas.{within-held}
use Rattle.std.proofs.lemmas.List.{map-set}

-- ---- the places of entries

pub placed-set : (places : ℕ) (rows : List (Option Entry)) (row : ℕ) (entry : Entry) → entry.queue < places → ArePlaced places rows → ArePlaced places (slice_set rows row (Some entry))
placed-set places [] row entry here placed = tt
placed-set places (None ∷ rows) zero entry here placed = (here, placed)
placed-set places (Some e ∷ rows) zero entry here placed = (here, placed.1)
placed-set places (None ∷ rows) (suc row) entry here placed = placed-set places rows row entry here placed
placed-set places (Some e ∷ rows) (suc row) entry here placed = (placed.0, placed-set places rows row entry here placed.1)

pub placed-clear : (places : ℕ) (rows : List (Option Entry)) (row : ℕ) → ArePlaced places rows → ArePlaced places (slice_set rows row None)
placed-clear places [] row placed = tt
placed-clear places (None ∷ rows) zero placed = placed
placed-clear places (Some e ∷ rows) zero placed = placed.1
placed-clear places (None ∷ rows) (suc row) placed = placed-clear places rows row placed
placed-clear places (Some e ∷ rows) (suc row) placed = (placed.0, placed-clear places rows row placed.1)

none-placed : (places more : ℕ) → ArePlaced places (replicate more None)
none-placed places zero = tt
none-placed places (suc more) = none-placed places more

pub placed-more : (places : ℕ) (rows : List (Option Entry)) (more : ℕ) → ArePlaced places rows → ArePlaced places (rows ++ replicate more None)
placed-more places [] more placed = none-placed places more
placed-more places (None ∷ rows) more placed = placed-more places rows more placed
placed-more places (Some e ∷ rows) more placed = (placed.0, placed-more places rows more placed.1)

pub placed-wider : (places wider : ℕ) (rows : List (Option Entry)) → places ≤ wider → ArePlaced places rows → ArePlaced wider rows
placed-wider places wider [] le placed = tt
placed-wider places wider (None ∷ rows) le placed = placed-wider places wider rows le placed
placed-wider places wider (Some e ∷ rows) le placed = (let h = placed.0 in omega arith, placed-wider places wider rows le placed.1)

pub name-front : (queues more : List Queue) (place : ℕ) → place < length queues → name_at place (queues ++ more) ≡ name_at place queues
name-front [] more place within = absurd (omega arith)
name-front (queue ∷ queues) more zero within = refl
name-front (queue ∷ queues) more (suc place) within = name-front queues more place (omega arith)

pub name-raised : (name : List ℕ) (room : ℕ) (queues : List Queue) (place : ℕ) → name_at place (map (raised name room) queues) ≡ name_at place queues
name-raised name room [] place = refl
name-raised name room (queue ∷ queues) zero = by (bytes_eq queue.name name) refl where
  by : (t : Bool) → bytes_eq queue.name name ≡ t → name_at zero (map (raised name room) (queue ∷ queues)) ≡ queue.name
  by true is = rw is refl
  by false is = rw is refl
name-raised name room (queue ∷ queues) (suc place) = name-raised name room queues place

-- entries tell the same where their queues have the same names
told-same : (before after : List Queue) (rows : List (Option Entry)) → ArePlaced (length before) rows → ((place : ℕ) → place < length before → name_at place after ≡ name_at place before) → told_rows after rows ≡ told_rows before rows
told-same before after [] placed same = refl
told-same before after (None ∷ rows) placed same = ap (λ zs. None ∷ zs) (told-same before after rows placed same)
told-same before after (Some e ∷ rows) placed same =
    let first : told after e ≡ told before e =
    ap (λ (name : List ℕ). let w : Waiting = record { queue = name; priority = e.priority; number = e.number } in w) (same e.queue placed.0) in
    ap (λ (w : Waiting). Some w ∷ told_rows after rows) first ∙ ap (λ zs. Some (told before e) ∷ zs) (told-same before after rows placed.1 same)

-- one more queue changes nothing of what placed entries tell
pub told-wider : (queues more : List Queue) (rows : List (Option Entry)) → ArePlaced (length queues) rows → told_rows (queues ++ more) rows ≡ told_rows queues rows
told-wider queues more rows placed = told-same queues (queues ++ more) rows placed (λ place within. name-front queues more place within)

-- and no more does room in a queue
pub told-raised : (name : List ℕ) (room : ℕ) (queues : List Queue) (rows : List (Option Entry)) → ArePlaced (length queues) rows → told_rows (map (raised name room) queues) rows ≡ told_rows queues rows
told-raised name room queues rows placed = told-same queues (map (raised name room) queues) rows placed (λ place within. name-raised name room queues place)

map-none : (queues : List Queue) (more : ℕ) → told_rows queues (replicate more None) ≡ replicate more None
map-none queues zero = refl
map-none queues (suc more) = ap (λ zs. None ∷ zs) (map-none queues more)

told-append : (queues : List Queue) (xs ys : List (Option Entry)) → told_rows queues (xs ++ ys) ≡ told_rows queues xs ++ told_rows queues ys
told-append queues [] ys = refl
told-append queues (x ∷ xs) ys = ap (λ zs. option_map (told queues) x ∷ zs) (told-append queues xs ys)

told-length : (queues : List Queue) (rows : List (Option Entry)) → length (told_rows queues rows) ≡ length rows
told-length queues [] = refl
told-length queues (row ∷ rows) = ap suc (told-length queues rows)

-- further entries are further rows that wait
pub told-up_to : (queues : List Queue) (below : ℕ) (rows : List (Option Entry)) → told_rows queues (up_to below rows) ≡ up_to below (told_rows queues rows)
told-up_to queues below rows =
    let fill = below - length rows in
    told-append queues rows (replicate fill None) ∙ (ap (λ zs. told_rows queues rows ++ zs) (map-none queues fill) ∙ ap (λ n. told_rows queues rows ++ replicate (below - n) None) (sym (told-length queues rows)))

-- the name of the queue that stands at a place
pub name-here : (queues : List Queue) (place : ℕ) (d : Queue) → place < length queues → name_at place queues ≡ (slice_index_or queues place d).name
name-here [] place d within = absurd (omega arith)
name-here (queue ∷ queues) zero d within = refl
name-here (queue ∷ queues) (suc place) d within = name-here queues place d (omega arith)

-- a queue that stands at no place has no room
no-room : (name : List ℕ) (queues : List Queue) → ((place : ℕ) → place < length queues → bytes_eq (name_at place queues) name ≡ false) → room_in name queues ≡ 0
no-room name [] none = refl
no-room name (queue ∷ queues) none =
    let first : bytes_eq queue.name name ≡ false = none 0 (omega arith) in
    rw first (no-room name queues (λ place within. none (suc place) (omega arith)))

pub no-spare : (name : List ℕ) (queues : List Queue) (waits : Waits) → waits.queues ≡ queues → ((place : ℕ) → place < length queues → bytes_eq (name_at place queues) name ≡ false) → 1 ≤ spare_in name waits → ⊥
no-spare name queues waits is none spare =
    let zero_ : room_in name waits.queues ≡ 0 = ap (room_in name) is ∙ no-room name queues none in
    let P : ℕ → Type 0 = λ n. 1 ≤ n - count_in name waits in
    let left : 1 ≤ 0 - count_in name waits = subst P zero_ spare in
    omega arith

-- and no room is left in it
pub spare-none : (name : List ℕ) (queues : List Queue) (waits : Waits) → queues ≡ waits.queues → ((place : ℕ) → place < length queues → bytes_eq (name_at place queues) name ≡ false) → 0 ≡ spare_in name waits
spare-none name queues waits same none =
    let zero_ : room_in name waits.queues ≡ 0 = ap (room_in name) (sym same) ∙ no-room name queues none in
    let left : 0 - count_in name waits ≡ 0 = omega arith in
    sym (ap (λ n. n - count_in name waits) zero_ ∙ left)

-- a row that is told stands among the entries
pub told-within : (queues : List Queue) (rows : List (Option Entry)) (waits : Waits) (row : ℕ) → waits.rows ≡ told_rows queues rows → slice_get waits.rows row ≡ Some None → row < length rows
told-within queues rows waits row is absent =
    let within = within-held waits.rows row None absent in
    let len : length waits.rows ≡ length rows = ap length is ∙ told-length queues rows in
    omega arith

-- an entry that is written is told
pub told-set : (queues : List Queue) (rows : List (Option Entry)) (waits : Waits) (row : ℕ) (entry : Entry) (name : List ℕ) → queues ≡ waits.queues → told_rows queues rows ≡ waits.rows → name_at entry.queue queues ≡ name
    → told_rows queues (slice_set rows row (Some entry)) ≡ slice_set waits.rows row (Some (record { queue = name; priority = entry.priority; number = entry.number }))
told-set queues rows waits row entry name is told_ named =
    map-set (option_map (told queues)) rows row (Some entry)
    ∙ (ap (λ (l : List (Option Waiting)). slice_set l row (Some (told queues entry))) told_
    ∙ ap (λ (n : List ℕ). slice_set waits.rows row (Some (record { queue = n; priority = entry.priority; number = entry.number }))) named)

pub told-clear : (queues : List Queue) (rows : List (Option Entry)) (waits : Waits) (row : ℕ) → told_rows queues rows ≡ waits.rows → told_rows queues (slice_set rows row None) ≡ slice_set waits.rows row None
told-clear queues rows waits row told_ =
    map-set (option_map (told queues)) rows row None ∙ ap (λ (l : List (Option Waiting)). slice_set l row None) told_

-- ---- the collection as it is seen

abbrev pub waits_of : List Queue → List (Option Waiting) → Waits
waits_of queues rows = record { queues = queues; rows = rows }

pub waits-same : (queues later : List Queue) (rows after : List (Option Waiting)) → queues ≡ later → rows ≡ after → waits_of queues rows ≡ waits_of later after
waits-same queues later rows after p q = ap (λ (k : List Queue). waits_of k rows) p ∙ ap (λ (r : List (Option Waiting)). waits_of later r) q

-- nothing is changed
pub stays-shown : (queues later : List Queue) (rows after : List (Option Entry)) (waits : Waits) → later ≡ queues → after ≡ rows → waits_of queues (told_rows queues rows) ≡ waits → waits_of later (told_rows later after) ≡ waits
stays-shown queues later rows after waits same_queues same_rows seen =
    ap (λ (k : List Queue). waits_of k (told_rows k after)) same_queues ∙ (ap (λ (r : List (Option Entry)). waits_of queues (told_rows queues r)) same_rows ∙ seen)

-- room is made in a queue that is known
pub wider-shown : (name : List ℕ) (room below : ℕ) (queues after : List Queue) (rows later : List (Option Entry)) (waits : Waits) → ArePlaced (length queues) rows → queues ≡ waits.queues → told_rows queues rows ≡ waits.rows
    → after ≡ map (raised name room) queues → later ≡ up_to below rows → waits_of after (told_rows after later) ≡ waits_of (map (raised name room) waits.queues) (up_to below waits.rows)
wider-shown name room below queues after rows later waits placed same told_ after_is later_is =
    let new_rows : told_rows after later ≡ up_to below waits.rows =
    ap (told_rows after) later_is ∙ (ap (λ (k : List Queue). told_rows k (up_to below rows)) after_is
    ∙ (told-raised name room queues (up_to below rows) (placed-more (length queues) rows (below - length rows) placed)
    ∙ (told-up_to queues below rows ∙ ap (up_to below) told_))) in
    waits-same after (map (raised name room) waits.queues) (told_rows after later) (up_to below waits.rows) (after_is ∙ ap (map (raised name room)) same) new_rows

pub known-roomier : (name : List ℕ) (more below room : ℕ) (waits : Waits) → room ≡ count_in name waits + more → knows name waits.queues ≡ true → waits_of (map (raised name room) waits.queues) (up_to below waits.rows) ≡ roomier name more below waits
known-roomier name more below room waits room_is known =
    let wanted : with_room name (count_in name waits + more) waits.queues ≡ map (raised name (count_in name waits + more)) waits.queues = rw known refl in
    ap (λ (k : List Queue). waits_of k (up_to below waits.rows)) (ap (λ n. map (raised name n) waits.queues) room_is ∙ sym wanted)

-- room is made in a queue that was not known
pub new-shown : (name : List ℕ) (room below : ℕ) (queues after : List Queue) (rows later : List (Option Entry)) (waits : Waits) → ArePlaced (length queues) rows → queues ≡ waits.queues → told_rows queues rows ≡ waits.rows
    → after ≡ queues ++ record { name = name; room = room } ∷ [] → later ≡ up_to below rows → waits_of after (told_rows after later) ≡ waits_of (waits.queues ++ record { name = name; room = room } ∷ []) (up_to below waits.rows)
new-shown name room below queues after rows later waits placed same told_ after_is later_is =
    let made : Queue = record { name = name; room = room } in
    let new_rows : told_rows after later ≡ up_to below waits.rows =
    ap (told_rows after) later_is ∙ (ap (λ (k : List Queue). told_rows k (up_to below rows)) after_is
    ∙ (told-wider queues (made ∷ []) (up_to below rows) (placed-more (length queues) rows (below - length rows) placed)
    ∙ (told-up_to queues below rows ∙ ap (up_to below) told_))) in
    waits-same after (waits.queues ++ made ∷ []) (told_rows after later) (up_to below waits.rows) (after_is ∙ ap (λ (k : List Queue). k ++ made ∷ []) same) new_rows

pub new-roomier : (name : List ℕ) (more below room : ℕ) (waits : Waits) → room ≡ count_in name waits + more → knows name waits.queues ≡ false → waits_of (waits.queues ++ record { name = name; room = room } ∷ []) (up_to below waits.rows) ≡ roomier name more below waits
new-roomier name more below room waits room_is known =
    let made : ℕ → Queue = λ n. record { name = name; room = n } in
    let wanted : with_room name (count_in name waits + more) waits.queues ≡ waits.queues ++ made (count_in name waits + more) ∷ [] = rw known refl in
    ap (λ (k : List Queue). waits_of k (up_to below waits.rows)) (ap (λ n. waits.queues ++ made n ∷ []) room_is ∙ sym wanted)

pub placed-after : (places wider : ℕ) (rows later : List (Option Entry)) (below : ℕ) → ArePlaced places rows → places ≤ wider → later ≡ up_to below rows → ArePlaced wider later
placed-after places wider rows later below placed le is =
    let P : List (Option Entry) → Type 0 = λ r. ArePlaced wider r in
    subst P (sym is) (placed-more wider rows (below - length rows) (placed-wider places wider rows le placed))

-- a row that tells nothing has no entry
none-told : (queues : List Queue) (rows : List (Option Entry)) (row : ℕ) → slice_get (told_rows queues rows) row ≡ Some None → slice_get rows row ≡ Some None
none-told queues [] row none = cc
none-told queues (None ∷ rows) zero none = refl
none-told queues (Some e ∷ rows) zero none = absurd (cc)
none-told queues (o ∷ rows) (suc row) none = none-told queues rows row none

pub not-told : (queues : List Queue) (rows : List (Option Entry)) (waits : Waits) (row : ℕ) → told_rows queues rows ≡ waits.rows → slice_get waits.rows row ≡ Some None → slice_get rows row ≡ Some None
not-told queues rows waits row is none = none-told queues rows row (ap (λ (l : List (Option Waiting)). slice_get l row) is ∙ none)
