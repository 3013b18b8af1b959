-- What replaying bodies leaves, and where one is broken.
use Rattle.std.proofs.Common.{◌≡◌, ◌↔◌, ℕ, zero, suc, ◌+◌, ◌<◌, true, false, Bool, List, [], ◌∷◌, ◌++◌, length, take, drop, cond, slice_index_or, Option, Some, None, Result, Ok, Err, refl, sym, ap, ◌∙◌, subst, arith, append_assoc, inl, inr}
use Rattle.std.proofs.Math.ListN.{length-append}
use Rattle.std.proofs.Math.Seq.{drop-cons}
use Rattle.std.proofs.lemmas.List.{take-append-drop, take_more}
use Rattle.disk_journal.specs.Records.{sized, records, Opens, placed}
use Rattle.disk_journal.specs.Images.{IsWithin}
use Rattle.disk_journal.proofs.LawLemmas.{opens_one, opens_whole, image_opens, within_image}
use Rattle.disk_journal.proofs.RecordLemmas.{length-sized}
use Rattle.task_types.specs.declared.change.Change.{Change}
use Rattle.farm_record.specs.Records.{IsRecord}
use Rattle.task_index.specs.Contents.{Contents, no_contents}
use Rattle.farm_machine.specs.Replay.{may_replay, after_replay, replayed, IsTried}
use Rattle.farm_machine.proofs.ReplayLemmas.{replayed-push, replayed-append}
use Rattle.farm_core.specs.Opened.{Replays, IsBroken, IsFarmDamaged}
use Rattle.farm_core.specs.Reading.{IsRead}
use Rattle.farm_core.specs.Records.{AreRecords}
use Rattle.farm_core.proofs.RecordLemmas.{records-append}

pub replays-none : Replays [] no_contents
replays-none = record { changes = []; recorded = refl; leaves = refl }

pub replays-push : (bodies : List (List ℕ)) (contents : Contents) (body : List ℕ) (change : Change) → Replays bodies contents → IsRecord change body → may_replay contents change ≡ true → Replays (bodies ++ body ∷ []) (after_replay contents change)
replays-push bodies contents body change r is may = record {
  changes = r.changes ++ change ∷ [];
  recorded = records-append r.changes (change ∷ []) bodies (body ∷ []) r.recorded (is, refl);
  leaves = replayed-push no_contents contents r.changes change r.leaves may;
}

-- the place of a gate is the length of what stands before it
pub place-is : (at : ℕ) (bodies : List (List ℕ)) (index : ℕ) → index < length bodies → (slice_index_or (placed at bodies) index (0, [])).0 ≡ at + length (records (take index bodies))
place-is at [] index within = absurd (omega arith)
place-is at (body ∷ bodies) zero within = omega arith
place-is at (body ∷ bodies) (suc index) within =
    let rest = place-is (at + 5 + length body) bodies index (omega arith) in
    let whole : length (sized body ++ records (take index bodies)) ≡ length (sized body) + length (records (take index bodies)) = length-append (sized body) (records (take index bodies)) in
    let size : length (sized body) ≡ 4 + length body = length-sized body in
    omega arith

-- ---- an image opens

-- a record is of one change
abbrev pub OneChange : Type 0
OneChange = (a b : Change) (bytes : List ℕ) → IsRecord a bytes → IsRecord b bytes → a ≡ b

pub records-one : OneChange → (changes others : List Change) (bodies : List (List ℕ)) → AreRecords changes bodies → AreRecords others bodies → changes ≡ others
records-one one [] [] bodies are them = refl
records-one one [] (other ∷ others) [] are them = absurd them
records-one one [] (other ∷ others) (body ∷ bodies) are them = cc
records-one one (change ∷ changes) others [] are them = absurd are
records-one one (change ∷ changes) [] (body ∷ bodies) are them = cc
records-one one (change ∷ changes) (other ∷ others) (body ∷ bodies) are them =
    let first : change ≡ other = one change other body are.0 them.0 in
    let rest : changes ≡ others = records-one one changes others bodies are.1 them.1 in
    rw (first, rest) refl

-- the records of a front and of what is behind it
pub record Splits (changes : List Change) (before rest : List (List ℕ)) : Type 0 where
  pub first : List Change
  pub others : List Change
  pub are : changes ≡ first ++ others
  pub front : AreRecords first before
  pub back : AreRecords others rest

records-split : (changes : List Change) (before rest : List (List ℕ)) → AreRecords changes (before ++ rest) → Splits changes before rest
records-split changes [] rest are = record { first = []; others = changes; are = refl; front = refl; back = are }
records-split [] (body ∷ before) rest are = cc
records-split (change ∷ changes) (body ∷ before) rest are =
    let more = records-split changes before rest are.1 in
    record { first = change ∷ more.first; others = more.others; are = ap (λ (l : List Change). change ∷ l) more.are; front = (are.0, more.front); back = more.back }

-- what replays further may come
may-come : (contents last : Contents) (change : Change) (changes : List Change) → replayed contents (change ∷ changes) ≡ Some last → may_replay contents change ≡ true
may-come contents last change changes is = by (may_replay contents change) refl where
  by : (b : Bool) → may_replay contents change ≡ b → may_replay contents change ≡ true
  by true may = may
  by false not_ =
      let none : replayed contents (change ∷ changes) ≡ None = ap (λ (b : Bool). cond b (replayed (after_replay contents change) changes) None) not_ in
      cc

-- no body of those that replay is broken
pub unbroken : OneChange → (before rest : List (List ℕ)) (body : List ℕ) (contents last : Contents) → Replays (before ++ body ∷ rest) last → Replays before contents → ((change : Change) → IsRecord change body → may_replay contents change ≡ false) → ⊥
unbroken one before rest body contents last whole front broken = by split.others refl where
  split : Splits whole.changes before (body ∷ rest)
  split = records-split whole.changes before (body ∷ rest) whole.recorded

  by : (others : List Change) → split.others ≡ others → ⊥
  by [] is = let none : AreRecords [] (body ∷ rest) = subst (λ (l : List Change). AreRecords l (body ∷ rest)) is split.back in cc
  by (change ∷ changes) is =
      let back : AreRecords (change ∷ changes) (body ∷ rest) = subst (λ (l : List Change). AreRecords l (body ∷ rest)) is split.back in
      let same : split.first ≡ front.changes = records-one one split.first front.changes before split.front front.recorded in
      let all : whole.changes ≡ front.changes ++ change ∷ changes = split.are ∙ (ap (λ (l : List Change). l ++ split.others) same ∙ ap (λ (l : List Change). front.changes ++ l) is) in
      let leads : replayed no_contents (front.changes ++ change ∷ changes) ≡ Some last = sym (ap (replayed no_contents) all) ∙ whole.leaves in
      let behind : replayed contents (change ∷ changes) ≡ Some last = sym (replayed-append no_contents contents front.changes (change ∷ changes) front.leaves) ∙ leads in
      let may : may_replay contents change ≡ true = may-come contents last change changes behind in
      let not_ : may_replay contents change ≡ false = broken change back.0 in
      cc

-- a file that opens to a front of bodies that replay is no damaged one
pub image-sound : OneChange → (file : List ℕ) (opened rest : List (List ℕ)) (last : Contents) (place : ℕ) → Replays (opened ++ rest) last → Opens [] file opened → IsFarmDamaged file place → ⊥
image-sound one file opened rest last place whole opens (inl (bodies, behind, replays)) = opens_whole [] file opened place opens behind.0
image-sound one file opened rest last place whole opens (inr (bodies, inr (at, behind), broken)) = opens_whole [] file opened at opens behind.0
image-sound one file opened rest last place whole opens (inr (bodies, inl others, broken)) =
    let same : opened ≡ broken.before ++ broken.body ∷ broken.after = opens_one [] file opened bodies opens others ∙ broken.are in
    let all : opened ++ rest ≡ broken.before ++ broken.body ∷ (broken.after ++ rest) =
    ap (λ (l : List (List ℕ)). l ++ rest) same ∙ append_assoc broken.before (broken.body ∷ broken.after) rest in
    unbroken one broken.before (broken.after ++ rest) broken.body broken.contents last (subst (λ (l : List (List ℕ)). Replays l last) all whole) broken.replays broken.broken

pub within-sound : OneChange → (file : List ℕ) (bodies more : List (List ℕ)) (last : Contents) (place : ℕ) → Replays (bodies ++ more) last → IsWithin [] bodies more file → IsFarmDamaged file place → ⊥
within-sound one file bodies more last place whole within damaged =
    let found = within_image [] file bodies more within in
    let (count, pending, image) = found in
    let opens = image_opens [] (bodies ++ take count more) pending file image in
    let cut : take count more ++ drop count more ≡ more = take-append-drop count more in
    let all : bodies ++ more ≡ (bodies ++ take count more) ++ drop count more = ap (λ (l : List (List ℕ)). bodies ++ l) (sym cut) ∙ sym (append_assoc bodies (take count more) (drop count more)) in
    image-sound one file (bodies ++ take count more) (drop count more) last place (subst (λ (l : List (List ℕ)). Replays l last) all whole) opens damaged

-- ---- the loop over all bodies

-- what a body was read as was replayed
pub replayed-read : (E : Type 0) (found : Option Change) (old : Contents) (body : List ℕ) (change : Change) → found ≡ Some change → ((c : Change) → (found ≡ Some c) ↔ IsRecord c body) → (r : Result Bool E) (new : Contents)
    → IsTried {E = E} (may_replay old change) (after_replay old change) old r new → IsRead {E = E} old body r new
replayed-read E found old body change some is (Ok true) new tried = (change, (is change).0 some, tried.0, tried.1)
replayed-read E found old body change some is (Ok false) new tried = λ other recorded.
    let same : found ≡ Some other = (is other).1 recorded in
    let one : change ≡ other = cc in
    subst (λ (c : Change). may_replay old c ≡ false) one tried.0
replayed-read E found old body change some is (Err e) new tried = tt

-- it was read as none
pub unread-broken : (found : Option Change) (old : Contents) (body : List ℕ) → found ≡ None → ((c : Change) → (found ≡ Some c) ↔ IsRecord c body) → (change : Change) → IsRecord change body → may_replay old change ≡ false
unread-broken found old body none is change recorded = let some : found ≡ Some change = (is change).1 recorded in cc

-- one body more was replayed
pub replays-more : (bodies : List (List ℕ)) (index : ℕ) (old new : Contents) (body : List ℕ) → index < length bodies → body ≡ slice_index_or bodies index [] → Replays (take index bodies) old
    → (change : Change) × IsRecord change body × (may_replay old change ≡ true) × (new ≡ after_replay old change) → Replays (take (index + 1) bodies) new
replays-more bodies index old new body within body_is r (change, is, may, new_is) =
    let front : take (index + 1) bodies ≡ take index bodies ++ body ∷ [] = take_more bodies index [] within ∙ ap (λ (b : List ℕ). take index bodies ++ b ∷ []) (sym body_is) in
    let more = replays-push (take index bodies) old body change r is may in
    subst (λ (l : List (List ℕ)). Replays l new) (sym front) (subst (λ (c : Contents). Replays (take index bodies ++ body ∷ []) c) (sym new_is) more)

-- one is broken
pub broken-at : (bodies : List (List ℕ)) (index place : ℕ) (contents : Contents) (body : List ℕ) → index < length bodies → body ≡ slice_index_or bodies index [] → place ≡ (slice_index_or (placed 0 bodies) index (0, [])).0
    → Replays (take index bodies) contents → ((change : Change) → IsRecord change body → may_replay contents change ≡ false) → IsBroken bodies place
broken-at bodies index place contents body within body_is place_is_at r broken =
    let behind : drop index bodies ≡ body ∷ drop (suc index) bodies = drop-cons bodies index [] within ∙ ap (λ (b : List ℕ). b ∷ drop (suc index) bodies) (sym body_is) in
    let gate : (slice_index_or (placed 0 bodies) index (0, [])).0 ≡ 0 + length (records (take index bodies)) = place-is 0 bodies index within in
    record {
      before = take index bodies;
      body = body;
      after = drop (suc index) bodies;
      are = sym (take-append-drop index bodies) ∙ ap (λ (l : List (List ℕ)). take index bodies ++ l) behind;
      at = omega (arith, place_is_at, gate);
      contents = contents;
      replays = r;
      broken = broken;
    }
