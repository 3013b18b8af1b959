-- What appends did, one after the other.
use Rattle.std.proofs.Common.{◌≡◌, ℕ, ◌+◌, ◌≤◌, inl, inr, List, [], ◌∷◌, ◌++◌, length, None, Result, Ok, Err, OnOk, OnErr, refl, sym, subst, arith, append_assoc}
use Rattle.std.proofs.lemmas.List.{append-nil}
use Rattle.std.proofs.Math.ListN.{length-append}
use Rattle.disk_base.specs.Contents.{Contents, StopsLeave}
use Rattle.disk_base.proofs.StopsLemmas.{StopsLeave-weaker, StopsLeave-then, StopsLeave-same}
use Rattle.disk_journal.specs.Records.{sized, records}
use Rattle.disk_journal.specs.Images.{IsImage, IsWithin}
use Rattle.disk_journal.specs.Keeping.{IsReady, Keeps}
use Rattle.disk_journal.proofs.AppendLemmas.{ready_image}

-- what has a front of some bodies has one of more
pub within-more : (head : List ℕ) (bodies kept more : List (List ℕ)) (image : List ℕ) → IsWithin head bodies kept image → IsWithin head bodies (kept ++ more) image
within-more head bodies [] [] image within = within
within-more head bodies [] (body ∷ more) image within = inl within
within-more head bodies (body ∷ kept) more image (inl none) = inl none
within-more head bodies (body ∷ kept) more image (inr (inl pending)) = inr (inl pending)
within-more head bodies (body ∷ kept) more image (inr (inr rest)) = inr (inr (within-more head (bodies ++ body ∷ []) kept more image rest))

-- what has those before has a front of all
pub within-behind : (head : List ℕ) (bodies kept more : List (List ℕ)) (image : List ℕ) → IsWithin head (bodies ++ kept) more image → IsWithin head bodies (kept ++ more) image
within-behind head bodies [] more image within = subst (λ (l : List (List ℕ)). IsWithin head l more image) (append-nil bodies) within
within-behind head bodies (body ∷ kept) more image within =
    inr (inr (within-behind head (bodies ++ body ∷ []) kept more image (subst (λ (l : List (List ℕ)). IsWithin head l more image) (sym (append_assoc bodies (body ∷ []) kept)) within)))

-- a journal at work has its bodies, whatever else may come
pub ready-within : (head : List ℕ) (disk : Contents) (end : ℕ) (bodies more : List (List ℕ)) → IsReady head disk end bodies → IsWithin head bodies more disk.bytes
ready-within head disk end bodies more ready = within-more head bodies [] more disk.bytes (ready_image head disk end bodies ready)

-- nothing was done
pub Keeps-none : (head : List ℕ) (disk : Contents) (end : ℕ) → Keeps head disk end disk end [] []
Keeps-none head disk end = record {
  ready = λ none bodies ready. subst (IsReady head disk end) (sym (append-nil bodies)) ready;
  images = λ bodies ready image left. subst (λ (l : List (List ℕ)). IsImage head l None image) (sym (append-nil bodies))
      (subst (IsImage head bodies None) (sym (ready.settled image left)) (ready_image head disk end bodies ready));
  stops = λ bodies ready. StopsLeave-same disk (IsWithin head bodies []);
}

-- some appends, and then others
pub Keeps-then : (head : List ℕ) (a : Contents) (a_end : ℕ) (b : Contents) (b_end : ℕ) (c : Contents) (c_end : ℕ) (first second failed : List (List ℕ))
    → Keeps head a a_end b b_end first [] → Keeps head b b_end c c_end second failed → Keeps head a a_end c c_end (first ++ second) failed
Keeps-then head a a_end b b_end c c_end first second failed p q = record {
  ready = λ none bodies ready. subst (IsReady head c c_end) (append_assoc bodies first second) (q.ready none (bodies ++ first) (p.ready refl bodies ready));
  images = λ bodies ready image left. subst (λ (l : List (List ℕ)). IsWithin head l failed image) (append_assoc bodies first second) (q.images (bodies ++ first) (p.ready refl bodies ready) image left);
  stops = λ bodies ready.
      let all : List (List ℕ) = (first ++ second) ++ failed in
      let early : StopsLeave a b (IsWithin head bodies all) = StopsLeave-weaker a b _ _ (λ image within.
      subst (λ (l : List (List ℕ)). IsWithin head bodies l image) (sym (append_assoc first second failed))
      (within-more head bodies first (second ++ failed) image (subst (λ (l : List (List ℕ)). IsWithin head bodies l image) (append-nil first) within))) (p.stops bodies ready) in
      let late : StopsLeave b c (IsWithin head bodies all) = StopsLeave-weaker b c _ _ (λ image within.
      subst (λ (l : List (List ℕ)). IsWithin head bodies l image) (sym (append_assoc first second failed))
      (within-behind head bodies first (second ++ failed) image within)) (q.stops (bodies ++ first) (p.ready refl bodies ready)) in
      StopsLeave-then a b c (IsWithin head bodies all) early late;
}

-- a record takes a byte at least
pub few-records : (bodies : List (List ℕ)) → length bodies ≤ length (records bodies)
few-records [] = omega arith
few-records (body ∷ bodies) =
    let rest : length bodies ≤ length (records bodies) = few-records bodies in
    let whole : length (sized body ++ records bodies) ≡ length (sized body) + length (records bodies) = length-append (sized body) (records bodies) in
    omega arith

-- nothing, and then one append, as its result tells
pub Keeps-then-Ok : {T E : Type 0} (result : Result T E) (a b c : Contents) (a_end b_end c_end : ℕ) (kept : List (List ℕ)) → Keeps [] a a_end b b_end [] []
    → OnOk result (Keeps [] b b_end c c_end kept []) → OnOk result (Keeps [] a a_end c c_end kept [])
Keeps-then-Ok (Ok x) a b c a_end b_end c_end kept p q = Keeps-then [] a a_end b b_end c c_end [] kept [] p q
Keeps-then-Ok (Err e) a b c a_end b_end c_end kept p q = q

pub Keeps-then-Err : {T E : Type 0} (result : Result T E) (a b c : Contents) (a_end b_end c_end : ℕ) (failed : List (List ℕ)) → Keeps [] a a_end b b_end [] []
    → OnErr result (Keeps [] b b_end c c_end [] failed) → OnErr result (Keeps [] a a_end c c_end [] failed)
Keeps-then-Err (Ok x) a b c a_end b_end c_end failed p q = q
Keeps-then-Err (Err e) a b c a_end b_end c_end failed p q = Keeps-then [] a a_end b b_end c c_end [] [] failed p q
