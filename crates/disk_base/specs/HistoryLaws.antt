-- That such a history makes contents of a disk.
use Rattle.std.proofs.Common.{◌≡◌, ℕ, ◌+◌, ◌-◌, ◌<◌, ◌≤◌, inl, inr, true, false, List, [], ◌∷◌, ◌++◌, length, take, drop, replicate, get_or, refl, sym, ◌∙◌, ap, arith, length-append, length-drop}
use Rattle.std.proofs.lemmas.List.{length-take, length-replicate, length-take-le, take_all, take_min, get_or-take, get_or-drop, get_or_append_left, get_or-append_right}
use Rattle.disk_base.specs.Contents.{Contents}
use Rattle.disk_base.specs.Calls.{written, Torn, Shortened}
use Rattle.disk_base.specs.History.{Call, wrote, cut, synced, read_after, MayLeave, LeftSince}

pub torn-same : (at n : ℕ) (file : List ℕ) → Torn at n file file
torn-same at n file = record {
  no_shorter = omega arith;
  no_longer = omega arith;
  before = λ i lt within. refl;
  after = λ i le within. refl;
}

pub shortened-same : (size : ℕ) (file : List ℕ) → Shortened size file file
shortened-same size file = record { no_shorter = omega arith; front = sym (take_all (length file) file (omega arith)) }

-- the bytes up to `at`, with zeros where the file is shorter
abbrev padded : ℕ → List ℕ → List ℕ
padded at old = take at (old ++ replicate (at - length old) 0)

length-padded : (at : ℕ) (old : List ℕ) → length (padded at old) ≡ at
length-padded at old = length-take-le at (old ++ replicate (at - length old) 0) (omega (arith, length-append old (replicate (at - length old) 0), length-replicate {A = ℕ} (at - length old) 0))

pub torn-written : (at : ℕ) (bytes old : List ℕ) → Torn at (length bytes) old (written at bytes old)
torn-written at [] old = torn-same at 0 old
torn-written at (byte ∷ bytes) old = record {
  no_shorter = omega (arith, long);
  no_longer = omega (arith, long);
  before = λ i lt within. front i lt within;
  after = λ i le within. back i le within;
}
  where
    long : length (written at (byte ∷ bytes) old) ≡ at + (length (byte ∷ bytes) + (length old - (at + length (byte ∷ bytes))))
    long = simp (length-append, length-drop) (omega (arith, length-padded at old))

    front : (i : ℕ) → i < at → i < length old → get_or (written at (byte ∷ bytes) old) i 0 ≡ get_or old i 0
    front i lt within =
        get_or_append_left (padded at old) ((byte ∷ bytes) ++ drop (at + length (byte ∷ bytes)) old) 0 i (omega (arith, length-padded at old))
        ∙ get_or-take at (old ++ replicate (at - length old) 0) i 0 lt
        ∙ get_or_append_left old (replicate (at - length old) 0) 0 i within

    back : (i : ℕ) → at + length (byte ∷ bytes) ≤ i → i < length old → get_or (written at (byte ∷ bytes) old) i 0 ≡ get_or old i 0
    back i le within =
        get_or-append_right (padded at old) ((byte ∷ bytes) ++ drop (at + length (byte ∷ bytes)) old) at i 0 (length-padded at old) (omega arith)
        ∙ get_or-append_right (byte ∷ bytes) (drop (at + length (byte ∷ bytes)) old) (length (byte ∷ bytes)) (i - at) 0 refl (omega arith)
        ∙ get_or-drop (at + length (byte ∷ bytes)) old (i - at - length (byte ∷ bytes)) 0
        ∙ ap (λ n. get_or old n 0) (omega arith)

pub shortened-taken : (size : ℕ) (old : List ℕ) → Shortened size old (take size old)
shortened-taken size old = record { no_shorter = omega (arith, length-take size old); front = sym (ap (λ n. take n old) (length-take size old) ∙ take_min size old) }

-- what a read gives may be left
pub may_leave_read : (first : List ℕ) (calls : List Call) → MayLeave first calls (read_after first calls)
may_leave_read first [] = refl
may_leave_read first (wrote at bytes true ∷ calls) = (read_after first calls, may_leave_read first calls, torn-written at bytes (read_after first calls))
may_leave_read first (wrote at bytes false ∷ calls) = (read_after first calls, may_leave_read first calls, torn-same at (length bytes) (read_after first calls))
may_leave_read first (cut size true ∷ calls) = (read_after first calls, may_leave_read first calls, shortened-taken size (read_after first calls))
may_leave_read first (cut size false ∷ calls) = (read_after first calls, may_leave_read first calls, shortened-same size (read_after first calls))
may_leave_read first (synced ∷ calls) = refl

pub left_now : (first : List ℕ) (calls : List Call) (image : List ℕ) → MayLeave first calls image → LeftSince first calls (length calls) image
left_now first [] image left = left
left_now first (call ∷ calls) image left = inl left

pub may_leave_now : (first : List ℕ) (calls : List Call) (image : List ℕ) → LeftSince first calls (length calls) image → MayLeave first calls image
may_leave_now first [] image left = left
may_leave_now first (call ∷ calls) image (inl left) = left
may_leave_now first (call ∷ calls) image (inr past) = absurd (omega (arith, past.0))

pub left_earlier : (first : List ℕ) (calls : List Call) (t u : ℕ) (image : List ℕ) → t ≤ u → LeftSince first calls u image → LeftSince first calls t image
left_earlier first [] t u image le left = left
left_earlier first (call ∷ calls) t u image le (inl left) = inl left
left_earlier first (call ∷ calls) t u image le (inr past) = inr (omega (arith, past.0), left_earlier first calls t u image le past.1)

-- the contents after these calls, the newest first
abbrev pub contents_after : List ℕ → List Call → Contents
contents_after first calls = record {
  bytes = read_after first calls;
  moment = length calls;
  left_since = LeftSince first calls;
  earlier = left_earlier first calls;
  reads = left_now first calls (read_after first calls) (may_leave_read first calls);
}
