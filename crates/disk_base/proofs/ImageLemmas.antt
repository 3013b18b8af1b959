-- Images that are listed.
use Rattle.std.proofs.Common.{◌≡◌, ℕ, ◌+◌, ◌-◌, ◌<◌, take, drop, reverse, ◌∙◌, ap, arith, List, [], ◌∷◌, ◌++◌, length, get_or, Bool, Option, Some, None, Vec, All, Any, IfSome, option_to_list, sym, subst}
use Rattle.std.specs.declared.alloc.Global.{Global}
use Rattle.std.proofs.lemmas.List.Elements.{All-append, All-push, All-nil, All-weaker}
use Rattle.std.proofs.lemmas.List.{take_all, take_more, reverse-append}
use Rattle.disk_base.specs.Steps.{calls_of}
use Rattle.disk_base.specs.declared.step.Step.{Step}
use Rattle.disk_base.specs.declared.step.Step.TheVariants.{Wrote, Cut}
use Rattle.disk_base.specs.Calls.{Torn, Shortened}
use Rattle.disk_base.specs.History.{Call, wrote, cut, MayLeave}

-- one more, where there is one
pub All-added : {X : Type 0} (P : X → Type 0) (xs : List X) (found : Option X) → All P xs → IfSome found P → All P (xs ++ option_to_list found)
All-added P xs None all found = All-append P xs [] all (All-nil P)
All-added P xs (Some x) all found = All-push P xs x all found

-- more that come from one at that place
pub All-from : {X Y : Type 0} (R : X → Y → Type 0) (xs : List X) (ys more : List Y) (i : ℕ) (x : X) → i < length xs → x ≡ get_or xs i x → All (λ y. Any (λ z. R z y) xs) ys → All (λ y. R x y) more → All (λ y. Any (λ z. R z y) xs) (ys ++ more)
All-from R xs ys more i x within is all each =
    All-append (λ y. Any (λ z. R z y) xs) ys more all (All-weaker (λ y. R x y) (λ y. Any (λ z. R z y) xs) (λ y r. (i, x, within, sym is, r)) more each)

abbrev Files : Type 0
Files = List (Vec ℕ Global)

-- what a write may make of files that a stop may leave
pub all_torn : (first bytes : List ℕ) (at n : ℕ) (done : Bool) (calls next : List Call) (befores images : Files) → next ≡ wrote at bytes done ∷ calls → n ≡ length bytes → All (λ before. MayLeave first calls before.items) befores
    → All (λ image. Any (λ before. Torn at n before.items image.items) befores) images → All (λ image. MayLeave first next image.items) images
all_torn first bytes at n done calls next befores images is size may torn k d within =
    let from = torn k d within in
    let before : MayLeave first calls from.1.items = subst (λ (v : Vec ℕ Global). MayLeave first calls v.items) from.3 (may from.0 from.1 from.2) in
    let step : Torn at (length bytes) from.1.items (get_or images k d).items = subst (λ m. Torn at m from.1.items (get_or images k d).items) size from.4 in
    subst (λ (l : List Call). MayLeave first l (get_or images k d).items) (sym is) (from.1.items, before, step)

pub all_shortened : (first : List ℕ) (size : ℕ) (done : Bool) (calls next : List Call) (befores images : Files) → next ≡ cut size done ∷ calls → All (λ before. MayLeave first calls before.items) befores
    → All (λ image. Any (λ before. Shortened size before.items image.items) befores) images → All (λ image. MayLeave first next image.items) images
all_shortened first size done calls next befores images is may short k d within =
    let from = short k d within in
    let before : MayLeave first calls from.1.items = subst (λ (v : Vec ℕ Global). MayLeave first calls v.items) from.3 (may from.0 from.1 from.2) in
    subst (λ (l : List Call). MayLeave first l (get_or images k d).items) (sym is) (from.1.items, before, from.4)

reverse_last : {X : Type 0} (xs : List X) (d : X) → 0 < length xs → reverse xs ≡ get_or xs (length xs - 1) d ∷ reverse (take (length xs - 1) xs)
reverse_last xs d some =
    let n = length xs - 1 in
    let whole : xs ≡ take n xs ++ get_or xs n d ∷ [] = sym (take_all (n + 1) xs (omega arith)) ∙ take_more xs n d (omega arith) in
    ap reverse whole ∙ reverse-append (take n xs) (get_or xs n d ∷ [])

-- the newest step, and the earlier ones
pub wrote_last : (arena : List ℕ) (steps : List Step) (d : Step) (at size : ℕ) (done : Bool) → 0 < length steps → get_or steps (length steps - 1) d ≡ Wrote at size done
    → calls_of arena (reverse steps) ≡ wrote at (drop (length arena - size) arena) done ∷ calls_of (take (length arena - size) arena) (reverse (take (length steps - 1) steps))
wrote_last arena steps d at size done some last =
    ap (calls_of arena) (reverse_last steps d some) ∙ ap (λ step. calls_of arena (step ∷ reverse (take (length steps - 1) steps))) last

pub cut_last : (arena : List ℕ) (steps : List Step) (d : Step) (size : ℕ) (done : Bool) → 0 < length steps → get_or steps (length steps - 1) d ≡ Cut size done
    → calls_of arena (reverse steps) ≡ cut size done ∷ calls_of arena (reverse (take (length steps - 1) steps))
cut_last arena steps d size done some last =
    ap (calls_of arena) (reverse_last steps d some) ∙ ap (λ step. calls_of arena (step ∷ reverse (take (length steps - 1) steps))) last

pub may_leave_same : (first first' arena arena' : List ℕ) (steps steps' : List Step) (image : List ℕ) → first' ≡ first → arena' ≡ arena → steps' ≡ steps
    → MayLeave first' (calls_of arena' (reverse steps')) image → MayLeave first (calls_of arena (reverse steps)) image
may_leave_same first first' arena arena' steps steps' image f a s may =
    subst (λ (l : List Step). MayLeave first (calls_of arena (reverse l)) image) s
    (subst (λ (l : List ℕ). MayLeave first (calls_of l (reverse steps')) image) a
    (subst (λ (l : List ℕ). MayLeave l (calls_of arena' (reverse steps')) image) f may))
