-- The names of paths that have no route.
use Rattle.std.proofs.Common.{◌≡◌, zero, suc, get_or, leb, ℕ, ◌<◌, Bool, true, false, cond, List, [], ◌∷◌, codes, refl, sym, arith}
use Rattle.std.specs.List.{All, list_all}
use Rattle.std.specs.Str.{IsUtf8}
use Rattle.std.proofs.lemmas.Bool.{leb-true, le-leb, and_parts, and_from, false≢true}
use Rattle.std.proofs.lemmas.List.Elements.{All-nil, All-cons, All-head, All-tail}
use Rattle.std.proofs.lemmas.Str.{IsUtf8-from_ascii}
use Rattle.scope_sets.specs.Scopes.{IsPrintable}
use Rattle.api_routes.specs.Names.{is_printable, route_name}

-- a printable byte is ASCII
printable-ascii : (bs : List ℕ) → list_all is_printable bs ≡ true → (i : ℕ) → get_or bs i 0 < 128
printable-ascii [] all i = omega arith
printable-ascii (b ∷ bs) all zero =
    let here = and_parts (is_printable b) (list_all is_printable bs) all in
    let bounds = and_parts (leb 32 b) (leb b 126) here.0 in
    omega (arith, leb-true b 126 bounds.1)
printable-ascii (b ∷ bs) all (suc i) =
    printable-ascii bs (and_parts (is_printable b) (list_all is_printable bs) all).1 i

-- bytes that are no text have no name of their own
pub route_name-no_text : (path : List ℕ) → ¬ (IsUtf8 path) → route_name path ≡ codes "-"
route_name-no_text path no_text = name_unless (list_all is_printable path) refl
  where
    name_unless : (all : Bool) → list_all is_printable path ≡ all → cond all path (codes "-") ≡ codes "-"
    name_unless true is = absurd (no_text (IsUtf8-from_ascii path (printable-ascii path is)))
    name_unless false is = refl

-- ---- printable ASCII, as a test

all_printable : (bs : List ℕ) → list_all is_printable bs ≡ true → All IsPrintable bs
all_printable [] all = All-nil IsPrintable
all_printable (b ∷ bs) all =
    let parts = and_parts (is_printable b) (list_all is_printable bs) all in
    let bounds = and_parts (leb 32 b) (leb b 126) parts.0 in
    All-cons IsPrintable b bs (leb-true 32 b bounds.0, leb-true b 126 bounds.1) (all_printable bs parts.1)

each_printable : (bs : List ℕ) → All IsPrintable bs → list_all is_printable bs ≡ true
each_printable [] all = refl
each_printable (b ∷ bs) all =
    let first = All-head IsPrintable b bs all in
    and_from _ _ (and_from _ _ (le-leb 32 b first.0) (le-leb b 126 first.1)) (each_printable bs (All-tail IsPrintable b bs all))

pub printable_test : (bs : List ℕ) (r : Bool) → (r ≡ true → All IsPrintable bs) → (All IsPrintable bs → r ≡ true) → r ≡ list_all is_printable bs
printable_test bs true to from = sym (each_printable bs (to refl))
printable_test bs false to from = by_test (list_all is_printable bs) refl
  where
    by_test : (b : Bool) → list_all is_printable bs ≡ b → false ≡ list_all is_printable bs
    by_test true all = absurd (false≢true (from (all_printable bs all)))
    by_test false none = sym none
