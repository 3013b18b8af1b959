-- How long the text of a document is.
use Rattle.std.proofs.Common.{◌≡◌, ℕ, suc, ◌+◌, ◌*◌, ◌≤◌, true, false, List, [], ◌∷◌, ◌++◌, length, length-append, ℤ, pos, negsuc, ◌≤ℤ◌, FitsSigned, w64, arith, Bool, cond}
use Rattle.std.proofs.lemmas.Fmt.{length-decimal-le}
use Rattle.jiff_core.proofs.SignedLemmas.{signed_arith}
use Rattle.json.specs.Print.{escape_byte, escape, quoted}
use Rattle.serde_json.specs.Written.{items_text, members_text}
use Rattle.farm_text.specs.Document.{Document, whole, array, object, Items, no_items, item, Members, no_members, member, items_data, members_data, document_text}

-- the bytes of items of which one stands before, with the closing bracket
abbrev pub items_size : Items → ℕ
items_size ds = length (items_text true (items_data ds))

abbrev pub members_size : Members → ℕ
members_size ms = length (members_text true (members_data ms))

pub list_size : (ds : Items) → length (document_text (array ds)) ≤ 1 + items_size ds
list_size no_items = omega arith
list_size (item d ds) = omega arith

pub map_size : (ms : Members) → length (document_text (object ms)) ≤ 1 + members_size ms
map_size no_members = omega arith
map_size (member k d ms) = omega arith

pub item_size : (d : Document) (ds : Items) → items_size (item d ds) ≡ 1 + length (document_text d) + items_size ds
item_size d ds = omega (arith, length-append (document_text d) (items_text true (items_data ds)))

pub member_size : (k : List ℕ) (d : Document) (ms : Members) → members_size (member k d ms) ≡ 2 + length (quoted k) + length (document_text d) + members_size ms
member_size k d ms =
    omega (arith, length-append (quoted k) (58 ∷ (document_text d ++ members_text true (members_data ms))), length-append (document_text d) (members_text true (members_data ms)))

byte_by : (short control : Bool) (x a b c : ℕ) → length (cond short (92 ∷ a ∷ []) (cond control (92 ∷ 117 ∷ 48 ∷ 48 ∷ b ∷ c ∷ []) (x ∷ []))) ≤ 6
byte_by true control x a b c = omega arith
byte_by false true x a b c = omega arith
byte_by false false x a b c = omega arith

byte_size : (x : ℕ) → length (escape_byte x) ≤ 6
unfolding escape_byte
byte_size x = byte_by _ _ x _ _ _

escape_size : (t : List ℕ) → length (escape t) ≤ 6 * length t
escape_size [] = omega arith
escape_size (x ∷ t) = omega (arith, byte_size x, escape_size t, length-append (escape_byte x) (escape t))

pub quoted_size : (t : List ℕ) → length (quoted t) ≤ 6 * length t + 2
quoted_size t = omega (arith, escape_size t, length-append (escape t) (34 ∷ []))

-- what a walk over items has so far, with these left
abbrev pub SoFar : ℕ → ℕ → ℕ → Type 0
SoFar most all left = most ≤ 8388608 → 2 + all ≤ most + left

-- a digit is one byte
pub digit_size : (z : ℤ) → pos 0 ≤ℤ z → z ≤ℤ pos 9 → length (document_text (whole z)) ≤ 1
digit_size (pos n) from upto = length-decimal-le 1 n (omega arith) (omega (arith, signed_arith)) (omega (arith, signed_arith))
digit_size (negsuc n) from upto = absurd (omega (arith, signed_arith))

-- a number of 64 bits has twenty at most
pub number_size : (z : ℤ) → FitsSigned w64 z → length (document_text (whole z)) ≤ 20
number_size (pos n) fits = length-decimal-le 20 n (omega arith) (omega (arith, signed_arith, fits)) (omega (arith, fits))
number_size (negsuc n) fits = omega (arith, length-decimal-le 19 (suc n) (omega arith) (omega (arith, signed_arith, fits)) (omega (arith, fits)))

-- a walk that is at the end has seen all
pub all_seen : (most all size left : ℕ) → size ≤ 1 + all → left ≡ 1 → SoFar most all left → most ≤ 8388608 → size ≤ most
all_seen most all size left fits none so_far within = omega (arith, so_far within)
