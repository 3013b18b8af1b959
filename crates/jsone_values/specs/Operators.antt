-- What the operators do to values (JSON-e, "Operators").
use Rattle.std.specs.Prelude.{◌≡◌, ℤ, neg_ℤ, ◌+ℤ◌, ◌-ℤ◌, ◌*ℤ◌, ◌++◌, Result, Ok, Err, IsTrue, ◌↔◌, ◌⊎◌, Bool, is_some}
use Rattle.std.specs.Str.Iter.{HasSubslice}
use Rattle.farm_text.specs.Document.{Document, whole, text, boolean, array, object, Items, no_items, item, member_at}
use Rattle.jsone_values.specs.declared.faults.Fault.{Fault}
use Rattle.jsone_values.specs.declared.faults.Fault.TheVariants.{WrongKind}
use Rattle.jsone_values.specs.Numbers.{IsInRange, IsQuotient, IsPower}

-- a number of this kind, or its fault
abbrev pub IsNumber : (Result ℤ Fault → Type 0) → Result Document Fault → Type 0
IsNumber IsOutcome (Ok d) = (z : ℤ) × (d ≡ whole z) × IsOutcome (Ok z)
IsNumber IsOutcome (Err f) = IsOutcome (Err f)

-- of two numbers, and of no other values
abbrev pub IsOfNumbers : (ℤ → ℤ → Result ℤ Fault → Type 0) → Document → Document → Result Document Fault → Type 0
IsOfNumbers IsOutcome (whole a) (whole b) r = IsNumber (IsOutcome a b) r
IsOfNumbers IsOutcome _ _ r = r ≡ Err WrongKind

-- `+`, of two numbers or two texts
abbrev pub IsSum : Document → Document → Result Document Fault → Type 0
IsSum (whole a) (whole b) r = IsNumber (IsInRange (a +ℤ b)) r
IsSum (text s) (text t) r = r ≡ Ok (text (s ++ t))
IsSum _ _ r = r ≡ Err WrongKind

-- `-`, `*`, `/` and `**`
abbrev pub IsDifference : Document → Document → Result Document Fault → Type 0
IsDifference d e r = IsOfNumbers (λ a b. IsInRange (a -ℤ b)) d e r

abbrev pub IsProduct : Document → Document → Result Document Fault → Type 0
IsProduct d e r = IsOfNumbers (λ a b. IsInRange (a *ℤ b)) d e r

abbrev pub IsExactQuotient : Document → Document → Result Document Fault → Type 0
IsExactQuotient d e r = IsOfNumbers IsQuotient d e r

abbrev pub IsRaised : Document → Document → Result Document Fault → Type 0
IsRaised d e r = IsOfNumbers IsPower d e r

-- the signs `-` and `+`, of a number
abbrev pub IsNegated : Document → Result Document Fault → Type 0
IsNegated (whole z) r = IsNumber (IsInRange (neg_ℤ z)) r
IsNegated _ r = r ≡ Err WrongKind

abbrev pub IsKept : Document → Result Document Fault → Type 0
IsKept (whole z) r = r ≡ Ok (whole z)
IsKept _ r = r ≡ Err WrongKind

-- a truth value, which is true just where this holds
abbrev pub IsTruthOf : Type 0 → Result Document Fault → Type 0
IsTruthOf P r = (b : Bool) × (IsTrue b ↔ P) × (r ≡ Ok (boolean b))

-- `==` compares whole values
abbrev pub IsEquality : Document → Document → Result Document Fault → Type 0
IsEquality d e r = IsTruthOf (d ≡ e) r

-- the value is one of the items
abbrev pub HasItem : Document → Items → Type 0
HasItem d no_items = ⊥
HasItem d (item e ds) = (e ≡ d) ⊎ HasItem d ds

-- `in`: a text in a text, a value in a list, a text among the keys of a map
abbrev pub IsWithin : Document → Document → Result Document Fault → Type 0
IsWithin d (array ds) r = IsTruthOf (HasItem d ds) r
IsWithin (text s) (text t) r = IsTruthOf (HasSubslice t s) r
IsWithin (text key) (object ms) r = r ≡ Ok (boolean (is_some (member_at key ms)))
IsWithin _ _ r = r ≡ Err WrongKind
