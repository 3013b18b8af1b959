-- Values that are made, and arguments by their number.
use Rattle.std.proofs.Common.{◌≡◌, ℕ, Bool, List, [], ◌∷◌, Option, length, get_or, Some, None, is_some, option_map, Result, Ok, Err, refl, sym, ap, ap₂, subst, ◌∙◌, rules, arith}
use Rattle.farm_text.specs.Document.{Document, boolean}
use Rattle.farm_text.specs.Doc.{document, documents}
use Rattle.farm_text.specs.declared.doc.Doc.{Doc, the_lemmas}
use Rattle.farm_text.specs.declared.doc.Doc.TheVariants.{Bool as bool_doc}
use Rattle.jsone_values.specs.declared.faults.Fault.{Fault}
use Rattle.jsone_values.specs.declared.faults.Fault.TheVariants.{WrongKind}
use Rattle.jsone_values.specs.declared.faults.Stop.{Stop}
use Rattle.jsone_values.specs.declared.faults.Stop.TheVariants.{Fault as a_fault, NoMemory}
use Rattle.jsone_values.specs.Meets.{Meets, MeetsWithin}
use Rattle.jsone_expr.specs.declared.functions.Function.{Function}
use Rattle.jsone_expr.specs.declared.functions.Function.TheVariants.{Min, Max}
use Rattle.jsone_eval.specs.Calls.{made, IsOfMany, IsCalled}

meets_made : (most : ℕ) (P : Result Document Fault → Type 0) (found : Result Doc Stop) → Meets P found → MeetsWithin most P (made found)
meets_made most P (Ok d) h = h
meets_made most P (Err (a_fault f)) h = h
meets_made most P (Err NoMemory) h = tt

pub made_within : (most : ℕ) (P : Result Document Fault → Type 0) (found : Result Doc Stop) (r : Result (Option Doc) Stop) → r ≡ made found → Meets P found → MeetsWithin most P r
made_within most P found r e h = subst (MeetsWithin most P) (sym e) (meets_made most P found h)

-- a function that is neither `min` nor `max`
pub other_function : (f : Function) (scopes ds : List Document) (r : Result (Option Doc) Stop) → (f ≡ Min → ⊥) → (f ≡ Max → ⊥) → MeetsWithin 1000000 (IsOfMany f scopes ds) r → MeetsWithin 1000000 (IsCalled f scopes ds) r
other_function Min scopes ds r least greatest h = absurd (least refl)
other_function Max scopes ds r least greatest h = absurd (greatest refl)
other_function _ scopes ds r least greatest h = h

-- whether a name is bound, by what it is bound to
pub same_bound : {A B : Type 0} (f : A → B) (o : Option A) → is_some o ≡ is_some (option_map f o)
same_bound f None = refl
same_bound f (Some x) = refl

pub document-Bool : (b : Bool) → document (bool_doc b) ≡ boolean b
document-Bool b = search (rules, the_lemmas)

-- arguments by their number
pub one_argument : (xs : List Doc) (x : Doc) → length xs ≡ 1 → x ≡ get_or xs 0 x → xs ≡ x ∷ []
one_argument [] x size first = absurd (omega (arith, size))
one_argument (a ∷ []) x size first = ap (λ u. u ∷ []) (sym first)
one_argument (a ∷ b ∷ xs) x size first = absurd (omega (arith, size))

pub two_arguments : (xs : List Doc) (x y : Doc) → length xs ≡ 2 → x ≡ get_or xs 0 x → y ≡ get_or xs 1 y → xs ≡ x ∷ y ∷ []
two_arguments [] x y size first second = absurd (omega (arith, size))
two_arguments (a ∷ []) x y size first second = absurd (omega (arith, size))
two_arguments (a ∷ b ∷ []) x y size first second = ap₂ (λ u v. u ∷ v ∷ []) (sym first) (sym second)
two_arguments (a ∷ b ∷ c ∷ xs) x y size first second = absurd (omega (arith, size))

pub three_arguments : (xs : List Doc) (x y z : Doc) → length xs ≡ 3 → x ≡ get_or xs 0 x → y ≡ get_or xs 1 y → z ≡ get_or xs 2 z → xs ≡ x ∷ y ∷ z ∷ []
three_arguments [] x y z size first second third = absurd (omega (arith, size))
three_arguments (a ∷ []) x y z size first second third = absurd (omega (arith, size))
three_arguments (a ∷ b ∷ []) x y z size first second third = absurd (omega (arith, size))
three_arguments (a ∷ b ∷ c ∷ []) x y z size first second third = ap₂ (λ u v. u ∷ v ∷ c ∷ []) (sym first) (sym second) ∙ ap (λ w. x ∷ y ∷ w ∷ []) (sym third)
three_arguments (a ∷ b ∷ c ∷ d ∷ xs) x y z size first second third = absurd (omega (arith, size))

pub other_arguments : (f : Function) (scopes : List Document) (xs : List Doc) → (length xs ≡ 1 → ⊥) → (length xs ≡ 2 → ⊥) → (length xs ≡ 3 → ⊥) → IsOfMany f scopes (documents xs) (Err WrongKind)
other_arguments f scopes [] one two three = refl
other_arguments f scopes (a ∷ []) one two three = absurd (one refl)
other_arguments f scopes (a ∷ b ∷ []) one two three = absurd (two refl)
other_arguments f scopes (a ∷ b ∷ c ∷ []) one two three = absurd (three refl)
other_arguments f scopes (a ∷ b ∷ c ∷ d ∷ xs) one two three = refl
