-- What is read of a value, by cases.
use Rattle.std.proofs.Common.{◌≡◌, ℕ, List, Option, Some, None, refl, sym, ap, subst}
use Rattle.std.specs.Prelude.{IfSome, MatchOption}
use Rattle.farm_text.specs.Document.{Document, null, boolean, whole, text as plain_text, array, object, Items}
use Rattle.farm_text.specs.DateTime.{IsDateTime}
use Rattle.task_defs.specs.Documents.{text_of, items_in}
use Rattle.task_defs.specs.Parts.{IsOnlyMoment}
use Rattle.task_defs.specs.Values.{IsTextOf, IsMoment, IsTexts}

pub is_text : (d : Document) (t : List ℕ) → Some t ≡ text_of d → d ≡ plain_text t
is_text null t e = absurd cc
is_text (boolean b) t e = absurd cc
is_text (whole z) t e = absurd cc
is_text (plain_text s) t e = ap plain_text (cc)
is_text (array ds) t e = absurd cc
is_text (object ms) t e = absurd cc

pub no_list : (most : ℕ) (d : Document) → None ≡ items_in d → (ts : List (List ℕ)) → ¬ IsTexts most d ts
no_list most null e ts = λ h. let i = h.is in cc
no_list most (boolean b) e ts = λ h. let i = h.is in cc
no_list most (whole z) e ts = λ h. let i = h.is in cc
no_list most (plain_text s) e ts = λ h. let i = h.is in cc
no_list most (array ds) e ts = absurd cc
no_list most (object ms) e ts = λ h. let i = h.is in cc

pub is_list : (d : Document) (ds : Items) → Some ds ≡ items_in d → d ≡ array ds
is_list null ds e = absurd cc
is_list (boolean b) ds e = absurd cc
is_list (whole z) ds e = absurd cc
is_list (plain_text s) ds e = absurd cc
is_list (array es) ds e = ap array (cc)
is_list (object ms) ds e = absurd cc

pub no_text : (Form : List ℕ → Type 0) (d : Document) → None ≡ text_of d → ¬ IsTextOf Form d
no_text Form null e = λ h. h
no_text Form (boolean b) e = λ h. h
no_text Form (whole z) e = λ h. h
no_text Form (plain_text s) e = absurd cc
no_text Form (array ds) e = λ h. h
no_text Form (object ms) e = λ h. h

some_same : (a b : ℕ) → Some a ≡ Some b → a ≡ b
some_same a b e = cc

moment_of_text : (found : Option ℕ) (t : List ℕ) → IfSome found (λ m. IsDateTime m t) → (found ≡ None → (m : ℕ) → ¬ IsDateTime m t) → ((m : ℕ) → IsDateTime m t → found ≡ Some m)
    → MatchOption found (¬ IsTextOf IsMoment (plain_text t)) (IsOnlyMoment (plain_text t))
moment_of_text None t is none only = λ h. none refl h.0 h.1
moment_of_text (Some m) t is none only = record { said = t; is = refl; moment = is; only = λ n h. some_same m n (only n h) }

pub moment_found : (found : Option ℕ) (t : List ℕ) (d : Document) → Some t ≡ text_of d → IfSome found (λ m. IsDateTime m t) → (found ≡ None → (m : ℕ) → ¬ IsDateTime m t)
    → ((m : ℕ) → IsDateTime m t → found ≡ Some m) → MatchOption found (¬ IsTextOf IsMoment d) (IsOnlyMoment d)
moment_found found t d e is none only =
    subst (λ (x : Document). MatchOption found (¬ IsTextOf IsMoment x) (IsOnlyMoment x)) (sym (is_text d t e)) (moment_of_text found t is none only)
