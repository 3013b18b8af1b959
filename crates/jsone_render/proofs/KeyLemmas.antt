-- The keys of a map, one after the other.
use Rattle.std.proofs.Common.{◌≡◌, ℕ, Bool, true, false, List, [], ◌∷◌, ◌++◌, Bor, sym, ap, subst, ◌∙◌, append_assoc, append-nil}
use Rattle.std.specs.List.{filter}
use Rattle.std.proofs.lemmas.List.Elements.{filter-append}
use Rattle.farm_text.proofs.DocLemmas.{Entry, members_in}
use Rattle.jsone_render.specs.declared.keys.Others.{Others}
use Rattle.jsone_render.specs.declared.keys.Others.TheVariants.{One as one_other, More as more_others}
use Rattle.jsone_render.specs.Answers.{AreOthers}
use Rattle.jsone_render.specs.Maps.{keys_of}

abbrev pub keys_in : List Entry → List (List ℕ)
keys_in es = keys_of (members_in es)

-- the keys that passed, and those that are left
pub counted : (p : List ℕ → Bool) (done : List (List ℕ)) (k : List ℕ) (left rest all : List (List ℕ)) → rest ≡ k ∷ left → done ++ filter p rest ≡ all → (done ++ filter p (k ∷ [])) ++ filter p left ≡ all
counted p done k left rest all e h =
    append_assoc done (filter p (k ∷ [])) (filter p left) ∙ ap (λ l. done ++ l) (sym (filter-append p (k ∷ []) left)) ∙ ap (λ l. done ++ filter p l) (sym e) ∙ h

pub none_left : (p : List ℕ → Bool) (done rest all : List (List ℕ)) → rest ≡ [] → done ++ filter p rest ≡ all → done ≡ all
none_left p done rest all e h = sym (append-nil done) ∙ ap (λ l. done ++ filter p l) (sym e) ∙ h

-- a key that passes the test, and one that does not
pub passes : (p : List ℕ → Bool) (o : Others) (ks : List (List ℕ)) (k : List ℕ) → p k ≡ true → AreOthers o (ks ++ k ∷ []) → AreOthers o (ks ++ filter p (k ∷ []))
passes p o ks k true_of h = rw true_of h

pub passes_not : (p : List ℕ → Bool) (o : Others) (ks : List (List ℕ)) (k : List ℕ) → p k ≡ false → AreOthers o ks → AreOthers o (ks ++ filter p (k ∷ []))
passes_not p o ks k false_of h = rw false_of (subst (λ l. AreOthers o l) (sym (append-nil ks)) h)

-- one more of other keys
pub one_then : (o : Others) (k : Bor (List ℕ)) (key : List ℕ) → o ≡ one_other k → (ks : List (List ℕ)) → AreOthers o ks → AreOthers more_others (ks ++ key ∷ [])
one_then o k key e ks h = (k.now, key, [], ap (λ l. l ++ key ∷ []) (subst (λ x. AreOthers x ks) e h))

pub more_then : (o : Others) (key : List ℕ) → o ≡ more_others → (ks : List (List ℕ)) → AreOthers o ks → AreOthers more_others (ks ++ key ∷ [])
more_then o key e ks h =
    let (a, b, more, is) = subst (λ x. AreOthers x ks) e h in
    (a, b, more ++ key ∷ [], ap (λ l. l ++ key ∷ []) is)
