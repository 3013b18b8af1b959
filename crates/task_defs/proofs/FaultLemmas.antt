-- From what stands at a key to what a rule tells.
use Rattle.std.proofs.Common.{◌≡◌, ◌⊎◌, ◌∷◌, ℕ, List, Option, Some, None, Less, Equal, Greater, nat_cmp, refl, sym, ◌∙◌, subst, inl, inr}
use Rattle.std.specs.Cmp.Lexicographic.{slice_cmp}
use Rattle.std.specs.Cmp.{tied_itself}
use Rattle.std.proofs.lemmas.Cmp.{nat_list_cmp_total}
use Rattle.scope_sets.specs.Scopes.{IsBefore}
use Rattle.farm_text.specs.Document.{Document}
use Rattle.task_defs.specs.declared.fault.DefError.{DefError}
use Rattle.task_defs.specs.declared.fault.DefError.TheVariants.{Fault, NoMemory}
use Rattle.task_defs.specs.Faults.{Rule, Holds, IsFirstKey, Refuses, Tells, Breaks}
use Rattle.task_defs.specs.Rules.{At}
use Rattle.task_defs.specs.Values.{Ill, Well}

not_before_itself : (a : List ℕ) → IsBefore a a → ⊥
not_before_itself a h = let flat : Less ≡ Equal = sym h ∙ tied_itself nat_list_cmp_total a in absurd cc

pub tells_first : (n : ℕ) (key : List ℕ) (Broken : List ℕ → Type 0) (e : DefError) → Tells n key e → IsFirstKey Broken key → Breaks n Broken e
tells_first n key Broken (Fault f) t h = (t.0, subst (λ (k : List ℕ). IsFirstKey Broken k) (sym t.1) h)
tells_first n key Broken NoMemory t h = tt

pub well_not_ill : (Form : Document → Type 0) (o : Option Document) → Well Form o → ¬ Ill Form o
well_not_ill Form None w h = h
well_not_ill Form (Some d) w h = h w

-- ---- one key

pub ok_one : (Form : Document → Type 0) (o at : Option Document) (name : List ℕ) → o ≡ at → Well Form o → Holds (At name (Ill Form at))
ok_one Form o at name e w key h = well_not_ill Form at (subst (Well Form) e w) h.1

pub first_one : (name : List ℕ) (W : Type 0) → W → IsFirstKey (At name W) name
first_one name W w = record { breaks = (refl, w); first = λ other before h. not_before_itself name (subst (λ (k : List ℕ). IsBefore k name) h.0 before) }

pub err_one : (n : ℕ) (Form : Document → Type 0) (o at : Option Document) (name : List ℕ) (e : DefError) → o ≡ at → Ill Form o → Tells n name e → Breaks n (At name (Ill Form at)) e
err_one n Form o at name e is ill t = tells_first n name (At name (Ill Form at)) e t (first_one name (Ill Form at) (subst (Ill Form) is ill))

-- ---- two keys

pub ok_two : (a b : List ℕ) (A B : Type 0) → (¬ A) → (¬ B) → Holds (λ key. At a A key ⊎ At b B key)
ok_two a b A B na nb key h = elim h [ inl x ↦ na x.1 | inr x ↦ nb x.1 ]

pub first_of_two : (a b : List ℕ) (A B : Type 0) → slice_cmp nat_cmp b a ≡ Greater → A → IsFirstKey (λ key. At a A key ⊎ At b B key) a
first_of_two a b A B up w = record {
  breaks = inl (refl, w);
  first = λ other before h. elim h [
    | inl x ↦ not_before_itself a (subst (λ (k : List ℕ). IsBefore k a) x.0 before)
    | inr x ↦ let flat : Less ≡ Greater = sym (subst (λ (k : List ℕ). IsBefore k a) x.0 before) ∙ up in absurd cc
  ];
}

pub second_of_two : (a b : List ℕ) (A B : Type 0) → (¬ A) → B → IsFirstKey (λ key. At a A key ⊎ At b B key) b
second_of_two a b A B na w = record {
  breaks = inr (refl, w);
  first = λ other before h. elim h [ inl x ↦ na x.1 | inr x ↦ not_before_itself b (subst (λ (k : List ℕ). IsBefore k b) x.0 before) ];
}

-- ---- three keys

pub ok_three : (a b c : List ℕ) (A B C : Type 0) → (¬ A) → (¬ B) → (¬ C) → Holds (λ key. At a A key ⊎ At b B key ⊎ At c C key)
ok_three a b c A B C na nb nc key h = elim h [ inl x ↦ na x.1 | inr x ↦ elim x [ inl y ↦ nb y.1 | inr y ↦ nc y.1 ] ]

pub first_of_three : (a b c : List ℕ) (A B C : Type 0) → slice_cmp nat_cmp b a ≡ Greater → slice_cmp nat_cmp c a ≡ Greater → A → IsFirstKey (λ key. At a A key ⊎ At b B key ⊎ At c C key) a
first_of_three a b c A B C up over w = record {
  breaks = inl (refl, w);
  first = λ other before h. elim h [
    | inl x ↦ not_before_itself a (subst (λ (k : List ℕ). IsBefore k a) x.0 before)
    | inr x ↦ elim x [
      | inl y ↦ let flat : Less ≡ Greater = sym (subst (λ (k : List ℕ). IsBefore k a) y.0 before) ∙ up in absurd cc
      | inr y ↦ let flat : Less ≡ Greater = sym (subst (λ (k : List ℕ). IsBefore k a) y.0 before) ∙ over in absurd cc
    ]
  ];
}

pub second_of_three : (a b c : List ℕ) (A B C : Type 0) → slice_cmp nat_cmp c b ≡ Greater → (¬ A) → B → IsFirstKey (λ key. At a A key ⊎ At b B key ⊎ At c C key) b
second_of_three a b c A B C up na w = record {
  breaks = inr (inl (refl, w));
  first = λ other before h. elim h [
    | inl x ↦ na x.1
    | inr x ↦ elim x [
      | inl y ↦ not_before_itself b (subst (λ (k : List ℕ). IsBefore k b) y.0 before)
      | inr y ↦ let flat : Less ≡ Greater = sym (subst (λ (k : List ℕ). IsBefore k b) y.0 before) ∙ up in absurd cc
    ]
  ];
}

pub third_of_three : (a b c : List ℕ) (A B C : Type 0) → (¬ A) → (¬ B) → C → IsFirstKey (λ key. At a A key ⊎ At b B key ⊎ At c C key) c
third_of_three a b c A B C na nb w = record {
  breaks = inr (inr (refl, w));
  first = λ other before h. elim h [ inl x ↦ na x.1 | inr x ↦ elim x [ inl y ↦ nb y.1 | inr y ↦ not_before_itself c (subst (λ (k : List ℕ). IsBefore k c) y.0 before) ] ];
}

-- ---- rules in their order

pub here : (r : Rule) (rs : List Rule) (e : DefError) → Breaks r.number r.Broken e → Refuses (r ∷ rs) e
here r rs (Fault f) h = inl h
here r rs NoMemory h = tt

pub there : (r : Rule) (rs : List Rule) (e : DefError) → Holds r.Broken → Refuses rs e → Refuses (r ∷ rs) e
there r rs (Fault f) holds h = inr (holds, h)
there r rs NoMemory holds h = tt
