-- A document has one fault at most, and none where it says a definition.
use Rattle.std.proofs.Common.{◌≡◌, ℕ, List, [], ◌∷◌, Ordering, Less, Equal, Greater, nat_cmp, refl, sym, ap, ◌∙◌, inl, inr}
use Rattle.std.specs.Ordering.{ordering_reverse}
use Rattle.std.specs.Cmp.Lexicographic.{slice_cmp}
use Rattle.std.proofs.lemmas.Cmp.{nat_list_cmp_total}
use Rattle.task_defs.specs.declared.fault.DefFault.{DefFault}
use Rattle.task_defs.specs.Faults.{Rule, IsFirstKey, IsFault, AllHold}
use Rattle.task_defs.proofs.KeyLemmas.{same_key}

first_key_by : (o : Ordering) (Broken : List ℕ → Type 0) (a b : List ℕ) → slice_cmp nat_cmp a b ≡ o → IsFirstKey Broken a → IsFirstKey Broken b → a ≡ b
first_key_by Less Broken a b e x y = absurd (y.first a e x.breaks)
first_key_by Equal Broken a b e x y = same_key a b e
first_key_by Greater Broken a b e x y = absurd (x.first b (nat_list_cmp_total.antisymm b a ∙ ap ordering_reverse e) y.breaks)

fault_of_parts : (f g : DefFault) → f.rule ≡ g.rule → f.key ≡ g.key → f ≡ g
fault_of_parts f g r k = rw (r, k) refl

pub fault_one : (rs : List Rule) (f g : DefFault) → IsFault rs f → IsFault rs g → f ≡ g
fault_one [] f g x y = absurd x
fault_one (r ∷ rs) f g x y = elim x [
  | inl a ↦ elim y [
    | inl b ↦ fault_of_parts f g (a.0 ∙ sym b.0) (first_key_by (slice_cmp nat_cmp f.key g.key) r.Broken f.key g.key refl a.1 b.1)
    | inr b ↦ absurd (b.0 f.key a.1.breaks)
  ]
  | inr a ↦ elim y [ inl b ↦ absurd (a.0 g.key b.1.breaks) | inr b ↦ fault_one rs f g a.1 b.1 ]
]

pub no_fault : (rs : List Rule) (f : DefFault) → AllHold rs → ¬ IsFault rs f
no_fault [] f all x = x
no_fault (r ∷ rs) f all x = elim x [ inl a ↦ all.0 f.key a.1.breaks | inr a ↦ no_fault rs f all.1 a.1 ]
