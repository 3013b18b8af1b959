-- Two definitions are equal or not: their codes are.
use Rattle.std.proofs.Common.{◌≡◌, ◌⊎◌, ℕ, refl, ap, inl, inr, arith}
use Rattle.std.proofs.lemmas.Bool.{cases_lt}
use Rattle.std.specs.Coded.{Coded, codes}
use base.Stored.{Gv, gnil, gnum, gcons}
use Rattle.task_types.specs.Codes.{members_code}
use Rattle.task_types.specs.declared.task_def.TaskDef.{TaskDef}

num_decided : (a b : ℕ) → (gnum a ≡ gnum b) ⊎ ¬ (gnum a ≡ gnum b)
num_decided a b = elim (cases_lt a b) [
  | inl below ↦ inr (λ same. let e : a ≡ b = cc in omega (arith, below, e))
  | inr from ↦ elim (cases_lt b a) [
    | inl above ↦ inr (λ same. let e : a ≡ b = cc in omega (arith, above, e))
    | inr upto ↦ let e : a ≡ b = omega (arith, from, upto) in inl (ap gnum e)
  ]
]

both : {a b c d : Gv} → (a ≡ c) ⊎ ¬ (a ≡ c) → (b ≡ d) ⊎ ¬ (b ≡ d) → (gcons a b ≡ gcons c d) ⊎ ¬ (gcons a b ≡ gcons c d)
both {a} {b} {c} {d} (inl p) (inl q) = inl (rw (p, q) refl)
both {a} {b} {c} {d} (inl p) (inr q) = inr (λ same. let e : b ≡ d = cc in q e)
both {a} {b} {c} {d} (inr p) q = inr (λ same. let e : a ≡ c = cc in p e)

code_decided : (a b : Gv) → (a ≡ b) ⊎ ¬ (a ≡ b)
code_decided gnil gnil = inl refl
code_decided gnil (gnum n) = inr (λ same. cc)
code_decided gnil (gcons c d) = inr (λ same. cc)
code_decided (gnum m) gnil = inr (λ same. cc)
code_decided (gnum m) (gnum n) = num_decided m n
code_decided (gnum m) (gcons c d) = inr (λ same. cc)
code_decided (gcons a b) gnil = inr (λ same. cc)
code_decided (gcons a b) (gnum n) = inr (λ same. cc)
code_decided (gcons a b) (gcons c d) = both (code_decided a c) (code_decided b d)

coded_definition : Coded TaskDef
coded_definition = Prim.hlevel (codes, members_code)

by_code : {A : Type 0} (coded : Coded A) (a b : A) → (coded.code a ≡ coded.code b) ⊎ ¬ (coded.code a ≡ coded.code b) → (a ≡ b) ⊎ ¬ (a ≡ b)
by_code coded a b (inl same) = inl (coded.inj a b same)
by_code coded a b (inr other) = inr (λ same. other (ap coded.code same))

pub definition_decided : (a b : TaskDef) → (a ≡ b) ⊎ ¬ (a ≡ b)
definition_decided a b = by_code coded_definition a b (code_decided (coded_definition.code a) (coded_definition.code b))
