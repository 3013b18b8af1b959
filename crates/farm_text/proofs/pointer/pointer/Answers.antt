use Rattle.std.proofs.Common.{◌≡◌, ℕ, List, [], ◌∷◌, ◌++◌, string_bytes, ap, sym, ◌∙◌, append_assoc, arith}
use Rattle.std.proofs.lemmas.Grind.{common_steps}
use Rattle.farm_text.specs.Pointer.{part_text, pointer_under}
use Rattle.farm_text.specs.declared.pointer.Part.{Part}
use Rattle.farm_text.proofs.PointerLemmas.{pointer_under-last}
use Rattle.farm_text.proofs.pointer.pointer.Goals as goal

pushed : (old new : List ℕ) (parts left : List Part) (part : Part) (whole : List ℕ) → parts ≡ left ++ part ∷ [] → new ≡ old ++ 47 ∷ part_text part → old ++ pointer_under [] parts ≡ whole
    → new ++ pointer_under [] left ≡ whole
pushed old new parts left part whole all written so_far =
    ap (λ t. t ++ pointer_under [] left) written ∙ append_assoc old (47 ∷ part_text part) (pointer_under [] left)
    ∙ ap (λ t. old ++ t) (sym (pointer_under-last [] left part) ∙ ap (pointer_under []) (sym all)) ∙ so_far

pub parts-preserved-in_ok-push_part : goal.parts-preserved-in_ok-push_part
parts-preserved-in_ok-push_part c =
    pushed (string_bytes c.parts.out) (string_bytes c.push_part.new.out) c.parts.parts.items c.pop.new.self.items c.in-Some.part _ (grind (arith, common_steps)) (grind (arith, common_steps)) c.parts.invariant

pub parts-preserved : goal.parts-preserved
parts-preserved c =
    pushed (string_bytes c.parts.out) (string_bytes c.push_part.new.out) c.parts.parts.items c.pop.new.self.items c.in-Some.part _ (grind (arith, common_steps)) (grind (arith, common_steps)) c.parts.invariant
