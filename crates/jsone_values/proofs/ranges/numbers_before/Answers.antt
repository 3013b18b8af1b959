use Rattle.std.proofs.Common.{◌≡◌, ◌<◌, ◌+ℤ◌, ◌++◌, ◌∷◌, [], ℤ, pos, Bool, true, false, List, FitsSigned, length, rules, arith, refl, sym, ap, subst, ◌∙◌, w64, to_z, of_z}
use Rattle.std.proofs.Math.Facts.{sfits_to_z}
use Rattle.std.proofs.lemmas.Int.{to_z-of_z}
use Rattle.std.proofs.lemmas.List.{map-append, length-map}
use Rattle.farm_text.specs.Document.{Document, whole}
use Rattle.farm_text.specs.Doc.{document, documents}
use Rattle.farm_text.specs.declared.doc.Doc.TheVariants.{Int as int_doc}
use Rattle.jsone_values.specs.Ranges.{stepping, steps_before}
use Rattle.jsone_values.proofs.JoinLemmas.{document-Int}
use Rattle.jsone_values.proofs.RangeLemmas.{is_before, steps_more, steps_done, steps_past, one_number_more, no_number_more, more_than_done, fewer, same_range}
use Rattle.jsone_values.proofs.ranges.numbers_before.Goals as goal

pub returns-then-len-most : goal.returns-then-len-most
returns-then-len-most c =
    let from = to_z w64 (of_z w64 c.args.from) in
    let end = to_z w64 (of_z w64 c.args.end) in
    let step = to_z w64 (of_z w64 c.args.step) in
    let next = to_z w64 c.loop-numbers.next-bits in
    let some : step ≡ pos 0 → ⊥ = λ e. c.requires (sym (to_z-of_z w64 _ c.ranges.step) ∙ e) in
    let all = same_range from c.args.from end c.args.end step c.args.step (to_z-of_z w64 _ c.ranges.from) (to_z-of_z w64 _ c.ranges.end) (to_z-of_z w64 _ c.ranges.step) in
    let before : is_before next end step ≡ true = sym c.is_before.ensures ∙ c.loop-numbers-test.true in
    let more = more_than_done (documents c.loop-numbers.numbers.items) next end step _ some before c.loop-numbers.invariant in
    omega (arith, more, ap (λ (ds : List Document). length ds) all, length-map c.loop-numbers.numbers.items document, c.loop-numbers.numbers.ok.0, c.if-len-most.true, c.len.ensures)

pub loop-numbers-preserved : goal.loop-numbers-preserved
loop-numbers-preserved c =
    let end = to_z w64 (of_z w64 c.args.end) in
    let step = to_z w64 (of_z w64 c.args.step) in
    let next = to_z w64 c.loop-numbers.next-bits in
    let some : step ≡ pos 0 → ⊥ = λ e. c.requires (sym (to_z-of_z w64 _ c.ranges.step) ∙ e) in
    let before : is_before next end step ≡ true = sym c.is_before.ensures ∙ c.loop-numbers-test.true in
    let done = documents c.loop-numbers.numbers.items in
    let later : to_z w64 (of_z w64 c.in-Some.number) ≡ next +ℤ step = to_z-of_z w64 c.in-Some.number (subst (FitsSigned w64) (sym c.in-Some.ensures.1) c.in-Some.ensures.0) ∙ c.in-Some.ensures.1 in
    let items : documents c.push.new.self.items ≡ done ++ whole next ∷ [] =
    ap documents c.in_ok-push.ensures.items ∙ map-append document c.loop-numbers.numbers.items (int_doc next ∷ []) ∙ ap (λ d. done ++ d ∷ []) (document-Int next) in
    ap (λ ds. ds ++ stepping (to_z w64 (of_z w64 c.in-Some.number)) step (steps_before (to_z w64 (of_z w64 c.in-Some.number)) end step)) items
    ∙ ap (λ z. (done ++ whole next ∷ []) ++ stepping z step (steps_before z end step)) later
    ∙ one_number_more done next end step _ some before c.loop-numbers.invariant

pub loop-numbers-smaller : goal.loop-numbers-smaller
loop-numbers-smaller c =
    let end = to_z w64 (of_z w64 c.args.end) in
    let step = to_z w64 (of_z w64 c.args.step) in
    let next = to_z w64 c.loop-numbers.next-bits in
    let some : step ≡ pos 0 → ⊥ = λ e. c.requires (sym (to_z-of_z w64 _ c.ranges.step) ∙ e) in
    let before : is_before next end step ≡ true = sym c.is_before.ensures ∙ c.loop-numbers-test.true in
    let later : to_z w64 (of_z w64 c.in-Some.number) ≡ next +ℤ step = to_z-of_z w64 c.in-Some.number (subst (FitsSigned w64) (sym c.in-Some.ensures.1) c.in-Some.ensures.0) ∙ c.in-Some.ensures.1 in
    fewer next (to_z w64 (of_z w64 c.in-Some.number)) end step some before later

pub returns-in-None : goal.returns-in-None
returns-in-None c =
    let from = to_z w64 (of_z w64 c.args.from) in
    let end = to_z w64 (of_z w64 c.args.end) in
    let step = to_z w64 (of_z w64 c.args.step) in
    let next = to_z w64 c.loop-numbers.next-bits in
    let some : step ≡ pos 0 → ⊥ = λ e. c.requires (sym (to_z-of_z w64 _ c.ranges.step) ∙ e) in
    let before : is_before next end step ≡ true = sym c.is_before.ensures ∙ c.loop-numbers-test.true in
    let done = documents c.loop-numbers.numbers.items in
    let items : documents c.push.new.self.items ≡ done ++ whole next ∷ [] =
    ap documents c.in_ok-push.ensures.items ∙ map-append document c.loop-numbers.numbers.items (int_doc next ∷ []) ∙ ap (λ d. done ++ d ∷ []) (document-Int next) in
    let none =
    steps_past next end step some (sfits_to_z c.loop-numbers.auto.next-fits) (subst (FitsSigned w64) (sym (to_z-of_z w64 _ c.ranges.end)) c.ranges.end) (subst (FitsSigned w64) (sym (to_z-of_z w64 _ c.ranges.step)) c.ranges.step) c.in-None.ensures in
    items
    ∙ no_number_more (done ++ whole next ∷ []) (next +ℤ step) end step _ none (one_number_more done next end step _ some before c.loop-numbers.invariant)
    ∙ same_range from c.args.from end c.args.end step c.args.step (to_z-of_z w64 _ c.ranges.from) (to_z-of_z w64 _ c.ranges.end) (to_z-of_z w64 _ c.ranges.step)

pub returns : goal.returns
returns c =
    let from = to_z w64 (of_z w64 c.args.from) in
    let end = to_z w64 (of_z w64 c.args.end) in
    let step = to_z w64 (of_z w64 c.args.step) in
    let next = to_z w64 c.loop-numbers.next-bits in
    let some : step ≡ pos 0 → ⊥ = λ e. c.requires (sym (to_z-of_z w64 _ c.ranges.step) ∙ e) in
    let past : is_before next end step ≡ false = sym c.is_before.ensures ∙ c.loop-numbers-test.false in
    no_number_more (documents c.loop-numbers.numbers.items) next end step _ (steps_done next end step some past) c.loop-numbers.invariant
    ∙ same_range from c.args.from end c.args.end step c.args.step (to_z-of_z w64 _ c.ranges.from) (to_z-of_z w64 _ c.ranges.end) (to_z-of_z w64 _ c.ranges.step)
