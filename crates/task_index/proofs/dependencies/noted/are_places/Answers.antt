use Rattle.std.proofs.Common.{◌≡◌, ℕ, List, [], ◌∷◌, ◌++◌, length, get_or, rules, ap, sym, ◌∙◌, arith}
use Rattle.std.proofs.lemmas.List.{length_push}
use Rattle.std.proofs.lemmas.Slice.Zip.{zip_turn, zip_end}
use Rattle.std.specs.Slice.Iter.{iter_rest}
use Rattle.std.specs.Iterator.Adapters.{zip_first, zip_second}
use Rattle.task_index.specs.Dependencies.{ids_of, place_in}
use Rattle.task_index.proofs.BehindLemmas.{more-places, all-places}
use Rattle.task_index.proofs.dependencies.noted.are_places.Goals as goal

pub loop-name-preserved : goal.loop-name-preserved
loop-name-preserved c =
    let ids : List (List ℕ) = ids_of c.args.rows.now ++ c.args.id ∷ [] in
    let named = c.args.named.now in
    let places = c.args.dependencies.now in
    let so_far = c.loop-name.yielded in
    let n = length so_far in
    let first : iter_rest (zip_first c.into_iter-name-iterator.result) ≡ named = search rules in
    let second : iter_rest (zip_second c.into_iter-name-iterator.result) ≡ places = search rules in
    let turn = zip_turn named places so_far c.into_iter-name-iterator.result c.loop-name.name-iterator c.next.new.self c.next.result first second c.loop-name.yielded_by (c.in-Some.name, c.in-Some.dependency) c.in-Some.is c.next.ensures.steps in
    let here : get_or places n 0 ≡ place_in ids (get_or named n []) =
    sym (turn.3 0) ∙ (sym c.if-place_behind-dependency.false ∙ (c.place_behind.ensures.place ∙ ap (place_in ids) (turn.2 []))) in
    λ k less. more-places ids named places n c.loop-name.invariant here k (let more = length_push so_far (c.in-Some.name, c.in-Some.dependency) in omega arith)

pub returns : goal.returns
returns c =
    let ids : List (List ℕ) = ids_of c.args.rows.now ++ c.args.id ∷ [] in
    let named = c.args.named.now in
    let places = c.args.dependencies.now in
    let so_far = c.loop-name.yielded in
    let first : iter_rest (zip_first c.into_iter-name-iterator.result) ≡ named = search rules in
    let second : iter_rest (zip_second c.into_iter-name-iterator.result) ≡ places = search rules in
    let ended = zip_end named places so_far c.into_iter-name-iterator.result c.loop-name.name-iterator c.next.new.self c.next.result first second c.loop-name.yielded_by c.in-None.is c.next.ensures.steps in
    let same : length named ≡ length places = (let h = c.if-named-dependencies.false in omega arith) in
    let all = all-places ids named places same (λ k less. c.loop-name.invariant k (omega arith)) in
    (λ _. all, λ _. search rules)
