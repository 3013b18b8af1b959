use Rattle.std.proofs.Common.{◌≡◌, ◌∷◌, List, ℕ, string_bytes, ap, ◌∙◌, arith}
use Rattle.std.proofs.lemmas.Grind.{common_steps}
use Rattle.farm_text.specs.Document.{put, member_at}
use Rattle.farm_text.specs.Doc.{document, documents}
use Rattle.farm_text.specs.declared.doc.Doc.TheVariants.{Null as null_doc}
use Rattle.farm_text.proofs.DocLemmas.{members_in, document-List, document-Map}
use Rattle.jsone_render.specs.Answers.{found_in}
use Rattle.jsone_render.specs.Merges.{deep_all}
use Rattle.jsone_render.proofs.PutLemmas.{deep_more, joined_lists, joined_maps, no_list_there, no_map_there, clone_there}
use Rattle.jsone_render.proofs.merges.+deepen.Goals as goal

pub deep-returns-in_ok-joined-in-Some : goal.deep-returns-in_ok-joined-in-Some
deep-returns-in_ok-joined-in-Some t c =
    let all = c.in_ok-joined-in-Some in
    document-List all.field-0
    ∙ joined_lists (document c.args.later.now) (found_in c.args.before) (documents c.in-List.more.items) (documents c.in-Some.items.items) (documents all.field-0.items)
    (ap document c.in-List.is ∙ document-List c.in-List.more) c.in-Some.ensures all.ensures

pub deep-returns-in-Ok : goal.deep-returns-in-Ok
deep-returns-in-Ok t c =
    let all = c.deep_all.new.members in
    document-Map all
    ∙ joined_maps (document c.args.later.now) (found_in c.args.before) (members_in c.in-Map.more.entries) (members_in c.in-Some-map_in.members.entries) (members_in all.entries)
    (ap document c.in-Map.is ∙ document-Map c.in-Map.more) c.in-Some-map_in.ensures c.in-Ok.ensures

pub deep-returns-in-None : goal.deep-returns-in-None
deep-returns-in-None t c =
    clone_there (λ e. ⊥ → ⊥) (document c.args.later.now) (found_in c.args.before) c.clone.result
    (no_list_there (document c.args.later.now) (documents c.in-List.more.items) (found_in c.args.before) (ap document c.in-List.is ∙ document-List c.in-List.more) c.in-None.ensures) c.clone.ensures.cases

pub deep-returns-in-None-map_in : goal.deep-returns-in-None-map_in
deep-returns-in-None-map_in t c =
    clone_there (λ e. ⊥ → ⊥) (document c.args.later.now) (found_in c.args.before) c.clone-in-None-map_in.result
    (no_map_there (document c.args.later.now) (members_in c.in-Map.more.entries) (found_in c.args.before) (ap document c.in-Map.is ∙ document-Map c.in-Map.more) c.in-None-map_in.ensures) c.clone-in-None-map_in.ensures.cases

pub deep_all-loop-key-preserved : goal.deep_all-loop-key-preserved
deep_all-loop-key-preserved t c =
    let l = c.loop-key in
    let next : l.key-iterator ≡ (c.in-Some.key.now, c.in-Some.value.now) ∷ c.next.new.self = grind (arith, common_steps) in
    let ms = members_in l.members.entries in
    let one = c.as_str.ensures.value in
    let two = c.as_str-in-loop-key.ensures.value in
    deep_more (members_in l.key-iterator) (members_in c.next.new.self) (string_bytes c.in-Some.key.now) (document c.in-Some.value.now) (document null_doc) (document c.in_ok-joined.joined) (found_in c.in_ok-found.found)
    ms (members_in c.replaced.new.members.entries) (members_in c.replaced-in-loop-key.new.members.entries) (deep_all (members_in c.args.later.now.entries) (members_in c.args.members.now.entries))
    (ap members_in next) (c.in_ok-found.ensures.before ∙ ap (λ (b : List ℕ). member_at b ms) one) (c.in_ok-found.ensures.put ∙ ap (λ (b : List ℕ). put b (document null_doc) ms) one) c.in_ok-joined.ensures
    (c.in_ok-replaced.ensures.put ∙ ap (λ (b : List ℕ). put b (document c.in_ok-joined.joined) (members_in c.replaced.new.members.entries)) two) l.invariant
