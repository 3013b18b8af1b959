use Rattle.std.proofs.Common.{◌≡◌, ℕ, List, [], ◌∷◌, is_some, Ok, string_bytes, sym, ap, ◌∙◌, arith}
use Rattle.std.specs.Vec.Iter.{into_iter_items}
use Rattle.std.proofs.lemmas.Grind.{common_steps}
use Rattle.farm_text.specs.Document.{members_of, member_at}
use Rattle.farm_text.specs.Doc.{document, entries_of}
use Rattle.farm_text.proofs.DocLemmas.{document-Map}
use Rattle.jsone_values.specs.Maps.{map_with}
use Rattle.jsone_values.proofs.MapLemmas.{one_member, key_twice}
use Rattle.jsone_values.proofs.maps.map_of.Goals as goal

pub returns-then-has_key : goal.returns-then-has_key
returns-then-has_key c =
    let next : into_iter_items c.loop-key.key-iterator ≡ (c.in-Some.key, c.in-Some.value) ∷ into_iter_items c.next.new.self = grind (arith, common_steps) in
    let ms = members_of (entries_of c.loop-key.map.entries) in
    let more = entries_of (into_iter_items c.next.new.self) in
    sym (key_twice ms (string_bytes c.in-Some.key) (document c.in-Some.value) more (ap (λ (k : List ℕ). is_some (member_at k ms)) (sym c.as_str.ensures.value) ∙ sym c.has_key.ensures ∙ c.if-has_key.true)) ∙ ap (λ es. map_with ms (entries_of es)) (sym next) ∙ c.loop-key.invariant

pub loop-key-preserved : goal.loop-key-preserved
loop-key-preserved c =
    let next : into_iter_items c.loop-key.key-iterator ≡ (c.in-Some.key, c.in-Some.value) ∷ into_iter_items c.next.new.self = grind (arith, common_steps) in
    let ms = members_of (entries_of c.loop-key.map.entries) in
    let more = entries_of (into_iter_items c.next.new.self) in
    ap (λ l. map_with l more) c.in-Ok.ensures ∙ sym (one_member ms (string_bytes c.in-Some.key) (document c.in-Some.value) more (ap (λ (k : List ℕ). is_some (member_at k ms)) (sym c.as_str.ensures.value) ∙ sym c.has_key.ensures ∙ c.if-has_key.false)) ∙ ap (λ es. map_with ms (entries_of es)) (sym next) ∙ c.loop-key.invariant

pub returns : goal.returns
returns c =
    let none : into_iter_items c.loop-key.key-iterator ≡ [] = grind (arith, common_steps) in
    let ms = members_of (entries_of c.loop-key.map.entries) in
    ap (λ d. Ok d) (document-Map c.loop-key.map) ∙ ap (λ es. map_with ms (entries_of es)) (sym none) ∙ c.loop-key.invariant
