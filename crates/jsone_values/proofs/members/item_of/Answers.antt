use Rattle.std.proofs.Common.{◌∙◌, sym, ap}
use mir.Syntax.{w64}
use mir.ValLaws.{to_z-of_z}
use Rattle.jsone_values.specs.Places.{place_of}
use Rattle.jsone_values.proofs.MemberLemmas.{item_found, item_none}
use Rattle.jsone_values.proofs.members.item_of.Goals as goal

pub returns-in-Some : goal.returns-in-Some
returns-in-Some c =
    let place = ap (λ z. place_of z c.len.result) (sym (to_z-of_z w64 c.args.index c.ranges.index)) ∙ sym c.place_of.ensures ∙ c.in-Some.is in
    item_found c.args.index c.args.value.now c.in-List.items c.in-Some.place c.len.result c.index.result.now c.in-List.is (c.len.ensures ∙ c.in-List.items.ok.0) place c.index.ensures

pub returns-in-None : goal.returns-in-None
returns-in-None c =
    let place = ap (λ z. place_of z c.len.result) (sym (to_z-of_z w64 c.args.index c.ranges.index)) ∙ sym c.place_of.ensures ∙ c.in-None.is in
    item_none c.args.index c.args.value.now c.in-List.items c.len.result c.in-List.is (c.len.ensures ∙ c.in-List.items.ok.0) place
