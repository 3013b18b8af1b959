use Rattle.std.proofs.Common.{◌≡◌, ◌+◌, [], ◌∷◌, ◌++◌, suc, length, Err, string_bytes, map, sym, ap, ◌∙◌, append_assoc, arith, decimal}
use Rattle.std.specs.Vec.Iter.{into_iter_items}
use Rattle.std.proofs.lemmas.Grind.{common_steps}
use Rattle.serde_json.specs.View.{view, items_view, members_view}
use Rattle.farm_text.specs.Pointer.{pointer_under}
use Rattle.farm_text.specs.Reading.{escaped, unwhole, unwhole_items, unwhole_members}
use Rattle.farm_text.specs.declared.pointer.Part.TheVariants.{Index, Key}
use Rattle.farm_text.proofs.ReadingLemmas.{ValueEntry, items_size, members_size, items_size-within, members_size-within, one_more_item, one_more_member, insert_last, keys_of-last, past_items, past_members, first_under, last_item_whole, last_member_whole}
use Rattle.farm_text.proofs.reading.+whole.Goals as goal

pub whole_items-whole-requires : goal.whole_items-whole-requires
whole_items-whole-requires t c =
    let (done, all, len, same, none) = c.items.invariant in
    let next : into_iter_items c.items.item-iterator ≡ c.in-Some.item ∷ into_iter_items c.next.new.self = grind (arith, common_steps) in
    let within = items_size-within done (into_iter_items c.next.new.self) c.in-Some.item in
    (omega (arith, c.decreases, ap (λ vs. items_size (items_view vs)) (all ∙ ap (λ vs. done ++ vs) next), within), tt)

pub whole_items-items-preserved : goal.whole_items-items-preserved
whole_items-items-preserved t c =
    let (done, all, len, same, none) = c.items.invariant in
    let v = c.in-Some.item in
    let d = c.in-Ok.doc in
    let left = into_iter_items c.next.new.self in
    let next : into_iter_items c.items.item-iterator ≡ v ∷ left = grind (arith, common_steps) in
    let pushed : c.keep_item.new.docs.items ≡ c.items.docs.items ++ d ∷ [] = c.in_ok-keep_item-in-Ok.ensures in (
      done ++ v ∷ [],
      all ∙ ap (λ vs. done ++ vs) next ∙ sym (append_assoc done (v ∷ []) left),
      rw pushed (grind (arith, common_steps, len)),
      rw pushed (one_more_item c.items.docs.items d done v same c.in-Ok.ensures.document),
      last_item_whole done v none c.in-Ok.ensures.whole,
    )

pub whole_items-returns-in-Err-clause-first : goal.whole_items-returns-in-Err-clause-first
whole_items-returns-in-Err-clause-first t c = λ parts fault.
    let (done, all, len, same, none) = c.items.invariant in
    let v = c.in-Some.item in
    let left = into_iter_items c.next.new.self in
    let next : into_iter_items c.items.item-iterator ≡ v ∷ left = grind (arith, common_steps) in
    let (inner, was, longer) = c.under.ensures parts (grind (arith, fault)) in
    let (more, first) = c.in-Err.ensures.first inner (ap Err was) in
    let place : 0 + length done ≡ c.len-in-Err.result = omega (arith, len, c.len-in-Err.ensures) in
    let found = first_under (Index c.len-in-Err.result) inner.items (unwhole (view v)) more (unwhole_items (suc c.len-in-Err.result) (items_view left)) first in (
      map (λ path. 47 ∷ (decimal c.len-in-Err.result ++ path)) more ++ unwhole_items (suc c.len-in-Err.result) (items_view left),
      ap (λ vs. unwhole_items 0 (items_view vs)) (all ∙ ap (λ vs. done ++ vs) next) ∙ past_items done (v ∷ left) 0 none ∙ ap (λ n. unwhole_items n (items_view (v ∷ left))) place ∙ found
          ∙ ap (λ ps. pointer_under [] ps ∷ (map (λ path. 47 ∷ (decimal c.len-in-Err.result ++ path)) more ++ unwhole_items (suc c.len-in-Err.result) (items_view left))) (sym longer),
    )

pub whole_members-whole-requires : goal.whole_members-whole-requires
whole_members-whole-requires t c =
    let (done, all, keys, same, none) = c.members.invariant in
    let e : ValueEntry = (c.in-Some.key, c.in-Some.member) in
    let next : c.members.key-iterator ≡ e ∷ c.next.new.self = grind (arith, common_steps) in
    let within = members_size-within done c.next.new.self e in
    (omega (arith, c.decreases, ap (λ es. members_size (members_view es)) (all ∙ ap (λ es. done ++ es) next), within), tt)

pub whole_members-members-preserved : goal.whole_members-members-preserved
whole_members-members-preserved t c =
    let (done, whole, keys, same, none) = c.members.invariant in
    let e : ValueEntry = (c.in-Some.key, c.in-Some.member) in
    let d = c.in-Ok.doc in
    let left = c.next.new.self in
    let next : c.members.key-iterator ≡ e ∷ left = grind (arith, common_steps) in
    let all : c.args.members.entries ≡ done ++ e ∷ left = whole ∙ ap (λ es. done ++ es) next in
    let sorted = rw all at c.into_iter-key-iterator.ensures.into_iter_gives.5 in
    let entries = c.in_ok-keep_member-in-Ok.ensures ∙ insert_last c.members.docs.entries done e left d keys sorted in (
      done ++ e ∷ [],
      all ∙ sym (append_assoc done (e ∷ []) left),
      rw entries (keys_of-last c.members.docs.entries done e.0 d e.1 keys),
      rw entries (one_more_member c.members.docs.entries done e.0 d e.1 same c.in-Ok.ensures.document),
      last_member_whole done e none c.in-Ok.ensures.whole,
    )

pub whole_members-returns-in-Err-clause-first : goal.whole_members-returns-in-Err-clause-first
whole_members-returns-in-Err-clause-first t c = λ parts fault.
    let (done, all, keys, same, none) = c.members.invariant in
    let e : ValueEntry = (c.in-Some.key, c.in-Some.member) in
    let left = c.next.new.self in
    let next : c.members.key-iterator ≡ e ∷ left = grind (arith, common_steps) in
    let (inner, was, longer) = c.under.ensures parts (grind (arith, fault)) in
    let (more, first) = c.in-Err.ensures.first inner (ap Err was) in
    let after = map (λ path. 47 ∷ (escaped (string_bytes e.0) ++ path)) more ++ unwhole_members (members_view left) in
    let found = first_under (Key e.0) inner.items (unwhole (view e.1)) more (unwhole_members (members_view left)) first in (
      after,
      ap (λ es. unwhole_members (members_view es)) (all ∙ ap (λ es. done ++ es) next) ∙ past_members done (e ∷ left) none ∙ found ∙ ap (λ ps. pointer_under [] ps ∷ after) (sym longer),
    )
