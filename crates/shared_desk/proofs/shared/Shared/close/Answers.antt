-- A caller that has all asks and calls has seen the whole history.
use Rattle.std.proofs.Common.{◌≡◌, ◌+◌, ℕ, List, length, subst, sym, ap, ◌∙◌, Some, option_map}
use Rattle.std.specs.List.Sorted.{IsPermutation}
use Rattle.std.specs.Slots.{slots_items}
use Rattle.history.specs.Asks.{LeadsAlone}
use Rattle.shared_desk.specs.Standing.{Beginning, Standing}
use Rattle.shared_desk.specs.Rule.{Bears}
use Rattle.shared_desk.proofs.Closing.{closes}
use Rattle.shared_desk.proofs.shared.Shared.close.Goals as goal

pub returns-clause-ends : goal.returns-clause-ends
returns-clause-ends g c =
    let r = g.O.Law.Machine.rules in
    let state = g.O.Object.state in
    let result = c.take-object.result in
    let last = c.close_with-closed.ensures.values.2 in
    let seat = c.token.inside.seat in
    let asks = subst (λ (z : Standing g.row.O-Law-State.Denot g.row.O-Law-Entry.Denot). z.left + length z.mine ≡ 9223372036854775808) (sym c.token.view_is) c.requires.all in
    let told = closes r g.O.Law.Machine.start state g.O.Object.holds c.self.inside.table.shared.key.value last.0 last.1.0 seat.id seat.me.0 (slots_items c.close_with-closed.result.slots) result last.1.1 c.token.invariant.0.1 asks last.4 c.take-object.ensures.value in
    subst (λ (z : Beginning g.row.O.Denot × Standing g.row.O-Law-State.Denot g.row.O-Law-Entry.Denot). (calls : List ℕ) × IsPermutation z.1.mine calls × LeadsAlone r (state z.0.first) z.1.seen calls (state result)) (λ i. (c.self.view_is i, c.token.view_is i)) told.1

pub returns-clause-holds : goal.returns-clause-holds
returns-clause-holds g c =
    let r = g.O.Law.Machine.rules in
    let state = g.O.Object.state in
    let start = g.O.Law.Machine.start in
    let holds = g.O.Object.holds in
    let result = c.take-object.result in
    let last = c.close_with-closed.ensures.values.2 in
    let seat = c.token.inside.seat in
    let asks = subst (λ (z : Standing g.row.O-Law-State.Denot g.row.O-Law-Entry.Denot). z.left + length z.mine ≡ 9223372036854775808) (sym c.token.view_is) c.requires.all in
    let told = closes r start state holds c.self.inside.table.shared.key.value last.0 last.1.0 seat.id seat.me.0 (slots_items c.close_with-closed.result.slots) result last.1.1 c.token.invariant.0.1 asks last.4 c.take-object.ensures.value in
    (subst (λ (z : Beginning g.row.O.Denot × Standing g.row.O-Law-State.Denot g.row.O-Law-Entry.Denot). Bears r start state holds z.0.first z.1.seen result) (λ i. (c.self.view_is i, c.token.view_is i)) told.2).1

pub returns-clause-began : goal.returns-clause-began
returns-clause-began g c =
    let r = g.O.Law.Machine.rules in
    let state = g.O.Object.state in
    let start = g.O.Law.Machine.start in
    let result = c.take-object.result in
    let last = c.close_with-closed.ensures.values.2 in
    let seat = c.token.inside.seat in
    let asks = subst (λ (z : Standing g.row.O-Law-State.Denot g.row.O-Law-Entry.Denot). z.left + length z.mine ≡ 9223372036854775808) (sym c.token.view_is) c.requires.all in
    let first = c.token.invariant.0.2 in
    let told = closes r start state g.O.Object.holds c.self.inside.table.shared.key.value last.0 last.1.0 seat.id seat.me.0 (slots_items c.close_with-closed.result.slots) result last.1.1 c.token.invariant.0.1 asks last.4 c.take-object.ensures.value in
    subst (λ (z : Beginning g.row.O.Denot × Standing g.row.O-Law-State.Denot g.row.O-Law-Entry.Denot). z.1.opening ≡ Some (state z.0.first)) (λ i. (c.self.view_is i, c.token.view_is i))
    (ap (option_map state) first.1 ∙ ap (λ (o : g.row.O.Denot). Some (state o)) (told.0 first.0 first.1))
