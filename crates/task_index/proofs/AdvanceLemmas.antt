-- The laws of advances.
use Rattle.std.proofs.Common.{◌≡◌, ℕ, ◌≤◌, max, false, map, Some, refl, ap, sym, ◌∙◌, arith}
use Rattle.run_states.specs.Later.{RowsLater}
use Rattle.task_index.specs.Contents.{Contents, HaveOwnIds}
use Rattle.task_index.specs.Ready.{has_ready, settled}
use Rattle.task_index.specs.Due.{is_due, first_due, resolved_at, advance}
use Rattle.task_index.specs.Sweep.{all_turns}
use Rattle.task_index.proofs.TurnLemmas.{with_last, idle-first, first-idle, all-step, all-idle, all-end, all-together, all-last, stepped-keeps, all-stay, all-ids, all-none}

-- an advance is all turns, and then the moment
pub advance-is : (contents : Contents) (moment : ℕ) → advance contents moment ≡ with_last (max contents.last moment) (all_turns contents moment)
unfolding advance all_turns
advance-is contents moment = refl

pub advance-none : (contents : Contents) (moment : ℕ) → is_due (advance contents moment) moment ≡ false
advance-none contents moment = ap (λ (c : Contents). is_due c moment) (advance-is contents moment) ∙ first-idle (all_turns contents moment) moment (all-end contents moment)

pub advance-idle : (contents : Contents) (moment : ℕ) → is_due contents moment ≡ false → advance contents moment ≡ record contents { last = max contents.last moment }
advance-idle contents moment none = advance-is contents moment ∙ ap (with_last (max contents.last moment)) (all-idle contents moment (idle-first contents moment none))

pub advance-turn : (contents : Contents) (moment at : ℕ) → first_due contents moment ≡ Some at → advance contents moment ≡ advance (settled (resolved_at contents at) at) moment
advance-turn contents moment at is =
    advance-is contents moment
    ∙ (ap (with_last (max contents.last moment)) (all-step contents moment at is)
    ∙ (ap (λ last. with_last (max last moment) (all_turns (settled (resolved_at contents at) at) moment)) (sym (stepped-keeps contents at))
    ∙ sym (advance-is (settled (resolved_at contents at) at) moment)))

pub advance-together : (contents : Contents) (early late : ℕ) → early ≤ late → advance (advance contents early) late ≡ advance contents late
advance-together contents early late le =
    let reached : ℕ = max contents.last early in
    let last : max reached late ≡ max contents.last late = omega arith in
    ap (λ (c : Contents). advance c late) (advance-is contents early)
    ∙ (advance-is (with_last reached (all_turns contents early)) late
    ∙ (ap (with_last (max reached late)) (all-last (all_turns contents early) late reached)
    ∙ (ap (with_last (max reached late)) (all-together contents early late le)
    ∙ (ap (λ l. with_last l (all_turns contents late)) last ∙ sym (advance-is contents late)))))

pub advance-stays : (contents : Contents) (moment : ℕ) → RowsLater contents.rows (advance contents moment).rows
advance-stays contents moment = rw (advance-is contents moment) (all-stay contents moment)

pub advance-ids : (contents : Contents) (moment : ℕ) → HaveOwnIds contents.rows → HaveOwnIds (advance contents moment).rows
advance-ids contents moment own =
    let same : map (λ row. row.id) (advance contents moment).rows ≡ map (λ row. row.id) contents.rows =
    ap (λ (c : Contents). map (λ row. row.id) c.rows) (advance-is contents moment) ∙ all-ids contents moment in
    rw same own

-- where none was ready, none is
pub advance-ready : (contents : Contents) (moment : ℕ) → has_ready contents ≡ false → has_ready (advance contents moment) ≡ false
advance-ready contents moment none = ap has_ready (advance-is contents moment) ∙ all-none contents moment none
