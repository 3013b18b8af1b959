-- Room that is made for rows that fall due.
use Rattle.std.proofs.Common.{◌≡◌, ℕ, ◌+◌, ◌<◌, ◌≤◌, ◌^◌, max, List, length, Option, sym, ap, ◌∙◌, subst, arith}
use Rattle.claim_queue.specs.declared.turns.Turn.{Turn}
use Rattle.claim_queue.specs.Held.{held, up_to}
use Rattle.claim_queue.specs.Dues.{Dues, roomier}
use Rattle.claim_queue.specs.Heaps.{IsWider}
use Rattle.claim_queue.specs.DueHeaps.{AreDue, HaveRoom}
use Rattle.claim_queue.proofs.WiderLemmas.{due-wider, due-roomier}

-- all stays, with more memory, and there may be more places
pub due-stays : (rows after : List (Option ℕ)) (heap later : List Turn) (places wider : List ℕ) → AreDue rows heap places → after ≡ rows → later ≡ heap → IsWider places wider → AreDue after later wider
due-stays rows after heap later places wider due is same w =
    subst (λ (h : List Turn). AreDue after h wider) (sym same) (subst (λ (r : List (Option ℕ)). AreDue r heap wider) (sym is) (due-roomier rows heap places wider due w))

pub have-stays : (rows after : List (Option ℕ)) (heap later : List Turn) (room old new : ℕ) → HaveRoom rows heap room old → length after < 2 ^ 32 → later ≡ heap → old ≤ new → HaveRoom after later room new
have-stays rows after heap later room old new have small same more = record {
  small = small;
  within = let w = have.within in omega (arith, ap length same);
  taken = let t = have.taken in omega arith;
}

-- there is room for so many more, and for all rows below a number
pub due-made : (rows grown : List (Option ℕ)) (heap later : List Turn) (places wider : List ℕ) (below : ℕ) → AreDue rows heap places → later ≡ heap → IsWider places wider → below ≤ length wider → grown ≡ up_to below rows → AreDue grown later wider
due-made rows grown heap later places wider below due same w le is =
    subst (λ (h : List Turn). AreDue grown h wider) (sym same) (subst (λ (r : List (Option ℕ)). AreDue r heap wider) (sym is) (due-wider rows heap places wider below due w le))

pub have-made : (rows grown : List (Option ℕ)) (heap later : List Turn) (room made old new : ℕ) → HaveRoom rows heap room old → later ≡ heap → old ≤ new → length grown < 2 ^ 32 → length heap ≤ made → made ≤ new → HaveRoom grown later (max room made) new
have-made rows grown heap later room made old new have same more small fits enough = record {
  small = small;
  within = omega (arith, ap length same);
  taken = let t = have.taken in omega arith;
}

pub made-shown : (rows grown : List (Option ℕ)) (room count more below : ℕ) (dues : Dues) → room ≡ dues.room → rows ≡ dues.rows → count ≡ held rows → grown ≡ up_to below rows
    → (let seen : Dues = record { room = max room (count + more); rows = grown } in seen) ≡ roomier more below dues
made-shown rows grown room count more below dues room_is rows_is count_is grown_is =
    ap (λ (r : List (Option ℕ)). let seen : Dues = record { room = max room (count + more); rows = r } in seen) (grown_is ∙ ap (up_to below) rows_is)
    ∙ (ap (λ n. let seen : Dues = record { room = max n (count + more); rows = up_to below dues.rows } in seen) room_is
    ∙ ap (λ n. let seen : Dues = record { room = max dues.room (n + more); rows = up_to below dues.rows } in seen) (count_is ∙ ap held rows_is))
