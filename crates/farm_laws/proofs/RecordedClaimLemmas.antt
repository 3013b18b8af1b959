-- Each run is claimed at most once, counted with the records that a farm was opened from.
use Rattle.std.proofs.Common.{◌≡◌, ℕ, suc, ◌+◌, ◌≤◌, Bool, true, false, not, ◌&&◌, ◌==◌, List, [], ◌∷◌, length, Option, Some, None, bytes_eq, nat_le, sum_by, count_by, refl, ap, ◌∙◌, subst, arith}
use Rattle.std.specs.Option.{option_map_or}
use Rattle.std.proofs.lemmas.Bool.{and_parts, eqb-true}
use Rattle.std.proofs.lemmas.List.Sums.{sum_by-cons}
use Rattle.std.proofs.lemmas.Slice.Eq.{bytes_eq-Decides}
use Rattle.history.specs.Histories.{IsLegal}
use Rattle.task_types.specs.declared.names.TaskQueue.{TaskQueue}
use Rattle.task_types.specs.declared.change.Change.{Change}
use Rattle.task_types.specs.declared.change.Claim.{Claim as TakenRuns}
use Rattle.task_types.specs.declared.change.Kind.{Kind}
use Rattle.task_types.specs.declared.change.Kind.TheVariants.{Tick, Create, Schedule, Rerun, Cancel, Claim as TakesRuns, Reclaim, Resolve}
use Rattle.task_types.specs.declared.change.RunName.{RunName}
use Rattle.farm_text.specs.declared.moment.TheConstants.{LAST_TOLD_MOMENT}
use Rattle.run_states.specs.Rows.{Row}
use Rattle.task_index.specs.Changes.{are_first, may_keep, may_be, may_apply, claim_of, all_claimed}
use Rattle.task_index.specs.Contents.{Contents, no_contents, row_with, HaveOwnIds}
use Rattle.task_index.specs.Due.{is_due, advance}
use Rattle.task_index.specs.Picks.{without, last_name, pick, picks, names_last, are_picks}
use Rattle.task_index.proofs.AdvanceLemmas.{advance-stays}
use Rattle.farm_machine.specs.Entry.{Entry}
use Rattle.farm_machine.specs.Replay.{may_come, left_by, after_replay, replayed, Restores}
use Rattle.farm_machine.specs.RunLaws.{is_same_run, claims_by_kind, claims_in, claims_among}
use Rattle.farm_machine.specs.State.{State}
use Rattle.farm_machine.specs.Step.{farm_rules}
use Rattle.farm_asks.specs.Works.{at_moment}
use Rattle.farm_laws.proofs.ClaimLawLemmas.{one_if, has_claim, claim-stays, picks-taken, each-stands, Claims, claims-some, at-most, taken-more, claimed-few}
use Rattle.farm_laws.proofs.SoundLemmas.{left-holds, replayed-first, replay-holds, own-stays, no-ids}

-- ---- runs that may be claimed are the picks of a queue

pub same-name : (one other : RunName) → one.id ≡ other.id → one.run ≡ other.run → one ≡ other
same-name one other ids runs = rw (ids, runs) refl

named-last : (name : RunName) (row : Row) → names_last name row ≡ true → last_name row ≡ name
named-last name row is =
    let parts = and_parts (bytes_eq row.id name.id) (length row.runs == name.run + 1) is in
    let ids : row.id ≡ name.id = (bytes_eq-Decides row.id name.id).0 parts.0 in
    let many : length row.runs ≡ name.run + 1 = eqb-true (length row.runs) (name.run + 1) parts.1 in
    same-name (last_name row) name ids (omega (arith, many))

are-the-picks : (queue : TaskQueue) (names : List RunName) (rows : List Row) → are_picks queue names rows ≡ true → picks (length names) queue rows ≡ names
are-the-picks queue [] rows are = refl
are-the-picks queue (name ∷ names) rows are = by (are-the-picks queue names (without name.id rows) parts.1) (pick queue rows) refl where
  parts : (option_map_or (names_last name) (pick queue rows) false ≡ true) × (are_picks queue names (without name.id rows) ≡ true)
  parts = and_parts (option_map_or (names_last name) (pick queue rows) false) (are_picks queue names (without name.id rows)) are

  by : picks (length names) queue (without name.id rows) ≡ names → (o : Option Row) → pick queue rows ≡ o → picks (suc (length names)) queue rows ≡ name ∷ names
  by others None is = let none : false ≡ true = rw is at parts.0 in cc
  by others (Some row) is =
      let last : last_name row ≡ name = named-last name row (rw is at parts.0) in
      let ids : row.id ≡ name.id = ap (λ (n : RunName). n.id) last in
      let rest : picks (length names) queue (without row.id rows) ≡ names = ap (λ (i : List ℕ). picks (length names) queue (without i rows)) ids ∙ others in
      rw (is, last, rest) refl

-- the queue whose picks they are
first-queue : (names : List RunName) (rows : List Row) → are_first names rows ≡ true → (queue : TaskQueue) × (are_picks queue names rows ≡ true)
first-queue [] rows are = cc
first-queue (name ∷ names) rows are = by (row_with name.id rows) refl are where
  by : (o : Option Row) → row_with name.id rows ≡ o → option_map_or (λ (row : Row). are_picks row.definition.queue (name ∷ names) rows) o false ≡ true → (queue : TaskQueue) × (are_picks queue (name ∷ names) rows ≡ true)
  by None is so = cc
  by (Some row) is so = (row.definition.queue, so)

claims-picks : (name : RunName) (contents : Contents) (at : ℕ) (claim : TakenRuns) (queue : TaskQueue) → HaveOwnIds contents.rows → are_picks queue claim.runs contents.rows ≡ true → Claims name contents at (Some (at_moment at (TakesRuns claim)))
claims-picks name contents at claim queue own are =
    let taken = picks-taken (length claim.runs) queue contents.rows contents.rows (claim_of at claim) name (each-stands contents.rows own) in
    let here : count_by (is_same_run name) claim.runs + one_if (has_claim name contents.rows) ≤ one_if (has_claim name (all_claimed (claim_of at claim) claim.runs contents.rows)) =
    subst (λ (ns : List RunName). count_by (is_same_run name) ns + one_if (has_claim name contents.rows) ≤ one_if (has_claim name (all_claimed (claim_of at claim) ns contents.rows))) (are-the-picks queue claim.runs contents.rows are) taken in
    at-most _ _ _ _ here (taken-more name contents at claim)

-- ---- one record

may-claim : (contents : Contents) (at : ℕ) (claim : TakenRuns) → may_apply contents (at_moment at (TakesRuns claim)) ≡ true → are_first claim.runs contents.rows ≡ true
may-claim contents at claim may =
    let be : Bool = may_be contents at (TakesRuns claim) in
    let later = (and_parts (nat_le contents.last at) (nat_le at LAST_TOLD_MOMENT && (not (is_due contents at) && be)) may).1 in
    let told = (and_parts (nat_le at LAST_TOLD_MOMENT) (not (is_due contents at) && be) later).1 in
    let idle = (and_parts (not (is_due contents at)) be told).1 in
    let first = (and_parts (may_keep at claim.taken_until) (nat_le (length claim.runs) 32 && are_first claim.runs contents.rows) idle).1 in
    (and_parts (nat_le (length claim.runs) 32) (are_first claim.runs contents.rows) first).1

-- what a record claims had no claim, and has one behind it
left-claims : (name : RunName) (contents : Contents) (at : ℕ) (kind : Kind) → HaveOwnIds contents.rows → may_come contents at kind ≡ true
    → claims_by_kind name kind + one_if (has_claim name contents.rows) ≤ one_if (has_claim name (left_by contents at kind).rows)
left-claims name contents at Tick own may =
    let more : one_if (has_claim name contents.rows) ≤ one_if (has_claim name (advance contents at).rows) = claim-stays name contents.rows (advance contents at).rows (advance-stays contents at) in
    omega arith
left-claims name contents at (Create creation) own may = claims-some name contents at (at_moment at (Create creation)) refl
left-claims name contents at (Schedule id) own may = claims-some name contents at (at_moment at (Schedule id)) refl
left-claims name contents at (Rerun id) own may = claims-some name contents at (at_moment at (Rerun id)) refl
left-claims name contents at (Cancel id) own may = claims-some name contents at (at_moment at (Cancel id)) refl
left-claims name contents at (TakesRuns claim) own may =
    let found = first-queue claim.runs contents.rows (may-claim contents at claim may) in
    claims-picks name contents at claim found.0 own found.1
left-claims name contents at (Reclaim r) own may = claims-some name contents at (at_moment at (Reclaim r)) refl
left-claims name contents at (Resolve r) own may = claims-some name contents at (at_moment at (Resolve r)) refl

-- ---- all records

replay-claims : (name : RunName) (contents last : Contents) (changes : List Change) → HaveOwnIds contents.rows → replayed contents changes ≡ Some last
    → claims_among name changes + one_if (has_claim name contents.rows) ≤ one_if (has_claim name last.rows)
replay-claims name contents last [] own is =
    let same : contents ≡ last = cc in
    subst (λ (c : Contents). 0 + one_if (has_claim name contents.rows) ≤ one_if (has_claim name c.rows)) same (omega arith)
replay-claims name contents last (change ∷ changes) own is =
    let parts = replayed-first contents last change changes is in
    let next = after_replay contents change in
    let here : claims_by_kind name change.kind + one_if (has_claim name contents.rows) ≤ one_if (has_claim name next.rows) = left-claims name contents change.at change.kind own parts.0 in
    let own_next : HaveOwnIds next.rows = left-holds (λ c. HaveOwnIds c.rows) own-stays contents change.at change.kind parts.0 own in
    let others : claims_among name changes + one_if (has_claim name next.rows) ≤ one_if (has_claim name last.rows) = replay-claims name next last changes own_next parts.1 in
    let sum : claims_among name (change ∷ changes) ≡ claims_by_kind name change.kind + claims_among name changes = sum_by-cons (λ (c : Change). claims_by_kind name c.kind) change changes in
    omega arith

pub recorded-once : (opening : State) (records : List Change) (history : List Entry) (name : RunName) → Restores records opening.contents → IsLegal farm_rules opening history
    → claims_among name records + sum_by (claims_in name) history ≤ 1
recorded-once opening records history name r legal =
    let own : HaveOwnIds opening.contents.rows = subst (λ (rows : List Row). HaveOwnIds rows) r.rows (replay-holds (λ c. HaveOwnIds c.rows) own-stays no_contents r.reached records r.replays no-ids) in
    let first : claims_among name records + one_if (has_claim name no_contents.rows) ≤ one_if (has_claim name r.reached.rows) = replay-claims name no_contents r.reached records no-ids r.replays in
    let same : one_if (has_claim name r.reached.rows) ≡ one_if (has_claim name opening.contents.rows) = ap (λ (rows : List Row). one_if (has_claim name rows)) r.rows in
    let few : sum_by (claims_in name) history + one_if (has_claim name opening.contents.rows) ≤ 1 = claimed-few name opening history own legal in
    omega arith
