-- Which kind of change has which number, and what is read of it.
use Rattle.std.proofs.Common.{◌≡◌, ℕ, List, Some, Ok, Err, refl, sym, ap, ◌∙◌, arith}
use Rattle.task_types.specs.declared.change.Claim.{Claim}
use Rattle.task_types.specs.declared.change.Creation.{Creation}
use Rattle.task_types.specs.declared.change.Kind.{Kind}
use Rattle.task_types.specs.declared.change.Kind.TheVariants as kinds
use Rattle.task_types.specs.declared.change.Reclaim.{Reclaim}
use Rattle.task_types.specs.declared.change.Resolution.{Resolution}
use Rattle.farm_record.specs.declared.unread.Unread.{Unread}
use Rattle.farm_record.specs.declared.unread.Unread.TheVariants.{NotARecord, NoMemory}
use Rattle.farm_record.specs.Records.{HasFields, IsDefinitionText}
use Rattle.farm_record.specs.Reading.{Fails, Refuses, Reads, all_of, id_at, reclaim_at, resolution_at, IsKind}
use Rattle.farm_record.proofs.FieldLemmas.{IsBytes, spells_id}
use Rattle.farm_record.proofs.PartLemmas.{spells_reclaim, spells_resolution, reads_all}

-- ---- the kind of a number

pub only_create : (f : List ℕ) (k : Kind) → IsKind 2 f k → (a : Creation) × (k ≡ kinds.Create a) × HasFields IsDefinitionText (kinds.Create a) f
only_create f kinds.Tick is = absurd (omega (arith, is.0))
only_create f (kinds.Create a) is = (a, refl, is.1)
only_create f (kinds.Schedule a) is = absurd (omega (arith, is.0))
only_create f (kinds.Rerun a) is = absurd (omega (arith, is.0))
only_create f (kinds.Cancel a) is = absurd (omega (arith, is.0))
only_create f (kinds.Claim a) is = absurd (omega (arith, is.0))
only_create f (kinds.Reclaim a) is = absurd (omega (arith, is.0))
only_create f (kinds.Resolve a) is = absurd (omega (arith, is.0))

pub only_schedule : (f : List ℕ) (k : Kind) → IsKind 3 f k → (a : List ℕ) × (k ≡ kinds.Schedule a) × HasFields IsDefinitionText (kinds.Schedule a) f
only_schedule f kinds.Tick is = absurd (omega (arith, is.0))
only_schedule f (kinds.Create a) is = absurd (omega (arith, is.0))
only_schedule f (kinds.Schedule a) is = (a, refl, is.1)
only_schedule f (kinds.Rerun a) is = absurd (omega (arith, is.0))
only_schedule f (kinds.Cancel a) is = absurd (omega (arith, is.0))
only_schedule f (kinds.Claim a) is = absurd (omega (arith, is.0))
only_schedule f (kinds.Reclaim a) is = absurd (omega (arith, is.0))
only_schedule f (kinds.Resolve a) is = absurd (omega (arith, is.0))

pub only_rerun : (f : List ℕ) (k : Kind) → IsKind 4 f k → (a : List ℕ) × (k ≡ kinds.Rerun a) × HasFields IsDefinitionText (kinds.Rerun a) f
only_rerun f kinds.Tick is = absurd (omega (arith, is.0))
only_rerun f (kinds.Create a) is = absurd (omega (arith, is.0))
only_rerun f (kinds.Schedule a) is = absurd (omega (arith, is.0))
only_rerun f (kinds.Rerun a) is = (a, refl, is.1)
only_rerun f (kinds.Cancel a) is = absurd (omega (arith, is.0))
only_rerun f (kinds.Claim a) is = absurd (omega (arith, is.0))
only_rerun f (kinds.Reclaim a) is = absurd (omega (arith, is.0))
only_rerun f (kinds.Resolve a) is = absurd (omega (arith, is.0))

pub only_cancel : (f : List ℕ) (k : Kind) → IsKind 5 f k → (a : List ℕ) × (k ≡ kinds.Cancel a) × HasFields IsDefinitionText (kinds.Cancel a) f
only_cancel f kinds.Tick is = absurd (omega (arith, is.0))
only_cancel f (kinds.Create a) is = absurd (omega (arith, is.0))
only_cancel f (kinds.Schedule a) is = absurd (omega (arith, is.0))
only_cancel f (kinds.Rerun a) is = absurd (omega (arith, is.0))
only_cancel f (kinds.Cancel a) is = (a, refl, is.1)
only_cancel f (kinds.Claim a) is = absurd (omega (arith, is.0))
only_cancel f (kinds.Reclaim a) is = absurd (omega (arith, is.0))
only_cancel f (kinds.Resolve a) is = absurd (omega (arith, is.0))

pub only_claim : (f : List ℕ) (k : Kind) → IsKind 6 f k → (a : Claim) × (k ≡ kinds.Claim a) × HasFields IsDefinitionText (kinds.Claim a) f
only_claim f kinds.Tick is = absurd (omega (arith, is.0))
only_claim f (kinds.Create a) is = absurd (omega (arith, is.0))
only_claim f (kinds.Schedule a) is = absurd (omega (arith, is.0))
only_claim f (kinds.Rerun a) is = absurd (omega (arith, is.0))
only_claim f (kinds.Cancel a) is = absurd (omega (arith, is.0))
only_claim f (kinds.Claim a) is = (a, refl, is.1)
only_claim f (kinds.Reclaim a) is = absurd (omega (arith, is.0))
only_claim f (kinds.Resolve a) is = absurd (omega (arith, is.0))

pub only_reclaim : (f : List ℕ) (k : Kind) → IsKind 7 f k → (a : Reclaim) × (k ≡ kinds.Reclaim a) × HasFields IsDefinitionText (kinds.Reclaim a) f
only_reclaim f kinds.Tick is = absurd (omega (arith, is.0))
only_reclaim f (kinds.Create a) is = absurd (omega (arith, is.0))
only_reclaim f (kinds.Schedule a) is = absurd (omega (arith, is.0))
only_reclaim f (kinds.Rerun a) is = absurd (omega (arith, is.0))
only_reclaim f (kinds.Cancel a) is = absurd (omega (arith, is.0))
only_reclaim f (kinds.Claim a) is = absurd (omega (arith, is.0))
only_reclaim f (kinds.Reclaim a) is = (a, refl, is.1)
only_reclaim f (kinds.Resolve a) is = absurd (omega (arith, is.0))

pub only_resolve : (f : List ℕ) (k : Kind) → IsKind 8 f k → (a : Resolution) × (k ≡ kinds.Resolve a) × HasFields IsDefinitionText (kinds.Resolve a) f
only_resolve f kinds.Tick is = absurd (omega (arith, is.0))
only_resolve f (kinds.Create a) is = absurd (omega (arith, is.0))
only_resolve f (kinds.Schedule a) is = absurd (omega (arith, is.0))
only_resolve f (kinds.Rerun a) is = absurd (omega (arith, is.0))
only_resolve f (kinds.Cancel a) is = absurd (omega (arith, is.0))
only_resolve f (kinds.Claim a) is = absurd (omega (arith, is.0))
only_resolve f (kinds.Reclaim a) is = absurd (omega (arith, is.0))
only_resolve f (kinds.Resolve a) is = (a, refl, is.1)

-- ---- a kind is read where what it is made of is

module _ {A : Type 0} (make : A → Kind) (number : ℕ) (f : List ℕ) (Is : A → Type 0) (there : (a : A) → Is a → IsKind number f (make a)) (back : (k : Kind) → IsKind number f k → (a : A) × (k ≡ make a) × Is a) where
  pub makes : (a : A) → Reads Is (Ok a) → Reads (IsKind number f) (Ok (make a))
  makes a read = (there a read.0, λ k is. let (b, same, here) = back k is in ap make (read.1 b here) ∙ sym same)

  pub refuses : (u : Unread) → Refuses Is u → Refuses (IsKind number f) u
  refuses NoMemory none = _
  refuses NotARecord none = λ k is. let (b, same, here) = back k is in none b here

module _ (f : List ℕ) (fits : IsBytes f) where
  pub schedule_read : (a : List ℕ) → all_of (id_at f) ≡ Some a → Reads (IsKind 3 f) (Ok (kinds.Schedule a))
  schedule_read a given = makes kinds.Schedule 3 f _ (λ a is. (refl, is)) (only_schedule f) a (reads_all _ _ id_at spells_id f fits (Ok a) given)

  pub schedule_refused : (u : Unread) → Fails u (all_of (id_at f)) → Refuses (IsKind 3 f) u
  schedule_refused u given = refuses kinds.Schedule 3 f _ (λ a is. (refl, is)) (only_schedule f) u (reads_all _ _ id_at spells_id f fits (Err u) given)

  pub rerun_read : (a : List ℕ) → all_of (id_at f) ≡ Some a → Reads (IsKind 4 f) (Ok (kinds.Rerun a))
  rerun_read a given = makes kinds.Rerun 4 f _ (λ a is. (refl, is)) (only_rerun f) a (reads_all _ _ id_at spells_id f fits (Ok a) given)

  pub rerun_refused : (u : Unread) → Fails u (all_of (id_at f)) → Refuses (IsKind 4 f) u
  rerun_refused u given = refuses kinds.Rerun 4 f _ (λ a is. (refl, is)) (only_rerun f) u (reads_all _ _ id_at spells_id f fits (Err u) given)

  pub cancel_read : (a : List ℕ) → all_of (id_at f) ≡ Some a → Reads (IsKind 5 f) (Ok (kinds.Cancel a))
  cancel_read a given = makes kinds.Cancel 5 f _ (λ a is. (refl, is)) (only_cancel f) a (reads_all _ _ id_at spells_id f fits (Ok a) given)

  pub cancel_refused : (u : Unread) → Fails u (all_of (id_at f)) → Refuses (IsKind 5 f) u
  cancel_refused u given = refuses kinds.Cancel 5 f _ (λ a is. (refl, is)) (only_cancel f) u (reads_all _ _ id_at spells_id f fits (Err u) given)

  pub reclaim_read : (a : Reclaim) → all_of (reclaim_at f) ≡ Some a → Reads (IsKind 7 f) (Ok (kinds.Reclaim a))
  reclaim_read a given = makes kinds.Reclaim 7 f _ (λ a is. (refl, is)) (only_reclaim f) a (reads_all _ _ reclaim_at spells_reclaim f fits (Ok a) given)

  pub reclaim_refused : (u : Unread) → Fails u (all_of (reclaim_at f)) → Refuses (IsKind 7 f) u
  reclaim_refused u given = refuses kinds.Reclaim 7 f _ (λ a is. (refl, is)) (only_reclaim f) u (reads_all _ _ reclaim_at spells_reclaim f fits (Err u) given)

  pub resolve_read : (a : Resolution) → all_of (resolution_at f) ≡ Some a → Reads (IsKind 8 f) (Ok (kinds.Resolve a))
  resolve_read a given = makes kinds.Resolve 8 f _ (λ a is. (refl, is)) (only_resolve f) a (reads_all _ _ resolution_at spells_resolution f fits (Ok a) given)

  pub resolve_refused : (u : Unread) → Fails u (all_of (resolution_at f)) → Refuses (IsKind 8 f) u
  resolve_refused u given = refuses kinds.Resolve 8 f _ (λ a is. (refl, is)) (only_resolve f) u (reads_all _ _ resolution_at spells_resolution f fits (Err u) given)
