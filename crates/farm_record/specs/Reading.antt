-- Reading the fields of a record from left to right, for private clauses: each function answers a value and the bytes behind it, or nothing.
use Rattle.std.specs.Prelude.{◌≡◌, ◌==◌, ◌&&◌, ℕ, zero, suc, List, [], ◌∷◌, length, take, drop, Option, Some, None, Result, Ok, Err, nat_lt, nat_le, if◌then◌else◌}
use Rattle.std.specs.Int.{Width, w32, w64, byte_len, from_be_bytes}
use Rattle.farm_text.specs.Slug.{is_uuid4}
use Rattle.task_types.specs.declared.change.Kind.{Kind}
use Rattle.task_types.specs.declared.change.Reclaim.{Reclaim}
use Rattle.task_types.specs.declared.change.Report.{Report}
use Rattle.task_types.specs.declared.change.Report.TheVariants as reports
use Rattle.task_types.specs.declared.change.Resolution.{Resolution}
use Rattle.task_types.specs.declared.change.RunName.{RunName}
use Rattle.farm_record.specs.declared.unread.Unread.{Unread}
use Rattle.farm_record.specs.declared.unread.Unread.TheVariants.{NotARecord, NoMemory}
use Rattle.farm_record.specs.Records.{kind_number, HasFields, IsDefinitionText}

infixl 10 ◌>>=◌
abbrev pub ◌>>=◌ : {A B : Type 0} → Option A → (A → Option B) → Option B
(Some x) >>= f = f x
None >>= f = None

-- what a call returned, seen by `view`, is what reading gives, unless memory ran out
abbrev pub Fails : {Y : Type 0} → Unread → Option Y → Type 0
Fails NoMemory read = Unit {0}
Fails NotARecord read = read ≡ None

abbrev pub Gives : {X Y : Type 0} → (X → Y) → Result X Unread → Option Y → Type 0
Gives view (Ok x) read = read ≡ Some (view x)
Gives view (Err e) read = Fails e read

-- a call read the one value whose text the bytes are, and refused them only where they are no value's text
abbrev pub Refuses : {A : Type 0} → (A → Type 0) → Unread → Type 0
Refuses Is NoMemory = Unit {0}
Refuses Is NotARecord = (a : _) → ¬ Is a

abbrev pub Reads : {A : Type 0} → (A → Type 0) → Result A Unread → Type 0
Reads Is (Ok a) = Is a × ((b : _) → Is b → a ≡ b)
Reads Is (Err e) = Refuses Is e

-- one value behind another
abbrev pub pair_at : {A B : Type 0} → (List ℕ → Option (A × List ℕ)) → (List ℕ → Option (B × List ℕ)) → List ℕ → Option ((A × B) × List ℕ)
pair_at f g bytes = f bytes >>= λ a. g a.1 >>= λ b. Some ((a.0, b.0), b.1)

-- a value made of another
abbrev pub map_at : {A B : Type 0} → (A → B) → (List ℕ → Option (A × List ℕ)) → List ℕ → Option (B × List ℕ)
map_at make f bytes = f bytes >>= λ a. Some (make a.0, a.1)

-- all of the bytes
abbrev pub all_of : {A : Type 0} → Option (A × List ℕ) → Option A
all_of read = read >>= λ a. if length a.1 == 0 then Some a.0 else None

unfoldable pub byte_at : List ℕ → Option (ℕ × List ℕ)
byte_at [] = None
byte_at (b ∷ rest) = Some (b, rest)

unfoldable pub number_at : Width → List ℕ → Option (ℕ × List ℕ)
number_at w bytes = if nat_lt (length bytes) (byte_len w) then None else Some (from_be_bytes w (take (byte_len w) bytes), drop (byte_len w) bytes)

-- a number as a moment
unfoldable pub moment_in : ℕ → Option ℕ
moment_in n = if nat_le n 253402300799999 then Some n else None

unfoldable pub moment_at : List ℕ → Option (ℕ × List ℕ)
moment_at bytes = number_at w64 bytes >>= λ n. moment_in n.0 >>= λ m. Some (m, n.1)

-- so many bytes
unfoldable pub front_at : ℕ → List ℕ → Option (List ℕ × List ℕ)
front_at n bytes = if nat_lt (length bytes) n then None else Some (take n bytes, drop n bytes)

-- sixteen bytes as an id
unfoldable pub id_in : List ℕ → Option (List ℕ)
id_in uuid = if is_uuid4 uuid then Some uuid else None

unfoldable pub id_at : List ℕ → Option (List ℕ × List ℕ)
id_at bytes = front_at 16 bytes >>= λ front. id_in front.0 >>= λ id. Some (id, front.1)

unfoldable pub sized_at : List ℕ → Option (List ℕ × List ℕ)
sized_at bytes = number_at w32 bytes >>= λ n. if nat_lt (length n.1) n.0 then None else Some (take n.0 n.1, drop n.0 n.1)

unfoldable pub run_at : List ℕ → Option (RunName × List ℕ)
run_at = map_at (λ p. record { id = p.0; run = p.1 }) (pair_at id_at byte_at)

unfoldable pub names_at : ℕ → List ℕ → Option (List RunName × List ℕ)
names_at zero bytes = Some ([], bytes)
names_at (suc n) bytes = run_at bytes >>= λ first. names_at n first.1 >>= λ others. Some (first.0 ∷ others.0, others.1)

-- 1 to 32 runs behind their number
unfoldable pub runs_at : List ℕ → Option (List RunName × List ℕ)
runs_at bytes = number_at w32 bytes >>= λ n. if nat_le 1 n.0 && nat_le n.0 32 then names_at n.0 n.1 else None

-- a claim whose group and worker are any texts
unfoldable pub claim_at : List ℕ → Option ((ℕ × (List ℕ × (List ℕ × List RunName))) × List ℕ)
claim_at = pair_at moment_at (pair_at sized_at (pair_at sized_at runs_at))

unfoldable pub reclaim_at : List ℕ → Option (Reclaim × List ℕ)
reclaim_at = map_at (λ p. record { id = p.0; run = p.1.0; taken_until = p.1.1 }) (pair_at id_at (pair_at byte_at moment_at))

-- the report of a number
unfoldable pub report_in : ℕ → Option Report
report_in n =
    if n == 1 then Some reports.Completed
    else (if n == 2 then Some reports.Failed
    else (if n == 3 then Some reports.Superseded
    else (if n == 4 then Some reports.WorkerShutdown
    else (if n == 5 then Some reports.MalformedPayload
    else (if n == 6 then Some reports.ResourceUnavailable
    else (if n == 7 then Some reports.InternalError
    else (if n == 8 then Some reports.IntermittentTask
    else None)))))))

unfoldable pub report_at : List ℕ → Option (Report × List ℕ)
report_at bytes = byte_at bytes >>= λ b. report_in b.0 >>= λ r. Some (r, b.1)

unfoldable pub resolution_at : List ℕ → Option (Resolution × List ℕ)
resolution_at = map_at (λ p. record { id = p.0; run = p.1.0; reason = p.1.1 }) (pair_at id_at (pair_at byte_at report_at))

-- an id and a text
unfoldable pub creation_at : List ℕ → Option ((List ℕ × List ℕ) × List ℕ)
creation_at = pair_at id_at sized_at

-- the change has this number and these fields
abbrev pub IsKind : ℕ → List ℕ → Kind → Type 0
IsKind number fields kind = (number ≡ kind_number kind) × HasFields IsDefinitionText kind fields
