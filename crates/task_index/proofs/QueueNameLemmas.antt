-- The name of a queue has one slash, so one name is one queue.
use Rattle.std.proofs.Common.{◌≡◌, ℕ, suc, ◌+◌, ◌==◌, Bool, true, false, ◌&&◌, cond, List, [], ◌∷◌, ◌++◌, length, filter, refl, sym, ap, ◌∙◌, bytes_eq, arith}
use Rattle.std.specs.List.{AllByRecursion}
use Rattle.std.proofs.lemmas.Bool.Decides.{nat_tests}
use Rattle.std.proofs.lemmas.List.Elements.{recursion_from_All, filter-append}
use Rattle.std.proofs.lemmas.Slice.Eq.{bytes_eq-Decides}
use Rattle.std.proofs.Math.ListN.{length-append}
use Rattle.task_types.specs.declared.names.TaskQueue.{TaskQueue}
use Rattle.task_types.specs.Forms.{IsIdentifierByte, IsIdentifier, queue_name}
use Rattle.task_index.specs.Picks.{is_same_queue}
use Rattle.task_index.specs.Queues.{name_of, HasOneSlash}

-- how many slashes a text has
abbrev slashes : List ℕ → ℕ
slashes text = length (filter (λ byte. byte == 47) text)

-- ---- identifiers have no slash

not-slash : (byte : ℕ) → IsIdentifierByte byte → (byte == 47) ≡ false
not-slash byte is = grind (arith, nat_tests)

none-in : (text : List ℕ) → AllByRecursion IsIdentifierByte text → slashes text ≡ 0
none-in [] all = refl
none-in (byte ∷ text) all = ap (λ t. length (cond t (byte ∷ filter (λ b. b == 47) text) (filter (λ b. b == 47) text))) (not-slash byte all.0) ∙ none-in text all.1

no-slash : (text : List ℕ) → IsIdentifier text → slashes text ≡ 0
no-slash text is = none-in text (recursion_from_All IsIdentifierByte text is.bytes)

pub one-slash : (provisioner worker : List ℕ) → IsIdentifier provisioner → IsIdentifier worker → HasOneSlash (queue_name provisioner worker)
one-slash provisioner worker first second =
    let parts : slashes (queue_name provisioner worker) ≡ slashes provisioner + slashes (47 ∷ worker) =
    ap length (filter-append (λ b. b == 47) provisioner (47 ∷ worker)) ∙ length-append (filter (λ b. b == 47) provisioner) (filter (λ b. b == 47) (47 ∷ worker)) in
    let none : slashes provisioner ≡ 0 = no-slash provisioner first in
    let more : slashes worker ≡ 0 = no-slash worker second in
    let here : slashes (47 ∷ worker) ≡ suc (slashes worker) = refl in
    omega arith

-- ---- so it has two parts in one way alone

-- behind something a slash counts
some-in : (front back : List ℕ) → slashes (front ++ 47 ∷ back) ≡ slashes front + suc (slashes back)
some-in front back = ap length (filter-append (λ b. b == 47) front (47 ∷ back)) ∙ length-append (filter (λ b. b == 47) front) (filter (λ b. b == 47) (47 ∷ back))

-- the slashes of a text that begins with a byte
begins : (byte : ℕ) (text : List ℕ) (t : Bool) → (byte == 47) ≡ t → slashes (byte ∷ text) ≡ cond t (suc (slashes text)) (slashes text)
begins byte text true is = ap (λ t. length (cond t (byte ∷ filter (λ b. b == 47) text) (filter (λ b. b == 47) text))) is
begins byte text false is = ap (λ t. length (cond t (byte ∷ filter (λ b. b == 47) text) (filter (λ b. b == 47) text))) is

flip : (a b : ℕ) → (a == b) ≡ (b == a)
flip a b = grind (arith, nat_tests)

bytes-same : (xs ys : List ℕ) → bytes_eq xs ys ≡ true → xs ≡ ys
bytes-same xs ys is = (bytes_eq-Decides xs ys).0 is

assoc : (a b c : Bool) → (a && (b && c)) ≡ ((a && b) && c)
assoc true b c = refl
assoc false b c = refl

pub parts-same : (a b p w : List ℕ) → HasOneSlash (queue_name p w) → bytes_eq (queue_name a b) (queue_name p w) ≡ (bytes_eq a p && bytes_eq b w)
parts-same [] b [] w one = refl
parts-same [] b (byte ∷ p) w one = by (byte == 47) refl where
  by : (t : Bool) → (byte == 47) ≡ t → bytes_eq (47 ∷ b) (byte ∷ queue_name p w) ≡ false
  by true is =
      let count : slashes (byte ∷ queue_name p w) ≡ suc (slashes (queue_name p w)) = begins byte (queue_name p w) true is in
      let rest : slashes (queue_name p w) ≡ slashes p + suc (slashes w) = some-in p w in
      absurd (omega (arith, one))
  by false is = ap (λ t. t && bytes_eq b (queue_name p w)) (flip 47 byte ∙ is)
parts-same (byte ∷ a) b [] w one = by (byte == 47) refl (bytes_eq (queue_name a b) w) refl where
  by : (t : Bool) → (byte == 47) ≡ t → (u : Bool) → bytes_eq (queue_name a b) w ≡ u → bytes_eq (byte ∷ queue_name a b) (47 ∷ w) ≡ false
  by false is u same = ap (λ t. t && bytes_eq (queue_name a b) w) is
  by true is false same = ap (λ t. (byte == 47) && t) same ∙ ap (λ t. t && false) is
  by true is true same =
      let e : queue_name a b ≡ w = bytes-same (queue_name a b) w same in
      let rest : slashes (queue_name a b) ≡ slashes a + suc (slashes b) = some-in a b in
      let more : slashes w ≡ slashes a + suc (slashes b) = ap slashes (sym e) ∙ rest in
      let count : slashes (47 ∷ w) ≡ suc (slashes w) = refl in
      absurd (omega (arith, one))
parts-same (byte ∷ a) b (other ∷ p) w one = by (λ rest. parts-same a b p w rest) (other == 47) refl where
  by : (HasOneSlash (queue_name p w) → bytes_eq (queue_name a b) (queue_name p w) ≡ (bytes_eq a p && bytes_eq b w)) → (t : Bool) → (other == 47) ≡ t
      → bytes_eq (byte ∷ queue_name a b) (other ∷ queue_name p w) ≡ (bytes_eq (byte ∷ a) (other ∷ p) && bytes_eq b w)
  by rest_same true is =
      let count : slashes (other ∷ queue_name p w) ≡ suc (slashes (queue_name p w)) = begins other (queue_name p w) true is in
      let rest : slashes (queue_name p w) ≡ slashes p + suc (slashes w) = some-in p w in
      absurd (omega (arith, one))
  by rest_same false is =
      let rest : HasOneSlash (queue_name p w) = sym (begins other (queue_name p w) false is) ∙ one in
      ap (λ t. (byte == other) && t) (rest_same rest) ∙ assoc (byte == other) (bytes_eq a p) (bytes_eq b w)

-- one name is one queue
pub one-queue : (queue other : TaskQueue) → HasOneSlash (name_of queue) → bytes_eq (name_of other) (name_of queue) ≡ is_same_queue other queue
one-queue queue other one = parts-same other.provisioner_id other.worker_type queue.provisioner_id queue.worker_type one
