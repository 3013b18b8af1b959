-- The bodies that an opening leaves at each moment.
use Rattle.std.proofs.Common.{◌≡◌, ◌≢◌, ℕ, ◌+◌, inl, inr, List, [], ◌∷◌, ◌++◌, length, drop, get_or, Option, Some, None, option_to_list, Result, Ok, sym, ◌∙◌, ap, subst, arith, length-append}
use Rattle.std.proofs.lemmas.List.{get_or_at, get_or_past, append-nil}
use Rattle.std.proofs.lemmas.Bool.{cases_eq}
use Rattle.disk_base.specs.Contents.{Contents, IsSettled, StopsLeave}
use Rattle.disk_base.specs.Calls.{written, Torn, Syncs}
use Rattle.disk_base.proofs.StopsLemmas.{StopsLeave-now, StopsLeave-weaker, StopsLeave-then, StopsLeave-nothing}
use Rattle.disk_journal.specs.declared.fault.OpenFault.TheVariants.{Damaged}
use Rattle.disk_journal.specs.Records.{sized, records, EndsBefore, Opens, IsDamagedBehind, placed}
use Rattle.disk_journal.specs.Images.{IsImage, IsWithin}
use Rattle.disk_journal.specs.Keeping.{IsReady}
use Rattle.disk_journal.specs.declared.spans.Span.{Span}
use Rattle.disk_journal.specs.Bodies.{bodies_in, places_in}
use Rattle.disk_journal.specs.Following.{Reaches}
use Rattle.disk_journal.specs.Opening.{IsStill, Mends, ClosesGate}
use Rattle.disk_journal.proofs.LawLemmas.{opens_one, image_opens}
use Rattle.disk_journal.proofs.OpenLemmas.{IsStill-then}
use Rattle.disk_journal.proofs.TextLemmas.{torn_byte, written_byte, torn_end, written_end}
use Rattle.disk_journal.proofs.RecordLemmas.{sized-front, sized-last}
use Rattle.disk_journal.proofs.AppendLemmas.{gate_within}

-- a file whose gate behind the bodies was closed where it was not has these bodies
pub mended_file : (head : List ℕ) (bodies : List (List ℕ)) (rest : List ℕ) (end : ℕ) (file new : List ℕ) → end ≡ length (head ++ records bodies) → file ≡ head ++ records bodies ++ rest
    → (get_or file end 1 ≡ 0 → new ≡ file) → (get_or file end 1 ≢ 0 → new ≡ written end (0 ∷ []) file) → (more : List ℕ) × (new ≡ head ++ records bodies ++ 0 ∷ more)
mended_file head bodies [] end file new here is closed mended =
    let front = head ++ records bodies in
    let whole : file ≡ front = is ∙ append-nil front in
    let none : get_or file end 1 ≡ 1 = get_or_past file end 1 (omega (arith, here, ap length whole)) in (
      [],
      mended (λ zero. absurd (omega (arith, zero, none))) ∙ ap (written end (0 ∷ [])) whole ∙ written_end front end 0 here,
    )
mended_file head bodies (gate ∷ rest) end file new here is closed mended =
    let front = head ++ records bodies in
    let at_gate : get_or file end 1 ≡ gate = ap (λ (l : List ℕ). get_or l end 1) is ∙ get_or_at front gate rest 1 end (sym here) in
    elim (cases_eq gate 0) [
      | inl zero ↦ (rest, closed (at_gate ∙ zero) ∙ is ∙ ap (λ g. front ++ g ∷ rest) zero)
      | inr other ↦ (rest, mended (λ zero. other (sym at_gate ∙ zero)) ∙ ap (written end (0 ∷ [])) is ∙ written_byte front gate rest end here 0)
    ]

-- In a write of a closed gate behind the bodies of an image, a stop leaves these bodies, or these and the pending one.
pub mend_within : (head : List ℕ) (bodies : List (List ℕ)) (pending : Option (List ℕ)) (file : List ℕ) (end : ℕ) (image : List ℕ) → end ≡ length (head ++ records bodies) → IsImage head bodies pending file
    → get_or file end 1 ≢ 0 → Torn end 1 file image → IsWithin head bodies (option_to_list pending) image
mend_within head bodies (Some body) file end image here is other torn =
    let whole = is.1 in
    let left = torn_byte (head ++ records bodies) whole.0 (sized body ++ 0 ∷ whole.1) end here image (subst (λ (l : List ℕ). Torn end 1 l image) whole.3 torn) in
    subst (IsWithin head bodies (body ∷ [])) (sym left.1) (gate_within head bodies body left.0 whole.1 (sized-front bodies body is.0) (sized-last bodies body is.0))
mend_within head bodies None file end image here is other torn =
    elim is.1 [
      | inl whole ↦ absurd (other (ap (λ (l : List ℕ). get_or l end 1) whole.1 ∙ get_or_at (head ++ records bodies) 0 whole.0 1 end (sym here)))
      | inr few ↦ let none : end ≡ length head = here ∙ length-append head (records bodies) ∙ ap (λ (l : List (List ℕ)). length head + length (records l)) few.0 ∙ omega arith in
          let left = torn_end head few.1.0 end image none few.1.1 (subst (λ (l : List ℕ). Torn end 1 l image) few.1.2 torn) in
          (is.0, inr (few.0, (left.0, left.1, left.2)))
    ]

settled_still : (a b : Contents) → IsStill a b → IsSettled a → IsSettled b
settled_still a b still settled image left = elim (StopsLeave-now a b _ still.stops image left) [
  | inl was ↦ settled image was ∙ sym still.same
  | inr none ↦ absurd none
]

-- a disk that was synced and read is as it was, and nothing is pending
pub read_still : {T E : Type 0} (old synced read : Contents) (done : T) → Syncs {T = T} {E = E} old synced (Ok done) → IsStill synced read → IsStill old read × IsSettled read
read_still old synced read done sync still =
    (IsStill-then old synced read (record { same = sync.same; stops = sync.stops }) still, settled_still synced read still sync.done)

-- the damage that was found in what was read is the disk's
pub found_damaged : (old synced file followed : List ℕ) (spans : List Span) (place told : ℕ) → file ≡ synced → synced ≡ old → followed ≡ file → Damaged place ≡ Damaged told
    → IsDamagedBehind [] followed (bodies_in followed spans) place → IsDamagedBehind [] old (bodies_in file spans) told
found_damaged old synced file followed spans place told is same follows names found =
    let one : place ≡ told = cc in
    let read = subst (λ (l : List ℕ). IsDamagedBehind [] l (bodies_in l spans) place) follows found in
    let kept = subst (λ (l : List ℕ). IsDamagedBehind [] l (bodies_in file spans) place) (is ∙ same) read in
    subst (λ n. IsDamagedBehind [] old (bodies_in file spans) n) one kept

-- the places of what was followed
pub places_are : (file followed : List ℕ) (spans : List Span) (end : ℕ) → followed ≡ file → Reaches followed spans end → places_in file spans ≡ placed 0 (bodies_in file spans)
places_are file followed spans end is found = subst (λ (l : List ℕ). places_in l spans ≡ placed 0 (bodies_in l spans)) is found.places

-- the end of what was followed
pub end_is : (file followed : List ℕ) (spans : List Span) (end : ℕ) → followed ≡ file → Reaches followed spans end → end ≡ length (records (bodies_in file spans))
end_is file followed spans end is found = subst (λ (l : List ℕ). end ≡ length (records (bodies_in l spans))) is found.place

module _ {T E : Type 0} (old synced read new : Contents) (file followed closing : List ℕ) (spans : List Span) (end : ℕ) (result : Result T E) (sync : Syncs {T = T} {E = E} old synced result) (settled : IsSettled synced) (still : IsStill synced read) (is : file ≡ synced.bytes)
    (follows : followed ≡ file) (closes : closing ≡ file) (found : Reaches followed spans end × EndsBefore (bodies_in followed spans) (drop end followed)) where
  reaches : Reaches file spans end
  reaches = subst (λ (l : List ℕ). Reaches l spans end) follows found.0

  ends : EndsBefore (bodies_in file spans) (drop end file)
  ends = subst (λ (l : List ℕ). EndsBefore (bodies_in l spans) (drop end l)) follows found.1

  opens : Opens [] file (bodies_in file spans)
  opens = record { rest = drop end file; whole = reaches.whole; sizes = reaches.sizes; ends = ends }

  same : synced.bytes ≡ old.bytes
  same = sync.same

  -- what the closing of the gate is asked for
  pub asked : IsSettled read × (read.bytes ≡ closing)
  asked = (settled_still synced read still settled, still.same ∙ sym is ∙ sym closes)

  -- the disk's own bytes open to the bodies
  pub opened_file : Opens [] old.bytes (bodies_in file spans)
  opened_file = subst (λ (l : List ℕ). Opens [] l (bodies_in file spans)) (is ∙ same) opens

  pub opened_ready : {T2 E2 : Type 0} (x : T2) → Mends {T = T2} {E = E2} end closing read new (Ok x) → IsReady [] new end (bodies_in file spans)
  opened_ready {T2 = T2} {E2 = E2} x mends =
      let m = subst (λ (l : List ℕ). Mends {T = T2} {E = E2} end l read new (Ok x)) closes mends in
      let left = mended_file [] (bodies_in file spans) (drop end file) end file new.bytes reaches.place reaches.whole m.closed m.mended in
      record { settled = m.settled; rest = left.0; file = left.1; place = reaches.place ∙ omega arith; sizes = reaches.sizes }

  pub opened_gate : {T2 E2 : Type 0} (x : T2) → Mends {T = T2} {E = E2} end closing read new (Ok x) → ClosesGate old.bytes end new.bytes
  opened_gate {T2 = T2} {E2 = E2} x mends =
      let m = subst (λ (l : List ℕ). Mends {T = T2} {E = E2} end l read new (Ok x)) closes mends in
      subst (λ (l : List ℕ). ClosesGate l end new.bytes) (is ∙ same) (record { closed = m.closed; mended = m.mended })

  pub opened_stops : {T2 E2 : Type 0} (mend : Result T2 E2) → Mends end closing read new mend → (bodies : List (List ℕ)) (pending : Option (List ℕ)) → IsImage [] bodies pending old.bytes → StopsLeave old new (IsWithin [] bodies (option_to_list pending))
  opened_stops {T2 = T2} {E2 = E2} mend mends bodies pending image =
      let m = subst (λ (l : List ℕ). Mends {T = T2} {E = E2} end l read new mend) closes mends in
      let whole : IsImage [] bodies pending file = subst (IsImage [] bodies pending) (sym (is ∙ same)) image in
      let one : bodies_in file spans ≡ bodies = opens_one [] file (bodies_in file spans) bodies opens (image_opens [] bodies pending file whole) in
      let here : end ≡ length (records bodies) = reaches.place ∙ ap (λ (l : List (List ℕ)). length (records l)) one in
      StopsLeave-then old read new _
      (StopsLeave-then old synced read _ (StopsLeave-nothing old synced _ sync.stops) (StopsLeave-nothing synced read _ still.stops))
      (StopsLeave-weaker read new _ _ (λ left torn. mend_within [] bodies pending file end left here whole torn.0 torn.1) m.stops)
