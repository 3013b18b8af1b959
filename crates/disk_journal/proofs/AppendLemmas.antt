-- What the two writes of an append may leave, and what they did.
use Rattle.std.proofs.Common.{◌≡◌, ℕ, ◌+◌, ◌<◌, ◌^◌, inl, inr, List, [], ◌∷◌, ◌++◌, length, drop, None, Result, refl, sym, ◌∙◌, ap, subst, arith, append_assoc, length-append}
use Rattle.std.proofs.lemmas.List.{append-nil}
use Rattle.std.proofs.lemmas.Bool.{cases_eq}
use Rattle.disk_base.specs.Contents.{Contents, IsSettled, StopsLeave}
use Rattle.disk_base.specs.Calls.{written, Torn}
use Rattle.disk_base.proofs.StopsLemmas.{StopsLeave-now, StopsLeave-weaker}
use Rattle.disk_journal.specs.Records.{sized, records, AreSized}
use Rattle.disk_journal.specs.Images.{IsImage, IsWithin}
use Rattle.disk_journal.specs.Keeping.{IsReady, Keeps, Puts}
use Rattle.disk_journal.proofs.TextLemmas.{torn_byte, written_byte, torn_behind, written_some}
use Rattle.disk_journal.proofs.RecordLemmas.{opened, sized-push, length-records-push}

pub ready_image : (head : List ℕ) (disk : Contents) (end : ℕ) (bodies : List (List ℕ)) → IsReady head disk end bodies → IsImage head bodies None disk.bytes
ready_image head disk end bodies ready = (ready.sizes, inl (ready.rest, ready.file))

-- with a whole record behind it, a gate that may be any
pub gate_within : (head : List ℕ) (bodies : List (List ℕ)) (body : List ℕ) (gate : ℕ) (more : List ℕ) → AreSized bodies → length body < 2 ^ 32
    → IsWithin head bodies (body ∷ []) (head ++ records bodies ++ gate ∷ (sized body ++ 0 ∷ more))
gate_within head bodies body gate more sizes size =
    elim (cases_eq gate 165) [
      | inl open_gate ↦ inr (inr (sized-push bodies body sizes size, inl (more, ap (λ g. head ++ records bodies ++ g ∷ (sized body ++ 0 ∷ more)) open_gate ∙ opened head bodies body (0 ∷ more))))
      | inr shut ↦ inr (inl (sized-push bodies body sizes size, (gate, more, shut, refl)))
    ]

module _ (head : List ℕ) (bodies : List (List ℕ)) (body : List ℕ) (end : ℕ) (old : Contents) (ready : IsReady head old end bodies) where
  here : end ≡ length (head ++ records bodies)
  here = omega (arith, ready.place, length-append head (records bodies))

  -- behind the closed gate
  pub first_stops : {T E : Type 0} (mid : Contents) (text : List ℕ) (result : Result T E) → Puts (end + 1) text old mid result → StopsLeave old mid (IsWithin head bodies (body ∷ []))
  first_stops mid text result puts = StopsLeave-weaker old mid _ _ (λ image torn.
      let is = torn_behind (head ++ records bodies) 0 ready.rest end here (length text) image (subst (λ (l : List ℕ). Torn (end + 1) (length text) l image) ready.file torn) in
      inl (ready.sizes, inl (is.0, is.1))) puts.stops

  -- bytes there that count for nothing
  pub room_stops : {T E : Type 0} (new : Contents) (text : List ℕ) (result : Result T E) → Puts (end + 1) text old new result → StopsLeave old new (IsWithin head bodies [])
  room_stops new text result puts = StopsLeave-weaker old new _ _ (λ image torn.
      let is = torn_behind (head ++ records bodies) 0 ready.rest end here (length text) image (subst (λ (l : List ℕ). Torn (end + 1) (length text) l image) ready.file torn) in
      (ready.sizes, inl (is.0, is.1))) puts.stops

  pub room_done : (new : Contents) (text : List ℕ) → 0 < length text → IsSettled new → new.bytes ≡ written (end + 1) text old.bytes → IsReady head new end bodies
  room_done new text some settled done = record {
    settled = settled;
    rest = text ++ drop (end + 1 + length text) (head ++ records bodies ++ 0 ∷ ready.rest);
    file = done ∙ ap (written (end + 1) text) ready.file ∙ written_some (head ++ records bodies) 0 ready.rest end here text some;
    place = ready.place;
    sizes = ready.sizes;
  }

  pub first_done : (mid : Contents) (text : List ℕ) → text ≡ sized body ++ 0 ∷ [] → mid.bytes ≡ written (end + 1) text old.bytes → (more : List ℕ) × (mid.bytes ≡ head ++ records bodies ++ 0 ∷ (sized body ++ 0 ∷ more))
  first_done mid text is done =
      let more = drop (end + 1 + length text) (head ++ records bodies ++ 0 ∷ ready.rest) in
      let some : 0 < length text = omega (arith, ap length is, length-append (sized body) (0 ∷ [])) in (
        more,
        done ∙ ap (written (end + 1) text) ready.file ∙ written_some (head ++ records bodies) 0 ready.rest end here text some
            ∙ ap (λ (l : List ℕ). head ++ records bodies ++ 0 ∷ (l ++ more)) is ∙ ap (λ (l : List ℕ). head ++ records bodies ++ 0 ∷ l) (append_assoc (sized body) (0 ∷ []) more),
      )

  module _ (size : length body < 2 ^ 32) (mid : Contents) (more : List ℕ) (bytes : mid.bytes ≡ head ++ records bodies ++ 0 ∷ (sized body ++ 0 ∷ more)) where
    -- the gate
    pub second_stops : {T E : Type 0} (new : Contents) (result : Result T E) → Puts end (165 ∷ []) mid new result → StopsLeave mid new (IsWithin head bodies (body ∷ []))
    second_stops new result puts = StopsLeave-weaker mid new _ _ (λ image torn.
        let is = torn_byte (head ++ records bodies) 0 (sized body ++ 0 ∷ more) end here image (subst (λ (l : List ℕ). Torn end 1 l image) bytes torn) in
        subst (IsWithin head bodies (body ∷ [])) (sym is.1) (gate_within head bodies body is.0 more ready.sizes size)) puts.stops

    pub second_done : (new : Contents) (new_end : ℕ) → new_end ≡ end + (5 + length body) → IsSettled new → new.bytes ≡ written end (165 ∷ []) mid.bytes → IsReady head new new_end (bodies ++ body ∷ [])
    second_done new new_end moved settled done = record {
      settled = settled;
      rest = more;
      file = done ∙ ap (written end (165 ∷ [])) bytes ∙ written_byte (head ++ records bodies) 0 (sized body ++ 0 ∷ more) end here 165 ∙ opened head bodies body (0 ∷ more);
      place = omega (arith, moved, ready.place, length-records-push bodies body);
      sizes = sized-push bodies body ready.sizes size;
    }

-- an append that failed
pub failed_keeps : (head : List ℕ) (old new : Contents) (old_end new_end : ℕ) (body : List ℕ) → ((bodies : List (List ℕ)) → IsReady head old old_end bodies → StopsLeave old new (IsWithin head bodies (body ∷ [])))
    → Keeps head old old_end new new_end [] (body ∷ [])
failed_keeps head old new old_end new_end body stops = record {
  ready = λ none. cc;
  images = λ bodies ready image left. subst (λ (l : List (List ℕ)). IsWithin head l (body ∷ []) image) (sym (append-nil bodies)) (elim (StopsLeave-now old new _ (stops bodies ready) image left) [
    | inl was ↦ inl (subst (IsImage head bodies None) (sym (ready.settled image was)) (ready_image head old old_end bodies ready))
    | inr within ↦ within
  ]);
  stops = stops;
}

-- an append that was done
pub kept_keeps : (head : List ℕ) (old new : Contents) (old_end new_end : ℕ) (body : List ℕ) → ((bodies : List (List ℕ)) → IsReady head old old_end bodies → StopsLeave old new (IsWithin head bodies (body ∷ [])))
    → ((bodies : List (List ℕ)) → IsReady head old old_end bodies → IsReady head new new_end (bodies ++ body ∷ [])) → Keeps head old old_end new new_end (body ∷ []) []
kept_keeps head old new old_end new_end body stops done = record {
  ready = λ none bodies ready. done bodies ready;
  images = λ bodies ready image left. let now = done bodies ready in
      subst (IsImage head (bodies ++ body ∷ []) None) (sym (now.settled image left)) (ready_image head new new_end (bodies ++ body ∷ []) now);
  stops = stops;
}

-- bytes behind the gate that count for nothing
pub room_keeps : (head : List ℕ) (old new : Contents) (end : ℕ) → ((bodies : List (List ℕ)) → IsReady head old end bodies → StopsLeave old new (IsWithin head bodies []))
    → ((bodies : List (List ℕ)) → IsReady head old end bodies → IsReady head new end bodies) → Keeps head old end new end [] []
room_keeps head old new end stops done = record {
  ready = λ none bodies ready. subst (IsReady head new end) (sym (append-nil bodies)) (done bodies ready);
  images = λ bodies ready image left. let now = done bodies ready in
      subst (λ (l : List (List ℕ)). IsImage head l None image) (sym (append-nil bodies)) (subst (IsImage head bodies None) (sym (now.settled image left)) (ready_image head new end bodies now));
  stops = stops;
}
