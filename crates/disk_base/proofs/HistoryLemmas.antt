-- What one more call makes of the contents of a disk that keeps its calls.
use Rattle.std.proofs.Common.{◌≡◌, ℕ, ◌≤◌, ◌⊎◌, inl, inr, Bool, true, false, not, ◌∙◌, List, ◌∷◌, length, Ok, Err, refl, sym, ap, subst, arith}
use Rattle.disk_base.specs.Contents.{LeftNow, StopsLeave}
use Rattle.disk_base.specs.Calls.{Torn, Shortened, After, Writes, Cuts, Syncs}
use Rattle.disk_base.specs.History.{Call, wrote, cut, synced, MayLeave, LeftSince}
use Rattle.disk_base.specs.HistoryLaws.{contents_after, torn-same, shortened-same, may_leave_now, left_now, may_leave_read, left_earlier}

stops_of : (first : List ℕ) (calls : List Call) (call : Call) (P : List ℕ → Type 0) → ((image : List ℕ) → MayLeave first (call ∷ calls) image → P image) → StopsLeave (contents_after first calls) (contents_after first (call ∷ calls)) P
stops_of first calls call P each = record {
  later = omega arith;
  adds = λ t image le left. adds t image left;
  keeps = λ t image le left. inr (le, left);
}
  where
    adds : (t : ℕ) (image : List ℕ) → LeftSince first (call ∷ calls) t image → LeftSince first calls t image ⊎ P image
    adds t image (inl now) = inr (each image now)
    adds t image (inr past) = inl past.1

after_torn : (first : List ℕ) (calls : List Call) (at : ℕ) (bytes : List ℕ) (done : Bool) (image : List ℕ) → MayLeave first (wrote at bytes done ∷ calls) image → After (Torn at (length bytes)) (contents_after first calls) image
after_torn first calls at bytes done image may = (may.0, left_now first calls may.0 may.1, may.2)

after_shortened : (first : List ℕ) (calls : List Call) (size : ℕ) (done : Bool) (image : List ℕ) → MayLeave first (cut size done ∷ calls) image → After (Shortened size) (contents_after first calls) image
after_shortened first calls size done image may = (may.0, left_now first calls may.0 may.1, may.2)

module _ {T E : Type 0} (x : T) (e : E) (first : List ℕ) (calls next : List Call) where
  pub wrote_done : (at : ℕ) (bytes : List ℕ) (chosen : Bool) → chosen ≡ false → next ≡ wrote at bytes (not chosen) ∷ calls → Writes {T = T} {E = E} at bytes (contents_after first calls) (contents_after first next) (Ok x)
  wrote_done at bytes chosen not_chosen is =
      subst (λ (l : List Call). Writes {T = T} {E = E} at bytes (contents_after first calls) (contents_after first l) (Ok x)) (sym (is ∙ ap (λ b. wrote at bytes (not b) ∷ calls) not_chosen)) record {
        done = refl;
        stops = stops_of first calls (wrote at bytes true) _ (after_torn first calls at bytes true);
        pending = tt;
      }

  pub wrote_failed : (at : ℕ) (bytes : List ℕ) (chosen : Bool) → chosen ≡ true → next ≡ wrote at bytes (not chosen) ∷ calls → Writes {T = T} {E = E} at bytes (contents_after first calls) (contents_after first next) (Err e)
  wrote_failed at bytes chosen was_chosen is =
      subst (λ (l : List Call). Writes {T = T} {E = E} at bytes (contents_after first calls) (contents_after first l) (Err e)) (sym (is ∙ ap (λ b. wrote at bytes (not b) ∷ calls) was_chosen)) record {
        done = tt;
        stops = stops_of first calls (wrote at bytes false) _ (after_torn first calls at bytes false);
        pending = λ image left. inl (image, may_leave_now first calls image left, torn-same at (length bytes) image);
      }

  pub cut_done : (size : ℕ) (chosen : Bool) → chosen ≡ false → next ≡ cut size (not chosen) ∷ calls → Cuts {T = T} {E = E} size (contents_after first calls) (contents_after first next) (Ok x)
  cut_done size chosen not_chosen is =
      subst (λ (l : List Call). Cuts {T = T} {E = E} size (contents_after first calls) (contents_after first l) (Ok x)) (sym (is ∙ ap (λ b. cut size (not b) ∷ calls) not_chosen)) record {
        done = refl;
        stops = stops_of first calls (cut size true) _ (after_shortened first calls size true);
        pending = tt;
      }

  pub cut_failed : (size : ℕ) (chosen : Bool) → chosen ≡ true → next ≡ cut size (not chosen) ∷ calls → Cuts {T = T} {E = E} size (contents_after first calls) (contents_after first next) (Err e)
  cut_failed size chosen was_chosen is =
      subst (λ (l : List Call). Cuts {T = T} {E = E} size (contents_after first calls) (contents_after first l) (Err e)) (sym (is ∙ ap (λ b. cut size (not b) ∷ calls) was_chosen)) record {
        done = tt;
        stops = stops_of first calls (cut size false) _ (after_shortened first calls size false);
        pending = λ image left. inl (image, may_leave_now first calls image left, shortened-same size image);
      }

  pub sync_done : next ≡ synced ∷ calls → Syncs {T = T} {E = E} (contents_after first calls) (contents_after first next) (Ok x)
  sync_done is =
      subst (λ (l : List Call). Syncs {T = T} {E = E} (contents_after first calls) (contents_after first l) (Ok x)) (sym is) record {
        done = λ image left. may_leave_now first (synced ∷ calls) image left;
        same = refl;
        stops = record {
          later = omega arith;
          adds = λ t image le left. sync_adds t image le left;
          keeps = λ t image le left. inr (le, left);
        };
        pending = tt;
      }
    where
      sync_adds : (t : ℕ) (image : List ℕ) → t ≤ length calls → LeftSince first (synced ∷ calls) t image → LeftSince first calls t image ⊎ ⊥
      sync_adds t image le (inl now) = inl (left_earlier first calls t (length calls) image le (left_now first calls image (subst (λ (l : List ℕ). MayLeave first calls l) (sym now) (may_leave_read first calls))))
      sync_adds t image le (inr past) = inl past.1

-- each state of the range is an image
pub torn_left : (first : List ℕ) (calls next : List Call) (at : ℕ) (bytes : List ℕ) (done : Bool) → next ≡ wrote at bytes done ∷ calls → (image : List ℕ) → After (Torn at (length bytes)) (contents_after first calls) image → LeftNow (contents_after first next) image
torn_left first calls next at bytes done is image after =
    subst (λ (l : List Call). LeftNow (contents_after first l) image) (sym is) (inl (after.0, may_leave_now first calls after.0 after.1, after.2))

pub shortened_left : (first : List ℕ) (calls next : List Call) (size : ℕ) (done : Bool) → next ≡ cut size done ∷ calls → (image : List ℕ) → After (Shortened size) (contents_after first calls) image → LeftNow (contents_after first next) image
shortened_left first calls next size done is image after =
    subst (λ (l : List Call). LeftNow (contents_after first l) image) (sym is) (inl (after.0, may_leave_now first calls after.0 after.1, after.2))
