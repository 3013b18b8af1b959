-- What a stop leaves at any moment of asks and of openings is sound.
use Rattle.std.proofs.Common.{◌≡◌, ◌⊎◌, ℕ, List, [], ◌∷◌, ◌++◌, Option, Some, None, option_to_list, sym, ap, ◌∙◌, subst, append_assoc, arith, inl, inr}
use Rattle.std.proofs.lemmas.Grind.{flat_map-append}
use Rattle.history.specs.Histories.{IsLegal, entries}
use Rattle.history.proofs.HistoriesLemmas.{Leads-append}
use Rattle.disk_base.specs.Contents.{Contents as Disk, StopsLeave}
use Rattle.disk_base.proofs.StopsLemmas.{StopsLeave-weaker}
use Rattle.disk_journal.specs.Images.{IsImage, IsWithin}
use Rattle.disk_journal.proofs.KeepsLemmas.{within-more}
use Rattle.disk_journal.proofs.LawLemmas.{empty_image}
use Rattle.task_types.specs.declared.change.Change.{Change}
use Rattle.task_index.specs.Contents.{Contents, no_contents}
use Rattle.farm_machine.specs.Entry.{Entry}
use Rattle.farm_machine.specs.Replay.{records_by, records_of}
use Rattle.farm_machine.specs.Step.{farm_rules}
use Rattle.farm_core.specs.Farm.{WasAsked}
use Rattle.farm_core.specs.Opened.{Replays, IsSound}
use Rattle.farm_core.specs.Records.{IsFailed}
use Rattle.farm_core.proofs.HoldLemmas.{failed-asked, has-more}
use Rattle.farm_core.proofs.ImageLemmas.{history-replays}
use Rattle.farm_core.proofs.OpenLemmas.{OneChange, replays-none, within-sound}

sound : OneChange → (file : List ℕ) (bodies more : List (List ℕ)) (contents : Contents) → Replays (bodies ++ more) contents → IsWithin [] bodies more file → IsSound file
sound one file bodies more contents replays within =
    record { bodies = bodies; more = more; contents = contents; replays = replays; within = within; undamaged = λ place damaged. within-sound one file bodies more contents place replays within damaged }

pub sound-empty : OneChange → IsSound []
sound-empty one = sound one [] [] [] no_contents replays-none (empty_image [])

-- ---- an opening

-- a file within some bodies is an image, and what is within those of the image is within the others
record Front (bodies more : List (List ℕ)) (file : List ℕ) : Type 0 where
  pub front : List (List ℕ)
  pub pending : Option (List ℕ)
  pub image : IsImage [] front pending file
  pub within : (left : List ℕ) → IsWithin [] front (option_to_list pending) left → IsWithin [] bodies more left

front-of : (bodies more : List (List ℕ)) (file : List ℕ) → IsWithin [] bodies more file → Front bodies more file
front-of bodies [] file within = record { front = bodies; pending = None; image = within; within = λ left w. w }
front-of bodies (body ∷ more) file (inl none) = record { front = bodies; pending = None; image = none; within = λ left w. inl w }
front-of bodies (body ∷ more) file (inr (inl one)) = record { front = bodies; pending = Some body; image = one; within = λ left w. within-more [] bodies (body ∷ []) more left w }
front-of bodies (body ∷ more) file (inr (inr rest)) =
    let f = front-of (bodies ++ body ∷ []) more file rest in
    record { front = f.front; pending = f.pending; image = f.image; within = λ left w. inr (inr (f.within left w)) }

pub opening-stops : OneChange → (old new : Disk) → IsSound old.bytes
    → ((bodies : List (List ℕ)) (pending : Option (List ℕ)) → IsImage [] bodies pending old.bytes → StopsLeave old new (IsWithin [] bodies (option_to_list pending)))
    → StopsLeave old new IsSound
opening-stops one old new s moves =
    let f = front-of s.bodies s.more old.bytes s.within in
    StopsLeave-weaker old new _ IsSound (λ left w. sound one left s.bodies s.more s.contents s.replays (f.within left w)) (moves f.front f.pending f.image)

-- ---- an ask

module _ (one : OneChange) (tells : Type 0) (told : tells) (old new : Disk) (w : WasAsked tells old new) where
  pub asking-stops : StopsLeave old new IsSound
  asking-stops =
      let has = w.holds.records told in
      let k = w.asks.keeps told in
      let more : List Entry = entries farm_rules w.state w.asking w.answer w.asks.call in
      let all : (w.opening.records ++ records_of w.seen) ++ records_of more ≡ w.opening.records ++ records_of (w.seen ++ more) =
      append_assoc w.opening.records (records_of w.seen) (records_of more) ∙ ap (λ (l : List Change). w.opening.records ++ l) (sym (flat_map-append records_by w.seen more)) in
      let now = has-more old w.end w.state new w.end_now w.now (w.opening.records ++ records_of w.seen) (records_of more) (w.opening.records ++ records_of (w.seen ++ more)) w.asks.failed w.holds.failed w.at_work all w.asks.whole has k in
      let failed_in : (w.asks.failed ≡ []) ⊎ ((change : Change) × IsFailed w.opening.state (w.seen ++ more) change × (w.asks.failed ≡ change ∷ [])) =
      elim w.asks.failed_by [ inl none ↦ inl none | inr some_ ↦ inr (some_.0, failed-asked w.state w.asking w.answer w.asks.call w.opening.state w.seen some_.0 w.leads some_.1 some_.2, some_.3) ] in
      let legal : IsLegal farm_rules w.opening.state (w.seen ++ more) = (Leads-append farm_rules w.opening.state w.seen more w.state w.leads w.asks.step.legal).0 in
      let all_of : (reached : Contents) × Replays ((has.bodies ++ k.bodies) ++ k.others) reached = history-replays new w.end_now w.now w.opening (w.seen ++ more) w.asks.failed now w.restores legal failed_in in
      let replays : Replays (has.bodies ++ (k.bodies ++ k.others)) all_of.0 = subst (λ (l : List (List ℕ)). Replays l all_of.0) (append_assoc has.bodies k.bodies k.others) all_of.1 in
      StopsLeave-weaker old new _ IsSound (λ image within. sound one image has.bodies (k.bodies ++ k.others) all_of.0 replays within) (k.keeps.stops has.bodies (has.at_work w.at_work).1)

  -- what it had before it was asked too
  pub asking-leaves : (image : List ℕ) → new.left_since old.moment image → IsSound image
  asking-leaves image left =
      let has = w.holds.records told in
      let all = history-replays old w.end w.state w.opening w.seen w.holds.failed has w.restores w.leads.0 w.holds.failed_in in
      elim (asking-stops.adds old.moment image (omega arith) left) [
        | inl was ↦ sound one image has.bodies has.others all.0 all.1 (has.images image was)
        | inr is ↦ is
      ]
