-- What a template sees of the firing (the Taskcluster reference, 'Hooks').
use Rattle.std.specs.Prelude.{◌≡◌, ℕ, List, [], ◌∷◌, codes}
use Rattle.farm_text.specs.Slug.{slug_text}
use Rattle.farm_text.specs.Moment.{IsMomentText}
use Rattle.farm_text.specs.Document.{Document, text, object, members_of}

-- by whom the hook is fired, when (in 24 bytes), with which payload, and for which task
abbrev pub context_of : List ℕ → Document → List ℕ → Document
context_of now payload id =
    object (members_of (
    (codes "firedBy", text (codes "triggerHook"))
    ∷ (codes "now", text now)
    ∷ (codes "payload", payload)
    ∷ (codes "taskId", text (slug_text id))
    ∷ []))

-- the context of a firing at this moment, with this payload, for the task of this id
pub record IsContext (payload : Document) (moment : ℕ) (id : List ℕ) (context : Document) : Type 0 where
  pub now : List ℕ
  pub now_text : IsMomentText moment now
  pub is : context ≡ context_of now payload id
