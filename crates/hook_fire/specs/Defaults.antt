-- What a rendered definition need not say: `created` and `deadline` (this project's own).
use Rattle.std.specs.Prelude.{◌≡◌, ℕ, ◌+◌, min, List, is_some, codes}
use Rattle.std.specs.Bool.{MatchBool}
use Rattle.farm_text.specs.Moment.{IsMomentText}
use Rattle.farm_text.specs.Document.{Document, text, object, member_at, put}

-- 86,400,000 milliseconds after a moment, or the last moment that there is, which no text is read as
abbrev pub day_after : ℕ → ℕ
day_after moment = min (moment + 86_400_000) 253_402_300_799_999

-- a map that has nothing at the key has the moment there, in 24 bytes; any other document stays as it is
abbrev pub HasDefault : List ℕ → ℕ → Document → Document → Type 0
HasDefault key moment (object ms) after =
    MatchBool (is_some (member_at key ms)) (after ≡ object ms) ((t : List ℕ) × IsMomentText moment t × (after ≡ object (put key (text t) ms)))
HasDefault key moment before after = after ≡ before

-- both defaults: a map was created at the moment of the firing, and its deadline is a day after that moment
pub record HasDefaults (moment : ℕ) (rendered whole : Document) : Type 0 where
  pub created : Document
  pub with_created : HasDefault (codes "created") moment rendered created
  pub with_deadline : HasDefault (codes "deadline") (day_after moment) created whole
