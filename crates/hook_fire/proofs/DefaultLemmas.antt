-- A default is there already, or put there.
use Rattle.std.proofs.Common.{◌≡◌, ℕ, List, true, false, is_some, ap, ◌∙◌}
use Rattle.farm_text.specs.Moment.{IsMomentText}
use Rattle.farm_text.specs.Document.{Document, Members, object, member_at, put, text}
use Rattle.hook_fire.specs.Defaults.{HasDefault}

pub is_there : (key : List ℕ) (moment : ℕ) (ms : Members) (after : Document) → is_some (member_at key ms) ≡ true → after ≡ object ms → HasDefault key moment (object ms) after
is_there key moment ms after there is = rw there is

pub is_put : (key t : List ℕ) (moment : ℕ) (ms more : Members) (value after : Document) → is_some (member_at key ms) ≡ false → IsMomentText moment t → value ≡ text t → more ≡ put key value ms → after ≡ object more
    → HasDefault key moment (object ms) after
is_put key t moment ms more value after none written said made is =
    rw none (t, written, is ∙ ap object (made ∙ ap (λ (d : Document). put key d ms) said))
