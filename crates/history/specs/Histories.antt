-- Histories over a machine's rules: lists of entries, the oldest first. A place is a position in such a list, and the first is 0.
use Rattle.std.specs.Prelude.{◌≡◌, ℕ, ◌+◌, zero, suc, List, [], ◌∷◌, ◌++◌, Option, Some, None}
use Rattle.history.specs.Rules.{Rules}

-- the state after all entries, from this state
abbrev pub end_state : {Q A S E R : Type 0} → Rules Q A S E R → S → List E → S
end_state r state [] = state
end_state r state (entry ∷ rest) = end_state r (r.after state entry) rest

-- each entry may come in the state that those before it leave
abbrev pub IsLegal : {Q A S E R : Type 0} → Rules Q A S E R → S → List E → Type 0
IsLegal r state [] = Unit {0}
IsLegal r state (entry ∷ rest) = r.lawful state entry × IsLegal r (r.after state entry) rest

-- what the entry at a place replies, in the state that those before it leave; None past the end
abbrev pub reply_at : {Q A S E R : Type 0} → Rules Q A S E R → S → List E → ℕ → Option R
reply_at r state [] place = None
reply_at r state (entry ∷ rest) zero = r.reply state entry
reply_at r state (entry ∷ rest) (suc place) = reply_at r (r.after state entry) rest place

-- the question of the call at a place; None past the end and where no call stands
abbrev pub asked_at : {Q A S E R : Type 0} → Rules Q A S E R → List E → ℕ → Option Q
asked_at r [] place = None
asked_at r (entry ∷ rest) zero = r.asked entry
asked_at r (entry ∷ rest) (suc place) = asked_at r rest place

-- this place, where something was asked there
abbrev pub place_of : {Q : Type 0} → Option Q → ℕ → List ℕ
place_of None place = []
place_of (Some question) place = place ∷ []

-- the places of the calls among these entries, of which the first has this place
abbrev pub calls_of : {Q A S E R : Type 0} → Rules Q A S E R → ℕ → List E → List ℕ
calls_of r place [] = []
calls_of r place (entry ∷ rest) = place_of (r.asked entry) place ++ calls_of r (place + 1) rest

-- the history that was seen is legal, and leads from the opening to this state
abbrev pub Leads : {Q A S E R : Type 0} → Rules Q A S E R → S → List E → S → Type 0
Leads r opening seen state = IsLegal r opening seen × (state ≡ end_state r opening seen)

-- the entries of one ask, from the state that it finds: what goes before its call, and the call
abbrev pub entries : {Q A S E R : Type 0} → Rules Q A S E R → S → Q → A → E → List E
entries r state question answer call = r.ticks state question answer ++ call ∷ []
