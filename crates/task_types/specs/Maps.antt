-- What the maps of a definition are (RFC 8259).
use Rattle.farm_text.specs.Document.{Document, text, object, Members, no_members, member}

-- the members of a document, of which only a map has any
abbrev pub members_in : Document → Members
members_in (object ms) = ms
members_in _ = no_members

-- each value is a text
abbrev pub AreTexts : Members → Type 0
AreTexts no_members = Unit {0}
AreTexts (member k (text t) ms) = AreTexts ms
AreTexts (member k _ ms) = ⊥

-- a map of texts
abbrev pub AreTags : Document → Type 0
AreTags (object ms) = AreTexts ms
AreTags _ = ⊥
