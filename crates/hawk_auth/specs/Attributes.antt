-- What is read at a place where an attribute is looked for; for private clauses.
use Rattle.std.specs.Prelude.{◌≡◌, ℕ, ◌<◌, List, [], ◌∷◌, length}
use Rattle.hawk_auth.specs.Header.{AttributeData, attribute_data, IsAttributes}
use Rattle.hawk_auth.specs.declared.attributes.Next.{Next}
use Rattle.hawk_auth.specs.declared.attributes.Next.TheVariants.{Last, More, Off}

-- the last attribute; or one, and what the rest has to be; or the text is no attributes
abbrev pub IsNext : List ℕ → Next → Type 0
IsNext text (Last a) = IsAttributes (attribute_data a ∷ []) text × ((all : List AttributeData) → IsAttributes all text → all ≡ attribute_data a ∷ [])
IsNext text (More a rest) =
    (length rest.now < length text)
    × ((more : List AttributeData) → IsAttributes more rest.now → IsAttributes (attribute_data a ∷ more) text)
    × ((all : List AttributeData) → IsAttributes all text → (more : List AttributeData) × (all ≡ attribute_data a ∷ more) × IsAttributes more rest.now)
IsNext text Off = (all : List AttributeData) → ¬ IsAttributes all text
