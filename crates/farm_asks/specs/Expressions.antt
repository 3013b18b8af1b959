-- A scope expression as a JSON document (the Taskcluster reference, "Scope expressions").
use Rattle.std.specs.Prelude.{[], ◌∷◌, codes}
use Rattle.scope_sets.specs.Expressions.{Expression, one, all_of, any_of, Members, no_members, member}
use Rattle.farm_text.specs.Document.{Document, text, array, object, Items, no_items, item, members_of}

abbrev mutual
  -- a scope is a text, and all or any of some expressions an object of one member, their list
  pub document_of : Expression → Document
  document_of (one scope) = text scope
  document_of (all_of es) = object (members_of ((codes "AllOf", array (items_of es)) ∷ []))
  document_of (any_of es) = object (members_of ((codes "AnyOf", array (items_of es)) ∷ []))

  pub items_of : Members → Items
  items_of no_members = no_items
  items_of (member e es) = item (document_of e) (items_of es)
