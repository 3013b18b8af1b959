-- The members that `Entries` holds.
use Rattle.farm_text.specs.Document.{Members, members_of}
use Rattle.farm_text.specs.Doc.{entries_of}
use Rattle.farm_text.specs.declared.entries.Entries.{Entries}

-- the members so far, with rising keys
unfoldable pub held : Entries → Members
held e = members_of (entries_of e.map.entries)
