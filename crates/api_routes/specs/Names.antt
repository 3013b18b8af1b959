-- The name of a path that has no route.
use Rattle.std.specs.Prelude.{ℕ, List, Bool, ◌&&◌, nat_le, codes, if◌then◌else◌}
use Rattle.std.specs.List.{list_all}

-- a byte of printable ASCII
abbrev pub is_printable : ℕ → Bool
is_printable b = nat_le 32 b && nat_le b 126

-- the name by which a reply tells of a path that has no route
abbrev pub route_name : List ℕ → List ℕ
route_name path = if list_all is_printable path then path else codes "-"
