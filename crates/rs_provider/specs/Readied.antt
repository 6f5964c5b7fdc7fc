-- A text's reading, ready for look-ups of its items.
use Rattle.std.specs.Prelude.{List, [], map, Option, None}
use Rattle.rs_tree.specs.declared.tree.Item.{Item}
use Rattle.rs_tree.specs.declared.tree.Placed.{Placed}
use Rattle.rs_lookup.specs.Places.{Name}
use Rattle.rs_plans.specs.Plans.{item_in_place}
use Rattle.rs_queries.specs.declared.reading.Reading.{Reading}
use Rattle.rs_queries.specs.declared.reading.Reading.TheVariants.{Tree, Fault}

abbrev pub placed_name : Placed → Name
placed_name p = (p.«module», p.item.name)

-- the names of its items, of which one with a fault has none
abbrev pub names_read : Reading → List Name
names_read (Tree krate) = map placed_name krate.items
names_read (Fault fault) = []

-- its item of a name: of equal ones the first
abbrev pub item_read : Name → Reading → Option Item
item_read name (Tree krate) = item_in_place name krate.items
item_read name (Fault fault) = None
