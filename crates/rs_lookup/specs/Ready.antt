-- Places that are ready for look-ups: made for a list, or by an order that is kept.
use Rattle.std.specs.Prelude.{List, map}
use Rattle.rs_lookup.specs.Keys.{Leads, plain}
use Rattle.rs_lookup.specs.Places.{Name}
use Rattle.rs_lookup.specs.declared.places.Form.{Form}
use Rattle.rs_lookup.specs.declared.places.Form.TheVariants.{Made, Kept}

abbrev pub names_in : Form → List Name
names_in (Made keys first) = map plain keys.items
names_in (Kept order) = order.now

abbrev pub IsReady : Form → Type 0
IsReady (Made keys first) = Leads first (map plain keys.items)
IsReady (Kept order) = Unit {0}
