-- Where two lists of signatures, of constants, or of their values, say the same.
use Rattle.std.specs.Prelude.{◌≡◌, List, Option, slice_get, option_and_then}
use Rattle.rs_tree.specs.declared.answers.Const.{Const}
use Rattle.rs_tree.specs.declared.answers.Found.{Found}
use Rattle.rs_tree.specs.declared.answers.Found.TheVariants as f
use Rattle.rs_tree.specs.declared.index.Sig.{Sig}
use Rattle.rs_tree.specs.declared.place.Place.{Place}
use Rattle.rs_lookup.specs.Places.{Name, place_from, place_name}
use Rattle.rs_const.specs.Constants.{Entry, names}
use Rattle.rs_lower.specs.Meanings.{const_at}
use Rattle.rs_types.specs.Types.{sig_at}

-- where an answer is an item, both lists have one signature of it, or neither has one
abbrev pub Agrees : List (Place × Sig) → List (Place × Sig) → Found → Type 0
Agrees one other f.Local = Unit {0}
Agrees one other (f.Item p) = sig_at (place_name p) one ≡ sig_at (place_name p) other
Agrees one other f.Private = Unit {0}
Agrees one other f.Absent = Unit {0}

-- where an answer is an item, both lists have one value of it, or neither has one
abbrev pub ValuesAgree : List (Place × Const) → List (Place × Const) → Found → Type 0
ValuesAgree one other f.Local = Unit {0}
ValuesAgree one other (f.Item p) = const_at (place_name p) one ≡ const_at (place_name p) other
ValuesAgree one other f.Private = Unit {0}
ValuesAgree one other f.Absent = Unit {0}

-- the first constant at a place
abbrev pub entry_at : Name → List Entry → Option Entry
entry_at q known = option_and_then (slice_get known) (place_from q 0 (names known))

-- where an answer is an item, both lists have one constant there, or neither has one
abbrev pub EntriesAgree : List Entry → List Entry → Found → Type 0
EntriesAgree one other f.Local = Unit {0}
EntriesAgree one other (f.Item p) = entry_at (place_name p) one ≡ entry_at (place_name p) other
EntriesAgree one other f.Private = Unit {0}
EntriesAgree one other f.Absent = Unit {0}
