-- How the locals in scope are held.
use Rattle.std.specs.Prelude.{ℕ, ◌<◌, false, List, [], ◌∷◌, length, get_or}
use Rattle.rs_lookup.specs.Env as names
use Rattle.rs_lower.specs.declared.locals.Held.{Held}
use Rattle.rs_lower.specs.Locals.{Local}

abbrev pub local_of : List ℕ → Held → Local
local_of name h = record { name = name; slot = h.slot; truth = h.truth }

abbrev pub none_held : Held
none_held = record { slot = 0; truth = false }

-- a name's number leads to what it is held as
abbrev pub shown : List Held → List ℕ × ℕ → Local
shown hs e = local_of e.0 (get_or hs e.1 none_held)

abbrev pub AreHeld : List Held → names.Env → Type 0
AreHeld hs [] = Unit {0}
AreHeld hs (e ∷ outer) = (e.1 < length hs) × AreHeld hs outer
