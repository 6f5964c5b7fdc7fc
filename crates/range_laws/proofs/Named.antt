-- Places whose modules and names are short.
use Rattle.std.proofs.Common.{arith}
use Rattle.rs_tree.specs.declared.answers.Found.{Found}
use Rattle.rs_tree.specs.declared.answers.Found.TheVariants as f
use Rattle.rs_tree.specs.declared.place.Place.{Place}
use Rattle.rs_forms.specs.Fits.{FitsPlace}
use Rattle.range_laws.specs.Bounded.{IsShort}

pub record IsShortPlace (p : Place) : Type 0 where
  pub «module» : IsShort p.module
  pub name : IsShort p.name

pub place_fits : (p : Place) → IsShortPlace p → FitsPlace p
place_fits p h = (let a = h.module in let b = h.name in record { «module» = omega (arith, a); name = omega (arith, b) })

-- what a path leads to is an item with a short place, or none
abbrev pub IsShortFound : Found → Type 0
IsShortFound f.Local = Unit {0}
IsShortFound (f.Item place) = IsShortPlace place
IsShortFound f.Private = Unit {0}
IsShortFound f.Absent = Unit {0}
