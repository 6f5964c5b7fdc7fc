-- The objects that bytes can be read as.
use Rattle.std.specs.Prelude.{ℕ, ◌^◌, ◌<◌, List}
use Rattle.inc_wire.specs.Fits.{FitsList, FitsText}
use Rattle.inc_wire.specs.Narrow.{Both}
use Rattle.rs_object.specs.Grammar.{HasRelocs}
use Rattle.rs_object.specs.declared.object.Func.{Func}
use Rattle.rs_object.specs.declared.object.Object.{Object}

-- the values are in the ranges of their types

abbrev pub FitsReloc : ℕ × List ℕ → Type 0
FitsReloc r = (r.0 < 2 ^ 32) × FitsText r.1

pub record FitsFields (f : Func) : Type 0 where
  pub symbol : FitsText f.symbol
  pub params : f.params < 2 ^ 16
  pub slots : f.slots < 2 ^ 16
  pub code : FitsText f.code
  pub relocs : FitsList FitsReloc f.relocs

-- and each function's relocations are those of the grammar

abbrev pub FitsFunc : Func → Type 0
FitsFunc f = Both FitsFields HasRelocs f

pub record FitsObject (o : Object) : Type 0 where
  pub unit : FitsText o.unit
  pub funcs : FitsList FitsFunc o.funcs

-- a function as nested pairs, in the order of its form

abbrev pub Parts : Type 0
Parts = List ℕ × (ℕ × (ℕ × (List ℕ × List (ℕ × List ℕ))))

abbrev pub parts_of : Func → Parts
parts_of f = (f.symbol, (f.params, (f.slots, (f.code, f.relocs))))

abbrev pub of_parts : Parts → Func
of_parts p = record { symbol = p.0; params = p.1.0; slots = p.1.1.0; code = p.1.1.1.0; relocs = p.1.1.1.1 }
