-- Functions by their symbols.
use Rattle.std.specs.Prelude.{ℕ, if◌then◌else◌, List, [], ◌∷◌, Option, Some, None, is_some}
use Rattle.std.specs.List.{flat_map, list_any, position_from}
use Rattle.std.specs.Option.{option_map_or}
use Rattle.std.specs.Str.{bytes_eq}
use Rattle.rs_object.specs.declared.object.Func.{Func}
use Rattle.rs_object.specs.declared.object.Object.{Object}

-- the functions of all objects, in order
abbrev pub funcs_of : List Object → List Func
funcs_of os = flat_map (λ o. o.funcs) os

-- the number of the first function with a symbol, where the first of these has number i
abbrev pub number_from : List ℕ → ℕ → List Func → Option ℕ
number_from s i fs = position_from (λ f. bytes_eq s f.symbol) i fs

-- functions are numbered from 0
abbrev pub number_of : List Func → List ℕ → Option ℕ
number_of fs s = number_from s 0 fs

-- the first symbol, in order of the functions, that a later function has too
abbrev pub first_twice : List Func → Option (List ℕ)
first_twice [] = None
first_twice (f ∷ fs) = if list_any (λ g. bytes_eq f.symbol g.symbol) fs then Some f.symbol else first_twice fs

-- of relocations, the first symbol that no function has
abbrev pub undefined_in : List Func → List (ℕ × List ℕ) → Option (List ℕ)
undefined_in all [] = None
undefined_in all (r ∷ rs) = if is_some (number_of all r.1) then undefined_in all rs else Some r.1

-- and of the relocations of functions, in their order
abbrev pub first_undefined : List Func → List Func → Option (List ℕ)
first_undefined all [] = None
first_undefined all (f ∷ fs) = option_map_or (λ s. Some s) (undefined_in all f.relocs) (first_undefined all fs)
