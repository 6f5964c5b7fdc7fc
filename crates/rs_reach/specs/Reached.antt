-- What one of several numbered lists of numbers reaches.
use Rattle.std.specs.Prelude.{ℕ, Bool, true, List, [], ◌∷◌, map, Option, slice_get}
use Rattle.std.proofs.Common.{suc}
use Rattle.std.specs.Option.{option_map}
use Rattle.std.specs.declared.vec.Vec.{Vec}
use Rattle.std.specs.declared.alloc.Global.{Global}
use Rattle.rs_reach.specs.Search.{Path}

abbrev pub every : {A : Type 0} → List A → List Bool
every xs = map (λ x. true) xs

-- the numbers that the one with this number names
abbrev pub named : List (Vec ℕ Global) → ℕ → Option (List ℕ)
named its i = option_map (λ (v : Vec ℕ Global). v.items) (slice_get its i)

-- b is reached from a by one step or more
abbrev pub IsReachedFrom : List (Vec ℕ Global) → ℕ → ℕ → Type 0
IsReachedFrom its a b = (n : ℕ) × Path (every its) (named its) (a ∷ []) (suc n) b
