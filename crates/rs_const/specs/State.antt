-- What is settled while values are found.
use Rattle.std.specs.Prelude.{◌≡◌, ℕ, ℤ, ◌+◌, ◌≤◌, ◌&&◌, Bool, true, false, is_none, is_some, List, [], ◌∷◌, map, length, Option, Some, None, slice_get, option_and_then}
use Rattle.std.specs.List.{list_all}
use Rattle.std.specs.Option.{option_map_or}
use Rattle.std.specs.declared.vec.Vec.{Vec}
use Rattle.std.specs.declared.alloc.Global.{Global}
use Rattle.rs_tree.specs.declared.answers.Const.{Const}
use Rattle.rs_tree.specs.declared.answers.Const.TheVariants as k
use Rattle.rs_reach.specs.Reached.{IsReachedFrom}
use Rattle.rs_const.specs.Constants.{Entry, number, names, named_by, value_at, IsInCycle}

-- the values so far: None where none is known yet
abbrev pub Values : Type 0
Values = List (Option Const)

-- before any is settled
abbrev pub opens : List Entry → Values
opens known = map (λ e. None) known

abbrev pub number_at : Values → ℕ → Option ℤ
number_at values j = option_and_then (λ (o : Option Const). option_and_then number o) (slice_get values j)

abbrev pub is_done : Values → ℕ → Bool
is_done values j = option_map_or is_some (slice_get values j) false

abbrev pub is_open : Values → ℕ → Bool
is_open values j = option_map_or is_none (slice_get values j) false

-- the constants that the one at a position names, as code has them
abbrev pub Lists : Type 0
Lists = List (Vec ℕ Global)

abbrev pub names_at : Lists → ℕ → List ℕ
names_at its i = option_map_or (λ (v : Vec ℕ Global). v.items) (slice_get its i) []

-- it can be settled: it isn't yet, and all that it names are
abbrev pub is_ready : Lists → Values → ℕ → Bool
is_ready its values i = is_open values i && list_all (is_done values) (names_at its i)

-- how many are settled
abbrev pub done : Values → ℕ
done [] = 0
done (None ∷ more) = done more
done (Some c ∷ more) = done more + 1

-- Those that are settled have their values, at any bound from the number of them on; they name settled ones alone, and
-- none is in a cycle.
pub record AreSettled (known : List Entry) (its : Lists) (values : Values) : Type 0 where
  pub exact : (i : ℕ) (c : Const) → slice_get values i ≡ Some (Some c) → (m : ℕ) → done values ≤ m → value_at known m i ≡ c
  pub closed : (i : ℕ) → is_done values i ≡ true → list_all (is_done values) (names_at its i) ≡ true
  pub straight : (i : ℕ) → is_done values i ≡ true → ¬ IsInCycle known i

-- nothing more can be settled
abbrev pub IsStuck : Lists → Values → Type 0
IsStuck its values = (i : ℕ) → is_ready its values i ≡ false

-- the lists have what the expressions name
abbrev pub AreNames : List Entry → Lists → Type 0
AreNames known its = map (λ (v : Vec ℕ Global). v.items) its ≡ map (λ (e : Entry). named_by (names known) e.2) known

-- its value, where it is settled; else by whether it is in a cycle
abbrev pub end_of : Bool → Option Const → Const
end_of cyclic (Some c) = c
end_of true None = k.Cycle
end_of false None = k.Bad

-- in the end it has its value, where it is settled; else it is in a cycle or leads into one
pub record IsEnd (its : Lists) (i : ℕ) (settled : Option Const) (c : Const) : Type 0 where
  pub value : (d : Const) → settled ≡ Some d → c ≡ d
  pub cycle : settled ≡ None → IsReachedFrom its i i → c ≡ k.Cycle
  pub bad : settled ≡ None → ¬ IsReachedFrom its i i → c ≡ k.Bad

pub record AreEnds (its : Lists) (values : Values) (cs : List Const) : Type 0 where
  pub all : length cs ≡ length values
  pub each : (i : ℕ) (c : Const) (settled : Option Const) → slice_get cs i ≡ Some c → slice_get values i ≡ Some settled → IsEnd its i settled c
