-- Which numbers lead back to themselves, where each of several numbered lists names others.
use Rattle.std.specs.Prelude.{◌≡◌, ℕ, ◌==◌, ◌&&◌, ◌||◌, ◌↔◌, Bool, true, false, nat_lt, IsTrue, List, length, Some, slice_get, slice_index, slice_index_or}
use Rattle.std.specs.List.{Contains, list_all, list_any}
use Rattle.std.specs.declared.vec.Vec.{Vec}
use Rattle.std.specs.declared.alloc.Global.{Global}
use Rattle.rs_reach.specs.declared.classes.Classes.{Classes}
use Rattle.rs_reach.specs.Reached.{named, IsReachedFrom}

-- of each number, whether it reaches itself by one step or more
pub record AreCyclic (its : List (Vec ℕ Global)) (marks : List Bool) : Type 0 where
  pub all : length marks ≡ length its
  pub each : (i : ℕ) (b : Bool) → slice_get marks i ≡ Some b → IsTrue b ↔ IsReachedFrom its i i

-- ---- Classes: of each number a pivot, the same for a whole class, and its places in two orders.

abbrev pub pivot_of : Classes → ℕ → ℕ
pivot_of c v = slice_index c.pivot.items v

abbrev pub back_of : Classes → ℕ → ℕ
back_of c v = slice_index c.back.items v

abbrev pub forth_of : Classes → ℕ → ℕ
forth_of c v = slice_index c.forth.items v

abbrev pub is_same : Classes → ℕ → ℕ → Bool
is_same c v w = pivot_of c v == pivot_of c w

-- a step from v to w that stays in the class, or leads to one whose pivot comes later in the first order
abbrev pub is_onward : Classes → ℕ → ℕ → Bool
is_onward c v w = is_same c v w || nat_lt (back_of c (pivot_of c v)) (back_of c (pivot_of c w))

-- one that stays in the class, to a number below n
abbrev pub is_own : ℕ → Classes → ℕ → ℕ → Bool
is_own n c v w = nat_lt w n && is_same c v w

-- and that leads to an earlier one in the first order, so to the pivot in the end
abbrev pub is_toward : ℕ → Classes → ℕ → ℕ → Bool
is_toward n c v w = is_own n c v w && nat_lt (back_of c w) (back_of c v)

-- one that stays in the class and leads to a later one in the second order, so from the pivot on
abbrev pub is_entering : Classes → ℕ → ℕ → Bool
is_entering c u v = is_same c u v && nat_lt (forth_of c u) (forth_of c v)

-- v is named by one from which such a step leads to it
pub record IsEntered (its : List (Vec ℕ Global)) (c : Classes) (v : ℕ) : Type 0 where
  pub from : ℕ
  pub names : List ℕ
  pub listed : named its from ≡ Some names
  pub within : Contains names v
  pub entering : is_entering c from v ≡ true

abbrev pub AreEntered : List (Vec ℕ Global) → Classes → List Bool → Type 0
AreEntered its c entered = (v : ℕ) → slice_index_or entered v false ≡ true → IsEntered its c v

-- v is its pivot, or leads toward it and is entered from it
abbrev pub is_placed : ℕ → Classes → List Bool → ℕ → List ℕ → Bool
is_placed n c entered v names = pivot_of c v == v || list_any (is_toward n c v) names && slice_index_or entered v false

-- and no step of v leads to an earlier class
abbrev pub fits : ℕ → Classes → List Bool → ℕ → List ℕ → Bool
fits n c entered v names = list_all (is_onward c v) names && is_placed n c entered v names

abbrev pub AllFit : List (Vec ℕ Global) → Classes → List Bool → Type 0
AllFit its c entered = (v : ℕ) (names : List ℕ) → named its v ≡ Some names → fits (length its) c entered v names ≡ true
