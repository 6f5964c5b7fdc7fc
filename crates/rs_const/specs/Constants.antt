-- The values of constants (docs/LANGUAGE.md, "Constants"). `known` has the constants: the place of each, its item and
-- what the paths of its expression lead to, in the order of the text. Of equal places the first entry counts; an item that
-- `known` lacks is a function.
use Rattle.std.specs.Prelude.{◌≡◌, ℕ, ℤ, ◌||◌, Bool, true, false, not, is_none, if◌then◌else◌, List, [], ◌∷◌, ◌++◌, length, map, Option, Some, None, Ok, Err, slice_get, option_and_then}
use Rattle.std.proofs.Common.{zero, suc}
use Rattle.std.specs.List.{list_any, filter_map}
use Rattle.std.specs.Option.{option_map, option_map_or}
use Rattle.rs_tree.specs.declared.place.Place.{Place}
use Rattle.rs_tree.specs.declared.answers.Const.{Const}
use Rattle.rs_tree.specs.declared.answers.Const.TheVariants as k
use Rattle.rs_tree.specs.declared.answers.Diag.{Diag}
use Rattle.rs_tree.specs.declared.answers.Found.{Found}
use Rattle.rs_tree.specs.declared.answers.Found.TheVariants as f
use Rattle.rs_tree.specs.declared.index.Sig.{Sig}
use Rattle.rs_tree.specs.declared.tree.Item.{Item}
use Rattle.rs_tree.specs.declared.tree.Path as path
use Rattle.rs_tree.specs.declared.tree.Typ.{Typ}
use Rattle.rs_tree.specs.declared.tree.Typ.TheVariants as t
use Rattle.rs_tree.specs.Plain.{at_of, Exp, Definition, Const as ConstItem, Func, definition}
use Rattle.rs_tree.specs.Leaves.{filled}
use Rattle.rs_lookup.specs.Places.{Name, place_name, place_from}
use Rattle.rs_reach.specs.Reached.{every}
use Rattle.rs_reach.specs.Search.{Path}
use Rattle.rs_types.specs.Types.{Context, wrongs, need, type_of}
use Rattle.rs_value.specs.Value.{Outcome, value, is_zero, number_of}
use Rattle.rs_value.specs.declared.trap.Trap.TheVariants.{Overflow, DivZero, NoValue}

abbrev pub Entry : Type 0
Entry = Place × Item × List Found

abbrev pub names : List Entry → List Name
names known = map (λ (e : Entry). place_name e.0) known

-- the constant that an answer leads to, by its position among the known ones
abbrev pub named : List Name → Found → Option ℕ
named ns f.Local = None
named ns (f.Item p) = place_from (place_name p) 0 ns
named ns f.Private = None
named ns f.Absent = None

-- the constants that an expression with these answers names
abbrev pub named_by : List Name → List Found → List ℕ
named_by ns found = filter_map (named ns) found

-- the constants that the expression of the constant at a position names, evaluated or not
abbrev pub names_of : List Entry → ℕ → Option (List ℕ)
names_of known i = option_map (λ (e : Entry). named_by (names known) e.2) (slice_get known i)

-- following the constants that expressions name, by one step or more, the constant at a position reaches itself
abbrev pub IsInCycle : List Entry → ℕ → Type 0
IsInCycle known i = (n : ℕ) × Path (every known) (names_of known) (i ∷ []) (suc n) i

-- ---- The value of one constant, by those of the others.

-- a constant's type, as others see it
abbrev pub typ_of : Definition path.Path → Typ
typ_of (ConstItem typ e) = typ
typ_of (Func inlined params gives stmts tail) = t.Unit

abbrev pub sig_of : Entry → Place × Sig
sig_of e = (e.0, record { kind = 0; public = e.1.public; params = []; gives = typ_of (definition e.1.body) })

abbrev pub sigs_of : List Entry → List (Place × Sig)
sigs_of known = map sig_of known

-- a constant's expression knows the other constants, and no local
abbrev pub context_of : List (Place × Sig) → Context
context_of sigs = record { constant = true; sigs = sigs; scope = []; locals = [] }

-- what is wrong in the expression of a constant of this type, whose paths lead to these
abbrev pub const_wrongs : List (Place × Sig) → Typ → Exp path.Path → List Found → List Diag
const_wrongs sigs typ e found =
    wrongs (context_of sigs) (filled f.Absent found e) ++ need (at_of e) typ (type_of (context_of sigs) (filled f.Absent found e))

abbrev pub is_some_wrong : List Diag → Bool
is_some_wrong [] = false
is_some_wrong (d ∷ more) = true

-- a value is a number or a truth value; as an operand the latter is 1 or 0
abbrev pub number : Const → Option ℤ
number (k.Int v) = Some v
number (k.Bool b) = Some (number_of b)
number k.Cycle = None
number k.Overflow = None
number k.DivZero = None
number k.Bad = None

abbrev pub const_of : Typ → Outcome → Const
const_of t.Unit (Ok v) = k.Bad
const_of t.Int (Ok v) = k.Int v
const_of t.Bool (Ok v) = k.Bool (not (is_zero v))
const_of typ (Err Overflow) = k.Overflow
const_of typ (Err DivZero) = k.DivZero
const_of typ (Err NoValue) = k.Bad

-- the value of a constant, where these are the values of what its paths lead to: Bad where its expression has a fault of
-- its own, or some path has no value
abbrev pub worth : List (Place × Sig) → Definition path.Path → List Found → List (Option ℤ) → Const
worth sigs (ConstItem typ e) found given =
    if is_some_wrong (const_wrongs sigs typ e found) || list_any is_none given then k.Bad else const_of typ (value (filled None given e))
worth sigs (Func inlined params gives stmts tail) found given = k.Bad

-- the values of what paths lead to, where v has the values of the constants by their positions
abbrev pub given_by : (ℕ → Option ℤ) → List Name → List Found → List (Option ℤ)
given_by v ns found = map (λ (x : Found). option_and_then v (named ns x)) found

abbrev pub worth_by : (ℕ → Option ℤ) → List Entry → Entry → Const
worth_by v known e = worth (sigs_of known) (definition e.1.body) e.2 (given_by v (names known) e.2)

-- ---- The value of each.

-- the value by recursion with a bound: at the bound there is none
abbrev pub value_at : List Entry → ℕ → ℕ → Const
value_at known zero i = k.Bad
value_at known (suc n) i = option_map_or (worth_by (λ j. number (value_at known n j)) known) (slice_get known i) k.Bad

-- Cycle where it reaches itself; else its value, for which as many steps as there are constants are enough.
pub record IsValue (known : List Entry) (i : ℕ) (c : Const) : Type 0 where
  pub cycle : IsInCycle known i → c ≡ k.Cycle
  pub value : ¬ IsInCycle known i → c ≡ value_at known (length known) i

pub record AreValues (known : List Entry) (cs : List Const) : Type 0 where
  pub all : length cs ≡ length known
  pub each : (i : ℕ) (c : Const) → slice_get cs i ≡ Some c → IsValue known i c

-- the value of the constant at a place, which is Bad where there is none
pub record IsValueAt (known : List Entry) (at : Place) (c : Const) : Type 0 where
  pub value : (i : ℕ) → place_from (place_name at) 0 (names known) ≡ Some i → IsValue known i c
  pub unknown : place_from (place_name at) 0 (names known) ≡ None → c ≡ k.Bad
