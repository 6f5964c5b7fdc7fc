-- What the paths of a function mean.
use Rattle.std.specs.Prelude.{ℕ, ◌==◌, Bool, true, false, List, [], map, Option, Some, None, slice_get, option_and_then}
use Rattle.std.specs.Option.{option_map}
use Rattle.rs_lookup.specs.Places.{Name, place_name, place_from}
use Rattle.rs_tree.specs.declared.place.Place.{Place}
use Rattle.rs_tree.specs.declared.answers.Found.{Found}
use Rattle.rs_tree.specs.declared.answers.Found.TheVariants as f
use Rattle.rs_tree.specs.declared.answers.Const.{Const}
use Rattle.rs_tree.specs.declared.answers.Const.TheVariants as c
use Rattle.rs_tree.specs.declared.index.Sig.{Sig}
use Rattle.rs_tree.specs.declared.tree.Path as path
use Rattle.rs_tree.specs.declared.tree.Typ.{Typ}
use Rattle.rs_tree.specs.declared.tree.Typ.TheVariants as t
use Rattle.rs_types.specs.Types.{sig_at}

-- a path, and what it leads to
abbrev pub Leaf : Type 0
Leaf = path.Path × Found

-- the signatures of items, and the values of constants
pub record Ready : Type 0 where
  pub sigs : List (Place × Sig)
  pub consts : List (Place × Const)

-- the signatures and the values of the items that paths lead to, whether the function gives a value, and whether its level folds
pub record Meanings : Type 0 where
  pub sigs : List (Place × Sig)
  pub consts : List (Place × Const)
  pub gives : Bool
  pub folds : Bool

abbrev pub const_places : List (Place × Const) → List Name
const_places entries = map (λ (e : Place × Const). place_name e.0) entries

-- the value of a constant: the first entry of its place counts
abbrev pub const_at : Name → List (Place × Const) → Option Const
const_at q entries = option_map (λ (e : Place × Const). e.1) (option_and_then (slice_get entries) (place_from q 0 (const_places entries)))

abbrev pub is_truth_type : Typ → Bool
is_truth_type t.Unit = false
is_truth_type t.Int = false
is_truth_type t.Bool = true

abbrev pub is_value_type : Typ → Bool
is_value_type t.Unit = false
is_value_type t.Int = true
is_value_type t.Bool = true

-- where a call goes; a path that leads to no item has its name alone
abbrev pub callee : path.Path → Found → Place
callee p f.Local = record { «module» = []; name = p.name }
callee p (f.Item place) = place
callee p f.Private = record { «module» = []; name = p.name }
callee p f.Absent = record { «module» = []; name = p.name }

-- the signature of what a path leads to
abbrev pub sig_of : Meanings → Found → Option Sig
sig_of w f.Local = None
sig_of w (f.Item place) = sig_at (place_name place) w.sigs
sig_of w f.Private = None
sig_of w f.Absent = None

abbrev pub has_kind : ℕ → Option Sig → Bool
has_kind kind None = false
has_kind kind (Some sig) = sig.kind == kind

abbrev pub gives_truth : Option Sig → Bool
gives_truth None = false
gives_truth (Some sig) = is_truth_type sig.gives

abbrev pub gives_value : Option Sig → Bool
gives_value None = false
gives_value (Some sig) = is_value_type sig.gives

abbrev pub is_truth_const : Option Const → Bool
is_truth_const None = false
is_truth_const (Some (c.Int v)) = false
is_truth_const (Some (c.Bool b)) = true
is_truth_const (Some c.Cycle) = false
is_truth_const (Some c.Overflow) = false
is_truth_const (Some c.DivZero) = false
is_truth_const (Some c.Bad) = false
