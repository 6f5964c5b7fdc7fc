-- What is known of a tree's items (docs/LANGUAGE.md, "Names", "Constants").
use Rattle.std.specs.Prelude.{ℕ, List, [], map, Option, Some, None, slice_get, option_and_then}
use Rattle.std.specs.List.{filter_map}
use Rattle.std.specs.Option.{option_map_or}
use Rattle.rs_tree.specs.declared.place.Place.{Place}
use Rattle.rs_tree.specs.declared.answers.Const.{Const}
use Rattle.rs_tree.specs.declared.answers.Found.{Found}
use Rattle.rs_tree.specs.declared.index.IndexItem.{IndexItem}
use Rattle.rs_tree.specs.declared.index.Sig.{Sig}
use Rattle.rs_tree.specs.declared.tree.Crate.{Crate}
use Rattle.rs_tree.specs.declared.tree.Param.{Param}
use Rattle.rs_tree.specs.declared.tree.Path as path
use Rattle.rs_tree.specs.declared.tree.Placed.{Placed}
use Rattle.rs_tree.specs.declared.tree.Typ.{Typ}
use Rattle.rs_tree.specs.Plain.{Definition, Const as Constant, Func, definition, plain_crate}
use Rattle.rs_lookup.specs.Places.{place_name, place_from}
use Rattle.rs_names.specs.Indexed.{index_of}
use Rattle.rs_names.specs.Resolved.{answers_of, item_at}
use Rattle.rs_const.specs.Constants.{Entry, names}

abbrev pub items_of : Crate → List IndexItem
items_of krate = (index_of (plain_crate krate)).items

abbrev pub place_of : Placed → Place
place_of p = record { «module» = p.«module»; name = p.item.name }

-- an item, and what its paths lead to
abbrev pub Answered : Type 0
Answered = Placed × List Found

abbrev pub answered : List IndexItem → Placed → Answered
answered items p = (p, answers_of items p.«module» (definition p.item.body))

abbrev pub all_answered : Crate → List Answered
all_answered krate = map (answered (items_of krate)) krate.items

-- ---- What the uses of an item know of it.

-- its kind, as the index has it
abbrev pub kind_at : List IndexItem → Place → ℕ
kind_at items at = option_map_or (λ (x : IndexItem). x.kind) (item_at (place_name at) items) 0

abbrev pub typs_of : List Param → List Typ
typs_of params = map (λ (p : Param). p.typ) params

abbrev pub params_of : Definition path.Path → List Typ
params_of (Constant typ e) = []
params_of (Func inlined params gives stmts tail) = typs_of params

-- a constant's type, and what a function gives
abbrev pub gives_of : Definition path.Path → Typ
gives_of (Constant typ e) = typ
gives_of (Func inlined params gives stmts tail) = gives

abbrev pub sig_of : List IndexItem → Placed → Place × Sig
sig_of items p = (place_of p, record { kind = kind_at items (place_of p); public = p.item.public; params = params_of (definition p.item.body); gives = gives_of (definition p.item.body) })

abbrev pub sigs_of : Crate → List (Place × Sig)
sigs_of krate = map (sig_of (items_of krate)) krate.items

-- ---- Constants.

abbrev pub entry_by : Answered → Definition path.Path → Option Entry
entry_by a (Constant typ e) = Some (place_of a.0, a.0.item, a.1)
entry_by a (Func inlined params gives stmts tail) = None

-- a constant, as values are asked for it
abbrev pub entry_of : Answered → Option Entry
entry_of a = entry_by a (definition a.0.item.body)

abbrev pub constants_of : Crate → List Entry
constants_of krate = filter_map entry_of (all_answered krate)

-- the value of the constant at a place, where these are the values of the constants in their order
abbrev pub value_at : List Entry → List Const → Place → Option Const
value_at constants values at = option_and_then (slice_get values) (place_from (place_name at) 0 (names constants))
