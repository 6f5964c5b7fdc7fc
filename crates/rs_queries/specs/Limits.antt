-- The limits of a text (docs/LANGUAGE.md, "Limits").
use Rattle.std.specs.Prelude.{ℕ, ◌||◌, Bool, not, nat_lt, List, length, Option, Some, None, Result, Ok, Err, if◌then◌else◌}
use Rattle.std.specs.List.{list_any}
use Rattle.rs_tree.specs.declared.tree.Crate.{Crate}
use Rattle.rs_tree.specs.declared.tree.Placed.{Placed}
use Rattle.rs_text.specs.Text.{text_of}
use Rattle.rs_text.specs.declared.fault.TextFault.{TextFault}
use Rattle.rs_lower.specs.Lowered.{is_within_limits}
use Rattle.rs_queries.specs.declared.limit.Limit.{Limit}
use Rattle.rs_queries.specs.declared.limit.Limit.TheVariants.{Text, Modules, Items}

-- an item is a function of more slots or labels than one may have
abbrev pub is_past : Placed → Bool
is_past p = not (is_within_limits p.item)

-- more than 4,096 items, or one past its own limits
abbrev pub has_many : List Placed → Bool
has_many items = nat_lt 4096 (length items) || list_any is_past items

-- more than 256 modules; else too many items
abbrev pub tree_limit : Crate → Option Limit
tree_limit krate = if nat_lt 256 (length krate.modules) then Some Modules else if has_many krate.items then Some Items else None

-- a text with a fault has no modules and items to count
abbrev pub limit_by : Result Crate TextFault → Option Limit
limit_by (Ok krate) = tree_limit krate
limit_by (Err fault) = None

-- the first limit that a text passes: more than 1,048,576 bytes, else a limit of its tree
abbrev pub over_limit : List ℕ → Option Limit
over_limit bytes = if nat_lt 1048576 (length bytes) then Some Text else limit_by (text_of bytes)
