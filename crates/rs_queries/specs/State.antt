-- What the code has made ready of a tree.
use Rattle.std.specs.Prelude.{◌≡◌, ℕ, List, length, map, Some, None, if◌then◌else◌}
use Rattle.std.specs.List.{filter_map}
use Rattle.rs_tree.specs.declared.index.Index.{Index}
use Rattle.rs_tree.specs.declared.index.IndexItem.{IndexItem}
use Rattle.rs_tree.specs.declared.tree.Placed.{Placed}
use Rattle.rs_lines.specs.Lines.{has_error, in_order, printed_all}
use Rattle.rs_const.specs.Constants.{AreValues}
use Rattle.rs_units.specs.Units.{units_of}
use Rattle.rs_queries.specs.declared.compiled.Compiled.{Compiled}
use Rattle.rs_queries.specs.declared.known.Known.{Known}
use Rattle.rs_queries.specs.declared.checked.Checked.{Checked}
use Rattle.rs_queries.specs.Built.{built_by}
use Rattle.rs_queries.specs.Diagnosed.{all_lines, calls_of, own_lines}
use Rattle.rs_queries.specs.Known.{answered, entry_of, sig_of}

pub record IsKnown (items : List IndexItem) (placed : List Placed) (k : Known) : Type 0 where
  pub answers : k.answered.items ≡ map (answered items) placed
  pub sigs : k.sigs ≡ map (sig_of items) placed
  pub constants : k.constants ≡ filter_map entry_of (map (answered items) placed)
  pub values : AreValues k.constants k.values.items

-- the lines of a tree of which this is known, and what its items call where no line is an error's
pub record IsChecked (items : List IndexItem) (k : Known) (c : Checked) : Type 0 where
  pub lines : c.lines.lines ≡ in_order (all_lines items k.sigs k.constants k.values.items k.answered.items)
  pub calls : c.calls ≡ (if has_error (own_lines items k.sigs k.constants k.values.items k.answered.items) then None else Some (map (calls_of items) k.answered.items))

-- what is printed says the lines of items of which this is known
pub record SaysItems (items : List IndexItem) (placed : List Placed) (out : List ℕ) : Type 0 where
  pub known : Known
  pub are : IsKnown items placed known
  pub says : out ≡ printed_all (in_order (all_lines items known.sigs known.constants known.values.items known.answered.items))

-- what is compiled of an index's items, of which this is known
pub record IsItemsCompiled (index : Index) (placed : List Placed) (level : ℕ) (c : Compiled) : Type 0 where
  pub known : Known
  pub are : IsKnown index.items placed known
  pub says : c.diags ≡ printed_all (in_order (all_lines index.items known.sigs known.constants known.values.items known.answered.items))
  pub units : c.units ≡ length (units_of index)
  pub built : c.built ≡ built_by index known.sigs known.constants known.values.items known.answered.items level
