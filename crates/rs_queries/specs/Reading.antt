-- The reading of a text (docs/LANGUAGE.md, "Faults").
use Rattle.std.specs.Prelude.{◌≡◌, ℕ, List, Result, Ok, Err}
use Rattle.rs_tree.specs.declared.tree.Crate.{Crate}
use Rattle.rs_text.specs.Text.{text_of}
use Rattle.rs_text.specs.declared.fault.TextFault.{TextFault}
use Rattle.rs_queries.specs.declared.reading.Reading.{Reading}
use Rattle.rs_queries.specs.declared.reading.Reading.TheVariants.{Tree, Fault}

-- what was read: a tree, or a fault
abbrev pub what_was_read : Reading → Result Crate TextFault
what_was_read (Tree krate) = Ok krate
what_was_read (Fault fault) = Err fault

-- the tree of a text, or the first of its faults
abbrev pub IsReading : List ℕ → Reading → Type 0
IsReading bytes reading = text_of bytes ≡ what_was_read reading
