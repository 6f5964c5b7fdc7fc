use Rattle.std.proofs.Common.{◌≡◌, take, fold}
use Rattle.rs_lines.specs.Lines.{note}
use Rattle.rs_queries.specs.Diagnosed.{all_item_lines}
use Rattle.rs_queries.proofs.own.tell_items.Given as goal

abbrev pub invariant-loop-one : goal.invariant-loop-one
invariant-loop-one l = l.lines ≡ fold note l.initial.lines (all_item_lines l.names l.known.sigs l.known.constants l.known.values.items (take l.one-index l.one-items))
