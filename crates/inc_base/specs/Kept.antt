-- Where the bytes of a text stand.
use Rattle.std.specs.Prelude.{ℕ, List}
use Rattle.std.specs.Arc.{arc_value}
use Rattle.inc_base.specs.declared.bytes.Form.{Form}
use Rattle.inc_base.specs.declared.bytes.Form.TheVariants.{Placed, Shared}

-- the bytes, which stand in the value itself or in a block
abbrev pub kept : Form → List ℕ
kept (Placed bytes) = bytes
kept (Shared block) = arc_value block
