use Rattle.std.proofs.Common.{◌≡◌, map, take}
use Rattle.rs_queries.specs.Built.{form_of}
use Rattle.rs_queries.proofs.forms.forms_by.Given as goal

abbrev pub invariant-loop-one : goal.invariant-loop-one
invariant-loop-one l = l.forms ≡ map (form_of l.level l.lowering.sigs l.lowering.consts) (take l.one-index l.answered)
