-- A `Look` after which no directory of a name is left.
use Rattle.std.specs.Prelude.{◌≡◌, ◌∷◌, ◌++◌}
use Rattle.inc_fs.specs.Lists.{IsIn}
use Rattle.inc_fs.specs.Paths.{Text}
use Rattle.inc_fs.specs.declared.op.Op.{Op}
use Rattle.inc_fs.specs.declared.op.Op.TheVariants.{Look}
use Rattle.inc_fs.specs.declared.op.Reply.{Reply}
use Rattle.inc_fs.specs.declared.op.Reply.TheVariants.{Names}
use Rattle.inc_names.specs.declared.session.SessionName.{SessionName}
use Rattle.inc_names.specs.Entries.{lock_text}
use Rattle.inc_proto.specs.Events.{Steps}
use Rattle.inc_proto.specs.Views.{left_after}
use Rattle.inc_proto.specs.Permits.{HasNoDir}

-- the step is a `Look` that lists n's lock file and, as its own steps since have changed it, no directory of n
abbrev pub IsClearLook : Text → SessionName → Op × Reply → Steps → Type 0
IsClearLook krate n (Look k, Names names) later = (k ≡ krate) × IsIn names (lock_text n) × HasNoDir n (left_after krate later names)
IsClearLook krate n step later = ⊥

-- one of these steps is such a `Look`, by the steps after it
abbrev pub HasClearLook : Text → SessionName → Steps → Type 0
HasClearLook krate n steps =
    (later : Steps) × (earlier : Steps) × (step : Op × Reply) × (steps ≡ later ++ step ∷ earlier) × IsClearLook krate n step later
