-- A session that may make a step may leave.
use Rattle.std.specs.Prelude.{ℕ, List, Option, Some, None, IsSome}
use Rattle.inc_fs.specs.declared.op.Op.{Op}
use Rattle.inc_proto.specs.declared.event.Event.{Event}
use Rattle.inc_proto.specs.Files.{Files}
use Rattle.inc_proto.specs.Legal.{Sight, view_of, MaySee, MayDo, MayLeave}

pub may_leave : (files : Files) (events : List Event) (who : ℕ) (op : Op) → MayDo files events who op → MayLeave files events who None
may_leave files events who op may = go (view_of who events) may
  where
    go : (v : Option Sight) → MaySee files v op → IsSome v
    go None may = absurd may
    go (Some sight) may = cc
