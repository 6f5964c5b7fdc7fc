-- What contracts see of a view, and what it keeps beside the steps.
use Rattle.std.specs.Prelude.{◌≡◌, ℕ, ◌∷◌, Option, IfSome}
use Rattle.inc_base.specs.declared.job.Job.{Job}
use Rattle.inc_fs.specs.declared.op.Op.TheVariants.{Draw}
use Rattle.inc_fs.specs.declared.op.Reply.TheVariants.{Fault}
use Rattle.inc_names.specs.declared.session.SessionName.{SessionName}
use Rattle.inc_proto.specs.declared.own.OwnLock.{OwnLock}
use Rattle.inc_proto.specs.declared.index.Index.{Index}
use Rattle.inc_proto.specs.Events.{Steps}
use Rattle.inc_proto.specs.Indexes.{Indexes}
use Rattle.inc_proto.specs.Views.{Dir, name, own, dir}

-- a session's number, its job, and its own steps, the newest first
pub record Seen : Type 0 where
  pub number : ℕ
  pub job : Job
  pub steps : Steps

-- What is kept is what the steps say: the name, the own lock, and the directory and the index, where they are kept.
pub record AreOf (steps : Steps) (drawn : Option SessionName) (lock : OwnLock) (kept : Option Dir) (index : Option Index) : Type 0 where
  pub name_is : drawn ≡ name steps
  pub own_is : lock ≡ own steps
  pub dir_is : IfSome kept (λ d. d ≡ dir steps)
  pub index_is : IfSome index (Indexes steps)

-- the newest step is the place of one that is about to be made, and says nothing
abbrev pub HasPlace : Steps → Type 0
HasPlace steps = (rest : Steps) × (steps ≡ (Draw, Fault) ∷ rest)
