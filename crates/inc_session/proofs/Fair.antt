-- What legal histories give of a session's own replies, as its permissions need it.
use Rattle.std.specs.Prelude.{◌≡◌, ℕ, [], ◌∷◌}
use Rattle.inc_base.specs.declared.job.Job.{Job}
use Rattle.inc_fs.specs.Lists.{IsIn}
use Rattle.inc_fs.specs.Paths.{Text}
use Rattle.inc_fs.specs.declared.op.Op.TheVariants.{Draw, RemoveDir}
use Rattle.inc_fs.specs.declared.op.Reply.TheVariants.{Drawn, Missing, NotEmpty}
use Rattle.inc_laws.specs.Fair.{CanBe}
use Rattle.inc_laws.specs.Readings.{draws}
use Rattle.inc_proto.specs.Events.{Steps}
use Rattle.inc_proto.specs.Permits.{HasDir}
use Rattle.inc_proto.specs.Views.{own}
use Rattle.inc_proto.specs.declared.own.OwnLock.TheVariants.{Locked}
use Rattle.inc_session.specs.Saves.{saved_files}

pub record IsFair (job : Job) : Type 0 where
  -- a name is drawn once
  pub fresh : (moment random : ℕ) (steps : Steps) → CanBe saved_files job ((Draw, Drawn moment random) ∷ steps) → ¬ IsIn (draws steps) (record { moment = moment; random = random })
  -- under its own lock its directory without files can be removed
  pub there : (krate entry : Text) (h : ℕ) (steps : Steps) → own steps ≡ Locked h → HasDir steps krate entry [] → ¬ CanBe saved_files job ((RemoveDir krate entry, Missing) ∷ steps)
  pub empty : (krate entry : Text) (h : ℕ) (steps : Steps) → own steps ≡ Locked h → HasDir steps krate entry [] → ¬ CanBe saved_files job ((RemoveDir krate entry, NotEmpty) ∷ steps)
