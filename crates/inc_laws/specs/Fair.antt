-- What a session may expect of the replies to its own steps, whatever others do between them.
use Rattle.std.specs.Prelude.{◌≡◌, ◌++◌, ℕ, List, ◌∷◌, Some}
use Rattle.std.specs.Map.{lookup, keys_of}
use Rattle.std.specs.BTreeMap.{is_at}
use Rattle.inc_base.specs.declared.job.Job.{Job}
use Rattle.inc_fs.specs.Paths.{Text, text_cmp}
use Rattle.inc_fs.specs.declared.op.Op.TheVariants.{Read}
use Rattle.inc_fs.specs.declared.op.Reply.TheVariants.{Bytes}
use Rattle.inc_names.specs.declared.session.SessionName.{SessionName}
use Rattle.inc_names.specs.Entries.{final_text}
use Rattle.inc_wire.specs.Forms.{job_hash_of}
use Rattle.inc_proto.specs.declared.event.Event.{Event}
use Rattle.inc_proto.specs.declared.own.Known.{Known}
use Rattle.inc_proto.specs.declared.own.OwnLock.TheVariants.{Locked}
use Rattle.inc_proto.specs.Events.{Steps, own_steps}
use Rattle.inc_proto.specs.Files.{Files, IsSet}
use Rattle.inc_proto.specs.Legal.{IsLegal}
use Rattle.inc_proto.specs.Permits.{HasDir}
use Rattle.inc_proto.specs.Views.{own}
use Rattle.inc_laws.specs.Readings.{running}

-- In some legal history these are the own steps of a running session with this job.
pub record CanBe (files : Files) (job : Job) (steps : Steps) : Type 0 where
  pub events : List Event
  pub legal : IsLegal files events
  pub who : ℕ
  pub runs : running who events ≡ Some job
  pub is : own_steps who events ≡ steps

-- By these steps, what was linked out of n's finalised directory, whose listing named these, is the file set of one job of
-- the same crate: the names are those of the set, and whatever is read of what was linked has the set's bytes.
pub record LoadsSet (files : Files) (krate : Text) (n : SessionName) (hash : ℕ) (names : List Text) (steps : Steps) : Type 0 where
  pub made : Job
  pub of_crate : made.krate ≡ krate
  pub hashed : job_hash_of made ≡ hash
  pub set : List (Text × Text)
  pub of_job : IsSet files made set
  pub listed : names ≡ keys_of set
  pub read : (later earlier : Steps) (k entry file bytes : Text) (known : List (Text × Known)) (its : Known) (h : ℕ) → steps ≡ later ++ (Read k entry file, Bytes bytes) ∷ earlier
      → own earlier ≡ Locked h → HasDir earlier k entry known → lookup (is_at (text_cmp file)) known ≡ Some its → its.linked ≡ Some (final_text n hash) → lookup (is_at (text_cmp file)) set ≡ Some bytes
