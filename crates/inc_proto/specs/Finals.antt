-- What a history has published.
use Rattle.std.specs.Prelude.{◌≡◌, ◌++◌, ℕ, Bool, false, if◌then◌else◌, List, [], ◌∷◌, Option, Some, None}
use Rattle.std.specs.Map.{keys_of}
use Rattle.std.specs.Option.{option_map}
use Rattle.std.specs.Ordering.{match_ordering}
use Rattle.inc_base.specs.declared.job.Job.{Job}
use Rattle.inc_fs.specs.State.{State, folder_at, file_at}
use Rattle.inc_fs.specs.Lists.{IsIn}
use Rattle.inc_fs.specs.Paths.{Text}
use Rattle.inc_fs.specs.declared.op.Op.{Op}
use Rattle.inc_fs.specs.declared.op.Op.TheVariants.{Rename}
use Rattle.inc_fs.specs.declared.op.Reply.{Reply}
use Rattle.inc_fs.specs.declared.op.Reply.TheVariants.{Done}
use Rattle.inc_names.specs.declared.session.SessionName.{SessionName}
use Rattle.inc_names.specs.Entries.{final_text, name_order}
use Rattle.inc_wire.specs.Forms.{job_hash_of}
use Rattle.inc_proto.specs.declared.event.Event.{Event}
use Rattle.inc_proto.specs.declared.event.Event.TheVariants.{Begin, Did, Left}
use Rattle.inc_proto.specs.Events.{own_steps, job_of}
use Rattle.inc_proto.specs.Views.{same_text, is_here, name, Dir, dir}
use Rattle.inc_proto.specs.Views.Dir.{Stands}

-- ---- What was published.

-- a session of this name published the files of this job
pub record Publication : Type 0 where
  pub name : SessionName
  pub job : Job

-- the entry under which they were published
abbrev pub entry_of : Publication → Text
entry_of made = final_text made.name (job_hash_of made.job)

-- this step publishes: it renames the directory of the session's own that stands there
abbrev pub is_publishing : Op × Reply → Dir → Bool
is_publishing (Rename krate from to, Done) (Stands k e files) = is_here k e krate from
is_publishing step its = false

abbrev pub publication : Option SessionName → Option Job → List Publication
publication None job = []
publication (Some n) None = []
publication (Some n) (Some job) = record { name = n; job = job } ∷ []

-- what the publishing renames answered `Done` made, the latest first
abbrev pub published : List Event → List Publication
published [] = []
published (Begin number job ∷ events) = published events
published (Did number op reply ∷ events) =
    if is_publishing (op, reply) (dir (own_steps number events))
    then publication (name (own_steps number events)) (job_of number events) ++ published events
    else published events
published (Left number op cut ∷ events) = published events

-- of two of one crate the one with the newer name
abbrev pub newer_of : Publication → Option Publication → Publication
newer_of made None = made
newer_of made (Some other) = match_ordering (name_order made.name other.name) other made made

-- of these, the one of that crate with the newest name, whether it still stands or not
abbrev pub newest_among : Text → List Publication → Option Publication
newest_among krate [] = None
newest_among krate (made ∷ rest) = if same_text made.job.krate krate then Some (newer_of made (newest_among krate rest)) else newest_among krate rest

-- the newest that a history has of a crate
abbrev pub newest : List Event → Text → Option Publication
newest events krate = newest_among krate (published events)

-- In this state the directory has exactly the names of the set, each with its bytes.
pub record IsWhole (F : State) (krate entry : Text) (set : List (Text × Text)) : Type 0 where
  pub folder : List (Text × ℕ)
  pub stands : folder_at F krate entry ≡ Some folder
  pub names : keys_of folder ≡ keys_of set
  pub bytes : (file bytes : Text) → IsIn set (file, bytes) → option_map (λ found. found.1.bytes) (file_at F krate entry file) ≡ Some bytes
