-- What a session has loaded, as its own steps tell it.
use Rattle.std.specs.Prelude.{◌≡◌, ◌≢◌, ◌⊎◌, ℕ, List, [], ◌∷◌, ◌++◌, reverse, Option, Some, None}
use Rattle.std.specs.Map.{keys_of}
use Rattle.std.specs.Option.{option_map}
use Rattle.inc_base.specs.declared.job.Job.{Job}
use Rattle.inc_fs.specs.Lists.{IsIn}
use Rattle.inc_fs.specs.State.{State, Text, file_at}
use Rattle.inc_fs.specs.declared.op.Op.{Op}
use Rattle.inc_fs.specs.declared.op.Op.TheVariants.{ListDir, Link, Close}
use Rattle.inc_fs.specs.declared.op.Reply.{Reply}
use Rattle.inc_fs.specs.declared.op.Reply.TheVariants.{Names, Done}
use Rattle.inc_names.specs.declared.entry.Entry.{Entry}
use Rattle.inc_names.specs.declared.session.SessionName.{SessionName}
use Rattle.inc_names.specs.Entries.{final_text, IsSessionName}
use Rattle.inc_proto.specs.declared.event.Event.{Event}
use Rattle.inc_proto.specs.declared.event.Event.TheVariants.{Did}
use Rattle.inc_proto.specs.declared.own.Known.{Known}
use Rattle.inc_proto.specs.Events.{Steps, own_steps, job_of}
use Rattle.inc_proto.specs.Files.{Files, IsSet}
use Rattle.inc_proto.specs.Finals.{Publication, published}
use Rattle.inc_proto.specs.Leads.{LeadsTo}
use Rattle.inc_proto.specs.Permits.{HoldsOpened, HasDir, IsHash}
use Rattle.inc_proto.specs.Views.{IsDone}
use Rattle.inc_laws.specs.Newest.{final_of, entry_by}

-- ---- Whole loads.

-- the step links this file out of that directory
abbrev pub IsLink : Text → Text → Text → Op × Reply → Type 0
IsLink krate from file (Link k f to x, Done) = (k ≡ krate) × (f ≡ from) × (x ≡ file)
IsLink krate from file step = ⊥

-- the coming steps, in their order, link the file before they close the handle
abbrev pub LinksHeld : Text → Text → Text → ℕ → Steps → Type 0
LinksHeld krate from file h [] = ⊥
LinksHeld krate from file h (step ∷ coming) = IsLink krate from file step ⊎ ((¬ IsDone (Close h) step) × LinksHeld krate from file h coming)

-- A whole load of n's finalised directory begins with this step, after those before it, the newest first: it lists some
-- names there, while the session holds n by a handle that it opened; and each of them the coming steps, in their order,
-- link before they close that handle.
pub record BeginsLoad (krate : Text) (n : SessionName) (hash : ℕ) (step : Op × Reply) (before coming : Steps) : Type 0 where
  pub named : IsSessionName n × IsHash hash
  pub names : List Text
  pub lists : step ≡ (ListDir krate (final_text n hash), Names names)
  pub some : names ≢ []
  pub handle : ℕ
  pub after : Steps
  pub holds : HoldsOpened krate n before handle after
  pub linked : (file : Text) → IsIn names file → LinksHeld krate (final_text n hash) file handle coming

-- Of these steps, the newest first, which others followed, the latest with which a whole load begins is of this directory;
-- none where there is none.
abbrev pub IsLatestLoad : Text → Steps → Steps → Option (SessionName × ℕ) → Type 0
IsLatestLoad krate [] coming found = found ≡ None
IsLatestLoad krate (step ∷ before) coming found =
    ((n : SessionName) × (hash : ℕ) × BeginsLoad krate n hash step before coming × (found ≡ Some (n, hash)))
    ⊎ (((n : SessionName) (hash : ℕ) → ¬ BeginsLoad krate n hash step before coming) × IsLatestLoad krate before (step ∷ coming) found)

-- What the session has loaded: the directory of its latest whole load.
pub record IsLoaded (who : ℕ) (events : List Event) (found : Option Entry) : Type 0 where
  pub job : Job
  pub its : job_of who events ≡ Some job
  pub load : Option (SessionName × ℕ)
  pub latest : IsLatestLoad job.krate (own_steps who events) [] load
  pub is : found ≡ option_map entry_by load

-- One of its own steps begins a whole load of that directory, which listed these names.
pub record HasLoad (krate : Text) (n : SessionName) (hash : ℕ) (names : List Text) (steps : Steps) : Type 0 where
  pub later : Steps
  pub step : Op × Reply
  pub before : Steps
  pub is : steps ≡ later ++ step ∷ before
  pub begins : BeginsLoad krate n hash step before (reverse later)
  pub listed : begins.names ≡ names

-- ---- What was linked.

-- the session linked the file out of that directory into its own, which by this had it with these bytes
pub record WasGiven (events : List Event) (who : ℕ) (krate from file bytes : Text) : Type 0 where
  pub later : List Event
  pub earlier : List Event
  pub to : Text
  pub is : events ≡ later ++ Did who (Link krate from to file) Done ∷ earlier
  pub files : List (Text × Known)
  pub own : HasDir (own_steps who earlier) krate to files
  pub has : (G : State) → LeadsTo (Did who (Link krate from to file) Done ∷ earlier) G → option_map (λ found. found.1.bytes) (file_at G krate to file) ≡ Some bytes

-- What the session linked of n's finalised directory is the file set of a job that was published under this name: the
-- names that it listed are those of the set, and its directory was given each of them, with its bytes.
pub record GaveSet (files : Files) (events : List Event) (who : ℕ) (krate : Text) (n : SessionName) (hash : ℕ) (names : List Text) : Type 0 where
  pub made : Publication
  pub within : IsIn (published events) made
  pub of_crate : made.job.krate ≡ krate
  pub entry : final_of made ≡ entry_by (n, hash)
  pub set : List (Text × Text)
  pub of_job : IsSet files made.job set
  pub listed : names ≡ keys_of set
  pub given : (file bytes : Text) → IsIn set (file, bytes) → WasGiven events who krate (final_text n hash) file bytes

-- The session has loaded that directory whole, and it gave it the file set of a published job of the session's crate.
pub record IsWholeSet (files : Files) (events : List Event) (who : ℕ) (n : SessionName) (hash : ℕ) : Type 0 where
  pub job : Job
  pub its : job_of who events ≡ Some job
  pub names : List Text
  pub load : HasLoad job.krate n hash names (own_steps who events)
  pub gave : GaveSet files events who job.krate n hash names
