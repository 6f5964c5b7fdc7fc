-- The ten invariants of a directory: what holds of every history that is legal and of each state that it leads to. What
-- makes them inductive stands beside them in `Laws.antt`.
use Rattle.std.specs.Prelude.{◌≡◌, ◌⊎◌, ℕ, List, [], ◌∷◌, Some, true, IsSome}
use Rattle.std.specs.Map.{lookup}
use Rattle.std.specs.BTreeMap.{is_at}
use Rattle.inc_fs.specs.Lists.{IsIn, AreDistinct}
use Rattle.inc_fs.specs.declared.op.Op.{Op}
use Rattle.inc_fs.specs.declared.op.Op.TheVariants.{Look, ListDir, Rename}
use Rattle.inc_fs.specs.declared.op.Reply.{Reply}
use Rattle.inc_fs.specs.declared.op.Reply.TheVariants.{Names, Done}
use Rattle.inc_fs.specs.Readings.{bytes_of, locks_of}
use Rattle.inc_fs.specs.State.{State, Text, text_cmp, folder_at, lock_at, opened_at, named}
use Rattle.inc_names.specs.declared.session.SessionName.{SessionName}
use Rattle.inc_names.specs.Entries.{lock_text, working_text, final_text}
use Rattle.inc_proto.specs.declared.event.Event.{Event}
use Rattle.inc_proto.specs.declared.own.Known.{Known}
use Rattle.inc_proto.specs.declared.own.OwnLock.TheVariants.{Locked}
use Rattle.inc_proto.specs.Events.{Steps, own_steps}
use Rattle.inc_proto.specs.Files.{Files}
use Rattle.inc_proto.specs.Permits.{IsOn}
use Rattle.inc_proto.specs.Views.{opening, mode, since}
use Rattle.inc_proto.specs.Views.Dir.{Stands}
use Rattle.inc_laws.specs.Parts.{DrawnOnce, OwnNames, LockFilesOnce, HandlesAgree, OwnLocksHeld, FilesPrivate, NamesSole, IsSource, OwnDirKnown, IsPublished, IsWhose, FinalsComplete, PublishedStands, LookedPublished}
use Rattle.inc_laws.specs.Readings.{running, names_of, jobs_of, runs_of, dirs_of, sites_of, owns_of, opens_of, modes_of, makers_of}
use Rattle.inc_laws.specs.Readings.Maker.{ByCreate}
use Rattle.inc_laws.specs.Readings.Site.{At, Out}

-- Names are drawn and made once. Drawn pairs differ, and no two sessions drew the same. The lock file of a name was made
-- at most once, by the session that drew the name; a session's directory, and what it published, bears its latest name;
-- and a name has one directory at most.
pub record NamesOnce (events : List Event) (F : State) : Type 0 where
  pub differ : AreDistinct F.drawn
  pub drawn : DrawnOnce (names_of events) F.drawn
  pub lock_files : LockFilesOnce (λ who. own_steps who events) (names_of events) (makers_of events) (lock_at F)
  pub own_names : OwnNames (jobs_of events) (names_of events) (sites_of events)
  pub one_directory : (krate : Text) (n : SessionName) (hash : ℕ) (x y : List (Text × ℕ)) → folder_at F krate (working_text n) ≡ Some x → folder_at F krate (final_text n hash) ≡ Some y → ⊥

-- Handles and locks are as the views say. A handle opened for n leads to the one file made as n's lock file; what a
-- running session's view holds is what the state's locks say; an ended session has no handle. A session's own lock is on
-- the lock file that it made for its latest name.
pub record LocksAgree (events : List Event) (F : State) : Type 0 where
  pub handles : HandlesAgree (runs_of events) (opens_of events) (modes_of events) (makers_of events) (opened_at F) (locks_of F) F.given
  pub own_locks : OwnLocksHeld (runs_of events) (jobs_of events) (names_of events) (opens_of events) (modes_of events) (owns_of events)

-- A working directory is as its owner knows it. The directory of a running session that has its own lock and hasn't
-- published has exactly the names that its view says, and the known bytes.
pub record OwnerKnows (files : Files) (events : List Event) (F : State) : Type 0 where
  pub knows : OwnDirKnown files (runs_of events) (jobs_of events) (owns_of events) (sites_of events) (dirs_of events) (makers_of events) (folder_at F) (bytes_of F)

-- a running session holds n, in whatever mode, by this handle
pub record Holds (events : List Event) (who h : ℕ) (krate : Text) (n : SessionName) : Type 0 where
  pub runs : IsSome (running who events)
  pub on : IsOn krate (lock_text n) (opening h (own_steps who events))
  pub held : IsSome (mode h (own_steps who events))

-- a running session holds n exclusively by this handle
pub record HoldsExclusively (events : List Event) (who h : ℕ) (krate : Text) (n : SessionName) : Type 0 where
  pub runs : IsSome (running who events)
  pub on : IsOn krate (lock_text n) (opening h (own_steps who events))
  pub held : mode h (own_steps who events) ≡ Some true

-- Others change a directory only while holding it exclusively: each directory is a session's, working, published or renamed
-- back, and a session that holds n exclusively is the only one that holds n, by one handle. The law on steps is `ChangesHeld`.
pub record HeldExclusively (events : List Event) (F : State) : Type 0 where
  pub whose : (krate entry : Text) (folder : List (Text × ℕ)) → folder_at F krate entry ≡ Some folder → IsWhose (sites_of events) krate entry
  pub alone : (v w h g : ℕ) (krate : Text) (n : SessionName) → HoldsExclusively events v h krate n → Holds events w g krate n → (v ≡ w) × (h ≡ g)

-- why a session may change the directory at this path: it is its own, before the step or after it, or was just published,
-- or the session holds the name that the directory bears exclusively
abbrev pub MayChange : List Event → List Event → ℕ → Text → Text → Type 0
MayChange before after who krate entry =
    (sites_of before who ≡ At krate entry) ⊎ (sites_of after who ≡ At krate entry) ⊎ (sites_of after who ≡ Out krate entry)
    ⊎ ((n : SessionName) × (h : ℕ) × HoldsExclusively before who h krate n × ((entry ≡ working_text n) ⊎ ((hash : ℕ) × (entry ≡ final_text n hash))))

-- by a step of this session, from F to G, each directory is as it was, or one that the session may change
pub record ChangesHeld (before after : List Event) (who : ℕ) (F G : State) : Type 0 where
  pub held : (krate entry : Text) → (folder_at G krate entry ≡ folder_at F krate entry) ⊎ MayChange before after who krate entry

-- Files of an unpublished session stay private: a name leads to a file whose creator has published, or whose directory this
-- is, and there it is the file's only name.
pub record UnpublishedPrivate (events : List Event) (F : State) : Type 0 where
  pub private : FilesPrivate (sites_of events) (makers_of events) (folder_at F)
  pub sole : NamesSole (sites_of events) (makers_of events) (folder_at F)

-- Published files never change: from F to G, a file whose creator has published by F keeps its bytes.
pub record PublishedFrozen (events : List Event) (F G : State) : Type 0 where
  pub frozen : (f v : ℕ) → makers_of events f ≡ Some (ByCreate v) → IsPublished (sites_of events) v → bytes_of G f ≡ bytes_of F f

-- A finalised directory is complete: it holds exactly the files of its job.
pub record FinalisedComplete (files : Files) (events : List Event) (F : State) : Type 0 where
  pub complete : FinalsComplete files (jobs_of events) (sites_of events) (folder_at F) (bytes_of F)

-- a `Look` lists that directory, or a `ListDir` of it was answered by names
abbrev pub IsShowing : Text → Text → Op × Reply → Type 0
IsShowing krate entry (Look k, Names names) = (k ≡ krate) × IsIn names entry
IsShowing krate entry (ListDir k e, Names names) = (k ≡ krate) × (e ≡ entry)
IsShowing krate entry step = ⊥

-- this step renamed that directory
abbrev pub IsAway : Text → Text → Op × Reply → Type 0
IsAway krate entry (Rename k from to, Done) = (k ≡ krate) × (from ≡ entry)
IsAway krate entry step = ⊥

-- by these own steps, the session listed that directory, and hasn't renamed it since
abbrev pub HasShown : Text → Text → Steps → Type 0
HasShown krate entry [] = ⊥
HasShown krate entry (step ∷ steps) = IsShowing krate entry step ⊎ ((¬ IsAway krate entry step) × HasShown krate entry steps)

-- A directory stands while it is held. While a session holds n and has listed n's finalised directory since, it stands,
-- unless that session renamed it.
pub record HeldStands (events : List Event) (F : State) : Type 0 where
  pub stands : (who h : ℕ) (krate : Text) (n : SessionName) (hash : ℕ) (after : Steps) → IsSome (running who events) → IsOn krate (lock_text n) (opening h (own_steps who events))
      → since h (own_steps who events) ≡ Some after → HasShown krate (final_text n hash) after → IsSome (folder_at F krate (final_text n hash))

-- Links lead to published files. What a session that has its own lock linked and hasn't unlinked is a file whose creator
-- has published; it has the bytes that the set of the entry's job has under this name.
pub record LinksPublished (files : Files) (events : List Event) (F : State) : Type 0 where
  pub linked : (who h : ℕ) (krate entry x from : Text) (names : List (Text × Known)) (known : Known) → IsSome (running who events) → owns_of events who ≡ Locked h
      → dirs_of events who ≡ Stands krate entry names → lookup (is_at (text_cmp x)) names ≡ Some known → known.linked ≡ Some from
      → (folder : List (Text × ℕ)) × (f : ℕ) × (folder_at F krate entry ≡ Some folder) × (named x folder ≡ Some f)
      × IsSource files (jobs_of events) (sites_of events) (makers_of events) (bytes_of F) who x f (Some from)

-- The newest published entry stands: each published entry stands, or a newer one of its crate was published. Each finalised
-- entry that a session's `Look` listed was published.
pub record NewestStands (events : List Event) (F : State) : Type 0 where
  pub stands : PublishedStands (sites_of events) (folder_at F)
  pub looked : LookedPublished (λ who. own_steps who events) (sites_of events)
