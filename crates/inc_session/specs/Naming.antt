-- How a session comes by its name: it draws one, makes and locks its lock file, sees it listed, and makes its directory.
use Rattle.std.specs.Prelude.{◌≡◌, ℕ, zero, suc, Bool, true, if◌then◌else◌, List, nat_eq}
use Rattle.std.specs.List.{list_any}
use Rattle.std.specs.Cmp.Lexicographic.{pointwise}
use Rattle.inc_fs.specs.Paths.{Text}
use Rattle.inc_fs.specs.declared.op.Op.TheVariants.{Draw, MakeLock, TryLock, Look, MakeDir, Close}
use Rattle.inc_fs.specs.declared.op.Reply.{Reply}
use Rattle.inc_fs.specs.declared.op.Reply.TheVariants.{Drawn, Handle, Names, Done, Got, Exists, Fault}
use Rattle.inc_names.specs.declared.session.SessionName.{SessionName}
use Rattle.inc_names.specs.Entries.{lock_text, working_text}
use Rattle.inc_plan.specs.Plan.{Plan}
use Rattle.inc_plan.specs.Plan.Plan.{Give, Ask}
use Rattle.inc_session.specs.declared.naming.NamingEnd.{NamingEnd}
use Rattle.inc_session.specs.declared.naming.NamingEnd.TheVariants.{Named, Lost, DiskFault, Disturbed}
use Rattle.inc_session.specs.declared.naming.NamingAt.{NamingAt}
use Rattle.inc_session.specs.declared.naming.NamingAt.TheVariants as at
use Rattle.inc_session.specs.declared.naming.Naming.{Naming}
use Rattle.inc_session.specs.declared.naming.NamingFed.{NamingFed}
use Rattle.inc_session.specs.declared.naming.NamingFed.TheVariants.{On, End}

-- whether a listing has this text
abbrev pub lists : List Text → Text → Bool
lists names text = list_any (λ name. pointwise nat_eq name text) names

-- With the directory of its crate, and what is done where the name is lost.
module _ (krate : Text) (again : Plan NamingEnd) where
  -- a lost handle is closed
  abbrev pub closed : Reply → Plan NamingEnd
  closed Fault = Give DiskFault
  closed reply = again

  abbrev pub lost : ℕ → Plan NamingEnd
  lost handle = Ask (Close handle) closed

  -- it makes its directory
  abbrev pub made_dir : SessionName → ℕ → Reply → Plan NamingEnd
  made_dir name handle Done = Give (Named name handle)
  made_dir name handle Exists = Give (Disturbed (MakeDir krate (working_text name)) Exists)
  made_dir name handle reply = Give DiskFault

  -- where its lock file is listed
  abbrev pub listed : SessionName → ℕ → List Text → Plan NamingEnd
  listed name handle names = if lists names (lock_text name) then Ask (MakeDir krate (working_text name)) (made_dir name handle) else lost handle

  abbrev pub looked : SessionName → ℕ → Reply → Plan NamingEnd
  looked name handle (Names names) = listed name handle names
  looked name handle reply = Give DiskFault

  -- and locked
  abbrev pub locked : SessionName → ℕ → Reply → Plan NamingEnd
  locked name handle Got = Ask (Look krate) (looked name handle)
  locked name handle Fault = Give DiskFault
  locked name handle reply = lost handle

  abbrev pub made_lock : SessionName → Reply → Plan NamingEnd
  made_lock name (Handle handle) = Ask (TryLock handle true) (locked name handle)
  made_lock name Exists = again
  made_lock name reply = Give DiskFault

  abbrev pub drawn : Reply → Plan NamingEnd
  drawn (Drawn moment random) = let name : SessionName = record { moment = moment; random = random } in Ask (MakeLock krate (lock_text name)) (made_lock name)
  drawn reply = Give DiskFault

-- with so many names at most
abbrev pub naming : Text → ℕ → Plan NamingEnd
naming krate zero = Give Lost
naming krate (suc left) = Ask Draw (drawn krate (naming krate left))

-- what is left of it at each step
abbrev pub naming_at : Text → Plan NamingEnd → NamingAt → Plan NamingEnd
naming_at krate again at.Draw = Ask Draw (drawn krate again)
naming_at krate again (at.MakeLock name) = Ask (MakeLock krate (lock_text name)) (made_lock krate again name)
naming_at krate again (at.TryLock name handle) = Ask (TryLock handle true) (locked krate again name handle)
naming_at krate again (at.Look name handle) = Ask (Look krate) (looked krate again name handle)
naming_at krate again (at.Close handle) = lost krate again handle
naming_at krate again (at.MakeDir name handle) = Ask (MakeDir krate (working_text name)) (made_dir krate again name handle)

abbrev pub naming_rest : Text → Naming → Plan NamingEnd
naming_rest krate n = naming_at krate (naming krate n.left) n.at

abbrev pub naming_plan : Text → NamingFed → Plan NamingEnd
naming_plan krate (On n) = naming_rest krate n
naming_plan krate (End e) = Give e

-- this is what is done where a name is lost, with so many left
abbrev pub IsAgain : NamingFed → ℕ → Type 0
IsAgain to left = (krate : Text) → naming_plan krate to ≡ naming krate left
