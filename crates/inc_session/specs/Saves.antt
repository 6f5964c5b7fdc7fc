-- What sessions publish: the files of each job that its text compiles to.
use Rattle.std.specs.Prelude.{List, Option}
use Rattle.inc_base.specs.declared.job.Job.{Job}
use Rattle.inc_fs.specs.Paths.{Text}
use Rattle.inc_proto.specs.declared.event.Event.{Event}
use Rattle.inc_proto.specs.Legal.{IsLegal}
use Rattle.inc_session.specs.Compiling.{compiled_of, files_in}

-- the files of each job; none where its text has errors
abbrev pub saved_files : Job → Option (List (Text × Text))
saved_files job = files_in (compiled_of job).made

-- what is taken to hold of the jobs that began: nothing, since no value that a build relies on is hashed yet
abbrev pub saved_clear : List Job → Type 0
saved_clear jobs = Unit {0}

-- the legal histories of sessions that publish so
abbrev pub IsLegalHere : List Event → Type 0
IsLegalHere = IsLegal saved_files
