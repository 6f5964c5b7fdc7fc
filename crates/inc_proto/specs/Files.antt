-- The files that jobs are to publish.
use Rattle.std.specs.Prelude.{◌≡◌, List, Option, Some, Contains}
use Rattle.inc_base.specs.declared.job.Job.{Job}
use Rattle.inc_fs.specs.Paths.{Text}

-- the files of each job by names and bytes, in the order of the names, or none where its text has an error
abbrev pub Files : Type 0
Files = Job → Option (List (Text × Text))

-- this set is the job's files
abbrev pub IsSet : Files → Job → List (Text × Text) → Type 0
IsSet files job set = files job ≡ Some set

-- each of these jobs is among those
abbrev pub AreAmong : List Job → List Job → Type 0
AreAmong some all = (job : Job) → Contains some job → Contains all job
