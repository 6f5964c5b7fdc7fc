-- What a job's text compiles to, and the files that are saved of it.
use Rattle.std.specs.Prelude.{◌≡◌, ℕ, List, [], ◌∷◌, length, Option, Some, None, option_and_then}
use Rattle.std.specs.Map.{lookup}
use Rattle.std.specs.Option.{option_map}
use Rattle.std.specs.BTreeMap.{insert_entry, is_at}
use Rattle.inc_base.specs.declared.job.Job.{Job}
use Rattle.inc_fs.specs.Paths.{Text, text_cmp}
use Rattle.inc_wire.specs.Forms.{header_of}
use Rattle.inc_products.specs.Saved.{files_of}
use Rattle.rs_reach.proofs.Found.{ends, finds_reached, finds_once}
use Rattle.rs_text.proofs.Whole.{text_law}
use Rattle.rs_queries.specs.Built.{IsCompiled}
use Rattle.rs_queries.specs.declared.compiled.Built.{Built}
use Rattle.rs_queries.specs.declared.compiled.Compiled.{Compiled as Whole}
use Rattle.rs_queries.proofs.Exact.{is_build}
use Rattle.rs_build.specs.Over.{kept_values, reached_graph}
use Rattle.inc_session.specs.declared.compile.Compiled.{Compiled}
use Rattle.inc_session.specs.declared.compile.Made.{Made}

-- ---- What is compiled.

-- of objects and their image: the image, how many units they are, and the files that are saved
abbrev pub made_with : List (Text × Text) → List (Text × Text) → Text → Made
made_with files objects image = record { image = image; units = length objects; files = files }

abbrev pub made_of : List (Text × Text) → Built → Option Made
made_of files built = option_map (made_with files built.objects) built.image

abbrev pub made_in : List (Text × Text) → Option Built → Option Made
made_in files built = option_and_then (made_of files) built

-- the lines of its diagnostics, and, where there are objects and an image, what is made of them with these files
abbrev pub compiled_by : List (Text × Text) → Whole → Compiled
compiled_by files whole = record { diags = whole.diags; made = made_in files whole.built }

-- The files of a job, in name order: those of the queries that its roots reach and of the values that are kept of them, under the job's
-- header (docs/FORMATS.md, "Files").
unfoldable pub job_files : Job → List (Text × Text)
job_files job = files_of (header_of 1 job) (reached_graph job.compiler job.text) (kept_values job.compiler job.text)

-- A compiler has exactly one answer on each text (`texts_have_one_build` of rs_queries): this is that on the job's, and that it is.
abbrev pub answer_of : (job : Job) → (whole : Whole) × IsCompiled job.text job.compiler.level whole
answer_of job = is_build text_law ends finds_reached finds_once job.text job.compiler.level

unfoldable pub whole_of : Job → Whole
whole_of job = (answer_of job).0

-- what the job's text compiles to
unfoldable pub compiled_of : Job → Compiled
compiled_of job = compiled_by (job_files job) (whole_of job)

-- how many units it emits: each of them, or none where there are errors
abbrev pub units_in : Option Made → ℕ
units_in None = 0
units_in (Some made) = made.units

abbrev pub units_of : Job → ℕ
units_of job = units_in (compiled_of job).made

-- the files that it saves, where there are no errors
abbrev pub files_in : Option Made → Option (List (Text × Text))
files_in None = None
files_in (Some made) = Some made.files

-- ---- Their order.

-- a directory's files, once these are put there one by one
abbrev pub put_all : List (Text × Text) → List (Text × Text) → List (Text × Text)
put_all set [] = set
put_all set (file ∷ files) = put_all (insert_entry text_cmp set file.0 file.1) files

-- none of these files is there when it is put
abbrev pub AreNew : List (Text × Text) → List (Text × Text) → Type 0
AreNew set [] = Unit {0}
AreNew set (file ∷ files) = (lookup (is_at (text_cmp file.0)) set ≡ None) × AreNew (insert_entry text_cmp set file.0 file.1) files

-- these files stand in name order, each name once
pub record AreInOrder (files : List (Text × Text)) : Type 0 where
  pub new : AreNew [] files
  pub same : put_all [] files ≡ files
