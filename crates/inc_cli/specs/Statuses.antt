-- The statuses of a top call, and what it writes.
use Rattle.std.specs.Prelude.{ℕ, ◌++◌, Bool, true, false, List, [], Option, Some, None, codes, decimal}
use Rattle.inc_session.specs.declared.outcome.Used.{Used}
use Rattle.rs_queries.specs.declared.compiled.CleanBuild.{CleanBuild}
use Rattle.rs_queries.specs.declared.limit.Limit.{Limit}
use Rattle.rs_queries.specs.declared.limit.Limit.TheVariants as limit
use Rattle.inc_cli.specs.declared.answer.Answer.{Answer}
use Rattle.inc_cli.specs.declared.answer.Answer.TheVariants.{Built, Failed, Cleaned}
use Rattle.inc_cli.specs.declared.status.Status.{Status}
use Rattle.inc_cli.specs.declared.status.Status.TheVariants.{Done, Errors, BadWords, DirectoryFault, SinkFault, SourceFault, OutOfMemory, Lost, OverLimit, Disturbed}

-- the number that the process ends with
abbrev pub code_of : Status → ℕ
code_of Done = 0
code_of Errors = 1
code_of BadWords = 2
code_of DirectoryFault = 3
code_of SinkFault = 4
code_of SourceFault = 5
code_of OutOfMemory = 6
code_of Lost = 7
code_of (OverLimit limit) = 8
code_of Disturbed = 9

abbrev pub limit_line : Limit → List ℕ
limit_line limit.Text = codes "incc: limit text\n"
limit_line limit.Modules = codes "incc: limit modules\n"
limit_line limit.Items = codes "incc: limit items\n"

-- the line that a refusal writes to `out`
abbrev pub line_of : Status → List ℕ
line_of Done = []
line_of Errors = []
line_of BadWords = codes "incc: bad words\n"
line_of DirectoryFault = codes "incc: directory fault\n"
line_of SinkFault = []
line_of SourceFault = codes "incc: source fault\n"
line_of OutOfMemory = codes "incc: out of memory\n"
line_of Lost = codes "incc: lost 8 names\n"
line_of (OverLimit limit) = limit_line limit
line_of Disturbed = codes "incc: directory disturbed\n"

-- the line that says how many units were emitted, of how many
abbrev pub emitted_line : ℕ → ℕ → List ℕ
emitted_line emitted units = codes "emitted " ++ decimal emitted ++ codes " of " ++ decimal units ++ codes "\n"

-- the one that says how many units a clean build has
abbrev pub units_line : ℕ → List ℕ
units_line units = codes "units " ++ decimal units ++ codes "\n"

-- and the one that says that a step of a session's ending was answered by a fault
abbrev pub note_line : Bool → List ℕ
note_line false = []
note_line true = codes "note: collection stopped\n"

-- a clean build's units are told where it has an image
abbrev pub units_told : Option (List ℕ) → ℕ → List ℕ
units_told None units = []
units_told (Some image) units = units_line units

-- what a build that published writes to `out`: the lines of its diagnostics, the one on the units, and the note
abbrev pub built_lines : List ℕ → Used → Bool → List ℕ
built_lines diags used note = diags ++ emitted_line used.emitted used.units ++ note_line note

-- and a clean build
abbrev pub clean_lines : CleanBuild → List ℕ
clean_lines build = build.diags ++ units_told build.image build.units

-- what an answer writes to `out`
abbrev pub lines_of : Answer → List ℕ
lines_of (Built diags image used note) = built_lines diags used note
lines_of (Failed diags note) = diags ++ note_line note
lines_of (Cleaned build) = clean_lines build

-- and to `image`
abbrev pub image_of : Answer → Option (List ℕ)
image_of (Built diags image used note) = Some image
image_of (Failed diags note) = None
image_of (Cleaned build) = build.image

-- the status of an answer whose lines, and image, were written: 0 exactly where it has an image
abbrev pub status_with : Option (List ℕ) → Status
status_with (Some image) = Done
status_with None = Errors
