-- The order of a session: naming; compiling, which is no step; then saving and closing, or, with errors, its ending.
use Rattle.std.specs.Prelude.{ℕ, false, Option, Some, None}
use Rattle.inc_base.specs.declared.job.Job.{Job}
use Rattle.inc_fs.specs.Paths.{Text}
use Rattle.inc_names.specs.declared.session.SessionName.{SessionName}
use Rattle.inc_plan.specs.Plan.{Plan, then}
use Rattle.inc_plan.specs.Plan.Plan.{Give}
use Rattle.inc_session.specs.Compiling.{compiled_of}
use Rattle.inc_session.specs.Ending.{closes, fails, failing_at}
use Rattle.inc_session.specs.Naming.{naming, naming_rest}
use Rattle.inc_session.specs.Saving.{SaveEnd, all_ops, each}
use Rattle.inc_session.specs.Saving.SaveEnd.{Saved, Faulted, Off}
use Rattle.inc_session.specs.declared.compile.Made.{Made}
use Rattle.inc_session.specs.declared.naming.NamingEnd.{NamingEnd}
use Rattle.inc_session.specs.declared.naming.NamingEnd.TheVariants as naming
use Rattle.inc_session.specs.declared.outcome.Outcome.{Outcome}
use Rattle.inc_session.specs.declared.outcome.Outcome.TheVariants.{Built, Errors, DiskFault, Lost, Disturbed}
use Rattle.inc_session.specs.declared.part.Part.{Part}
use Rattle.inc_session.specs.declared.part.Part.TheVariants as part

-- how many names it draws at most
abbrev pub most_names : ℕ
most_names = 8

-- published, it closes its lock, and has built
abbrev pub after_saving : Text → Text → ℕ → ℕ → SaveEnd → Plan Outcome
after_saving diags image units handle Saved = then (closes handle false) (λ note. Give (Built diags image (record { emitted = units; units = units }) note))
after_saving diags image units handle Faulted = Give DiskFault
after_saving diags image units handle (Off op reply) = Give (Disturbed op reply)

-- after compiling, with what was made, or with errors
abbrev pub after_compiling : Job → SessionName → ℕ → Text → Option Made → Plan Outcome
after_compiling job its handle diags (Some made) = then (each (all_ops job its made.files)) (after_saving diags made.image made.units handle)
after_compiling job its handle diags None = then (fails job.krate its handle) (λ note. Give (Errors diags note))

abbrev pub after_naming : Job → NamingEnd → Plan Outcome
after_naming job (naming.Named its handle) = after_compiling job its handle (compiled_of job).diags (compiled_of job).made
after_naming job naming.Lost = Give (Lost most_names)
after_naming job naming.DiskFault = Give DiskFault
after_naming job (naming.Disturbed op reply) = Give (Disturbed op reply)

-- with so many names
abbrev pub order : Job → ℕ → Plan Outcome
order job names = then (naming job.krate names) (after_naming job)

-- what a session of this job asks for, and how it goes on by each reply
unfoldable pub plan_of : Job → Plan Outcome
plan_of job = order job most_names

-- what is left of it in each part
abbrev pub part_rest : Job → Part → Plan Outcome
part_rest job (part.Naming n) = then (naming_rest job.krate n) (after_naming job)
part_rest job (part.Saving s) = then (each s.ops) (after_saving s.diags s.image s.units s.handle)
part_rest job (part.Failing f) = then (failing_at job.krate f.handle f.at) (λ note. Give (Errors f.diags note))
part_rest job (part.Ended outcome) = Give outcome
part_rest job part.GaveUp = Give DiskFault
