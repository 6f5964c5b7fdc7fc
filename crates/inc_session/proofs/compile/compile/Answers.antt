use Rattle.std.proofs.Common.{ap, ◌∙◌}
use Rattle.inc_base.specs.Meters.{raised}
use Rattle.inc_session.specs.Compiling.{compiled_by, units_in}
use Rattle.inc_session.specs.CompilingLaws.{whole_only}
use Rattle.inc_session.specs.declared.compile.Compiled.{Compiled}
use Rattle.inc_session.proofs.compile.compile.Goals as goal

pub returns-clause-value : goal.returns-clause-value
returns-clause-value c =
    let whole = c.in_ok-whole.whole in
    let is = c.in_ok-whole.ensures in
    c.compiled_by-compiled.ensures ∙ ap (λ files. compiled_by files whole) is.files ∙ whole_only c.args.job.now whole is.whole

pub returns-clause-meter : goal.returns-clause-meter
returns-clause-meter c =
    let whole = c.in_ok-whole.whole in
    let is = c.in_ok-whole.ensures in
    c.raise.ensures
    ∙ ap (raised c.args.meter.now) (c.units_in.ensures
    ∙ ap (λ (compiled : Compiled). units_in compiled.made) (c.compiled_by-compiled.ensures ∙ ap (λ files. compiled_by files whole) is.files ∙ whole_only c.args.job.now whole is.whole))
