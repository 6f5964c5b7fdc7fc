use Rattle.std.proofs.Common.{[], fold, sym, ap, ◌∙◌}
use Rattle.std.specs.Prelude.{unwrap_or}
use Rattle.rs_lines.specs.Lines.{note}
use Rattle.plan_laws.specs.Assembled.{unused_lines}
use Rattle.rs_build.proofs.Tellings.{none_unused}
use Rattle.rs_build.proofs.tree.tell_dead.Goals as goal

pub returns-in-None : goal.returns-in-None
returns-in-None c =
    let none = sym c.in_ok-dead.ensures ∙ c.in-None.is in
    sym (ap (λ ps. fold note c.args.lines.now (unused_lines (unwrap_or ps []) c.args.items.now)) none ∙ ap (fold note c.args.lines.now) (none_unused c.args.items.now))
