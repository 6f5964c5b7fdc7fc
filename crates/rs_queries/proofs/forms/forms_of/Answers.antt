use Rattle.std.proofs.Common.{ap, ◌∙◌, map}
use Rattle.rs_lower.specs.Meanings.{Ready}
use Rattle.rs_queries.specs.Built.{form_of}
use Rattle.rs_queries.proofs.forms.forms_of.Goals as goal

pub returns : goal.returns
returns c = c.in_ok-forms.ensures ∙ ap (λ (l : Ready). map (form_of c.args.level l.sigs l.consts) c.args.answered.now) c.in_ok-lowering.ensures
