use Rattle.std.proofs.Common.{rules, not}
use Rattle.std.proofs.lemmas.Fn.{filter_same}
use Rattle.inc_fs.specs.State.{is_whose}
use Rattle.inc_fs.proofs.fs.ending.keep_others.Goals as goal

pub returns : goal.returns
returns c = filter_same _ (λ handle. not (is_whose c.args.handles.now.entries c.args.who handle)) _ (λ x b f' t. search rules) _ _ c.retain.ensures
