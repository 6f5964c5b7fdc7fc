use Rattle.std.proofs.Common.{rules, not, ◌==◌}
use Rattle.std.proofs.lemmas.Fn.{filter_same}
use Rattle.inc_fs.proofs.fs.locks.take_out.Goals as goal

pub returns : goal.returns
returns c = filter_same _ (λ other. not (other == c.args.handle)) _ (λ x b f' t. search rules) _ _ c.retain.ensures
