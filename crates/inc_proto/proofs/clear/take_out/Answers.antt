use Rattle.std.proofs.Common.{rules, not}
use Rattle.std.proofs.lemmas.Fn.{filter_same}
use Rattle.inc_proto.specs.Views.{same_text}
use Rattle.inc_proto.proofs.clear.take_out.Goals as goal

pub returns : goal.returns
returns c = filter_same _ (λ x. not (same_text x c.args.entry.now)) _ (λ x b f' t. search rules) _ _ c.retain.ensures
