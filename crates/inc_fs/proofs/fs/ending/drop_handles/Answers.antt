use Rattle.std.proofs.Common.{rules, not, ◌==◌}
use Rattle.std.proofs.lemmas.Map.Made.{filter_same_pairs}
use Rattle.inc_fs.proofs.fs.ending.drop_handles.Goals as goal

pub returns : goal.returns
returns c = filter_same_pairs _ (λ pair. not (pair.1.owner == c.args.who)) _ (λ k v b w f' t. search rules) _ _ c.retain.ensures.filtered
