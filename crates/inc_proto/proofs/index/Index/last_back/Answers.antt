use Rattle.std.proofs.Common.{sym, subst, ap, ◌∙◌, rules}
use Rattle.std.specs.Map.{lookup}
use Rattle.std.specs.BTreeMap.{is_at}
use Rattle.inc_names.specs.Entries.{IsSessionName}
use Rattle.inc_proto.specs.Indexes.{Tells, IsBack, file_cmp}
use Rattle.inc_proto.specs.Views.{HasAny}
use Rattle.inc_proto.proofs.index.Index.last_back.Goals as goal

pub returns : goal.returns
returns c = λ steps index.
    let krate = c.args.krate.now in
    let entry = c.args.entry.now in
    let n = c.args.n in
    let named : IsSessionName n = search rules in
    let path = c.in_ok-path.ensures ∙ ap (λ t. ((krate, entry), t)) c.in_ok-lock.ensures in
    let at_is = c.copied.ensures ∙ c.get.ensures in
    subst (Tells (HasAny (IsBack krate entry n)) steps) (sym (at_is ∙ ap (λ p. lookup (is_at (file_cmp p)) c.args.self.now.back) path)) (index.back krate entry n named)
