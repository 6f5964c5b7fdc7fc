use Rattle.std.proofs.Common.{subst, ◌∙◌, ◌↔◌, IsTrue}
use Rattle.inc_proto.specs.Asked.{AreWanted}
use Rattle.inc_proto.proofs.Wholes.{whole}
use Rattle.inc_proto.proofs.published.are_files.Goals as goal

pub returns : goal.returns
returns c =
    let files = c.args.files.now in
    let wanted = c.args.wanted.now in
    let all = whole files wanted c.requires in
    let is = subst (λ names. IsTrue c.are_wanted.result ↔ AreWanted files names wanted) (c.as_slice.ensures.value ∙ c.in_ok-names.ensures) c.are_wanted.ensures in
    (λ yes. all.0 (is.0 yes), λ set. is.1 (all.1 set))
