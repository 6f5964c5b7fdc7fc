use Rattle.std.proofs.Common.{◌≡◌, [], drop, sym, subst, arith}
use Rattle.std.proofs.lemmas.List.{drop_all}
use Rattle.inc_proto.specs.Asked.{AreWanted}
use Rattle.inc_proto.proofs.Wholes.{none_wanted}
use Rattle.inc_proto.proofs.published.are_wanted.Goals as goal

pub returns : goal.returns
returns c =
    let files = c.args.files.now in
    let rest = c.loop-one.rest.now in
    let none : drop c.loop-one.one-index c.args.wanted.now ≡ [] = drop_all c.loop-one.one-index c.args.wanted.now (omega arith) in
    let empty = none_wanted files rest c.is_empty.result c.is_empty.ensures in (
      λ yes. c.loop-one.invariant.back (subst (AreWanted files rest) (sym none) (empty.0 yes)),
      λ all. empty.1 (subst (AreWanted files rest) none (c.loop-one.invariant.left all)),
    )
