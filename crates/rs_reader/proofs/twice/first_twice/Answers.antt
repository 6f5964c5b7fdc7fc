use Rattle.std.proofs.Common.{sym, subst, List}
use Rattle.rs_grammar.specs.declared.named.Named.{Named}
use Rattle.rs_grammar.specs.Twice.{AllOnce}
use Rattle.rs_grammar.proofs.Lists.{one_more}
use Rattle.rs_grammar.proofs.Names.{once_more}
use Rattle.rs_reader.proofs.Once.{held_more, was_seen, first_is, not_true, not_false}
use Rattle.rs_reader.proofs.twice.first_twice.Goals as goal

pub returns-then-not-branch : goal.returns-then-not-branch
returns-then-not-branch c =
    first_is c.args.names.now c.loop-named.named-index c.named-item.result c.loop-named-test.true c.named-item.is c.loop-named.invariant.once
    (was_seen c.loop-named.seen c.key.result c.named-item.result _ _ c.key.ensures c.loop-named.invariant.has (not_true c.in_ok-insert.ensures.added c.if-not-branch.true))

pub loop-named-preserved : goal.loop-named-preserved
loop-named-preserved c =
    let more = one_more c.args.names.now c.loop-named.named-index c.named-item.result c.loop-named-test.true c.named-item.is in
    record {
      once = subst (λ (w : List Named). AllOnce w) (sym more) (once_more _ c.named-item.result c.loop-named.invariant.once
          (was_seen c.loop-named.seen c.key.result c.named-item.result _ _ c.key.ensures c.loop-named.invariant.has (not_false c.in_ok-insert.ensures.added c.if-not-branch.false)));
      has = λ q. rw more (held_more c.loop-named.seen _ c.key.result c.named-item.result _ c.key.ensures c.in_ok-insert.ensures.updates c.loop-named.invariant.has q);
    }
