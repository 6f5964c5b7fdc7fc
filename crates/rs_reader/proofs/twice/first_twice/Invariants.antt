use Rattle.std.proofs.Common.{◌≡◌, take}
use Rattle.std.specs.BTreeSet.{contains}
use Rattle.rs_grammar.specs.Twice.{AllOnce}
use Rattle.rs_reader.proofs.Once.{Held, held_cmp, plain}
use Rattle.rs_grammar.proofs.Names.{seen_by}
use Rattle.rs_reader.proofs.twice.first_twice.Given as goal

abbrev pub invariant-loop-named : goal.invariant-loop-named
invariant-loop-named l = record {
  once : AllOnce (take l.named-index l.names);
  has : (q : Held) → contains held_cmp l.seen q ≡ seen_by (plain q) (take l.named-index l.names);
}
