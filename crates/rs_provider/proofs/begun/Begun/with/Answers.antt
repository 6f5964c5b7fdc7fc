use Rattle.rs_provider.proofs.Taken.{begun_more}
use Rattle.rs_provider.proofs.begun.Begun.with.Goals as goal

pub invariant_of-result : goal.invariant_of-result
invariant_of-result c = record {
  is = begun_more c.args.self.level c.args.self.q c.args.self.fed c.add.new.fed c.args.value.now c.args.self.state c.in-Ok-fed.state c.args.self.is (c.in-Ok.ensures {u = tt}) c.in-Ok-fed.ensures;
}
