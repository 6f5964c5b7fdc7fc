use Rattle.std.proofs.Common.{refl}
use Rattle.inc_proto.proofs.Indexed.{indexes_none}
use Rattle.inc_proto.proofs.index.Index.new.Goals as goal

pub returns : goal.returns
returns c =
    indexes_none _ c.new.ensures c.new-2.ensures c.new-3.ensures c.new-4.ensures c.new-5.ensures refl c.new-6.ensures c.new-7.ensures c.new-8.ensures c.new-9.ensures
