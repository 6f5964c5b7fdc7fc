use Rattle.std.proofs.lemmas.Result.{IfOk-weaker}
use Rattle.rs_provider.proofs.Readings.{const_read}
use Rattle.rs_provider.proofs.reading.const_in.Goals as goal

pub returns : goal.returns
returns c = IfOk-weaker c.read_const.result _ _ (λ read is. const_read c.args.value.now read (rw c.as_slice.ensures.value at is)) c.read_const.ensures
