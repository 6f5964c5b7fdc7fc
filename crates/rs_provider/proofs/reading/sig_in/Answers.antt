use Rattle.std.proofs.lemmas.Result.{IfOk-weaker}
use Rattle.rs_provider.proofs.Readings.{sig_read}
use Rattle.rs_provider.proofs.reading.sig_in.Goals as goal

pub returns : goal.returns
returns c = IfOk-weaker c.read_sig.result _ _ (λ read is. sig_read c.args.value.now read (rw c.as_slice.ensures.value at is)) c.read_sig.ensures
