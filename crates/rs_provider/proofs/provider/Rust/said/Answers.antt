use Rattle.std.proofs.lemmas.Result.{IfOk-weaker}
use Rattle.rs_provider.proofs.Taken.{led, said_is}
use Rattle.rs_provider.proofs.provider.Rust.said.Goals as goal

pub returns : goal.returns
returns c =
    let by = c.args.self.now.compiler in
    let known = c.args.known.now in
    IfOk-weaker c.answer-answer.result _ _
    (λ a e. said_is by.version by.level c.args.q.now known c.in_ok-begun-2.begun a c.in_ok-begun-2.begun.is (led by.level c.args.q.now _ _ c.in_ok-begun.begun c.in_ok-begun-2.begun c.in_ok-begun.ensures (rw c.as_slice.ensures.value at c.in_ok-begun-2.ensures)) e)
    c.answer-answer.ensures
