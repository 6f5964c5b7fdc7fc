use Rattle.rs_queries.proofs.compiling.compile.Goals as goal

pub returns : goal.returns
returns c = record { is = c.in_ok-compiled.ensures.is c.args.text.now c.in_ok-reading.ensures; emitted = c.in_ok-compiled.ensures.emitted }
