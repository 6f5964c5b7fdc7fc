use Rattle.rs_queries.proofs.cleaning.clean.Goals as goal

pub returns : goal.returns
returns c = c.in_ok-build.ensures c.args.text.now c.in_ok-reading.ensures
