use Rattle.rs_queries.proofs.cleaning.clean_read.Goals as goal

pub returns : goal.returns
returns c = λ bytes r. (c.in_ok-compiled.compiled, c.in_ok-compiled.ensures.is bytes r, c.clean_of.ensures)
