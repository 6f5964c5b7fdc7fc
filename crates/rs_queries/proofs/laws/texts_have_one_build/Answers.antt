use Rattle.rs_queries.proofs.Exact as exact
use Rattle.rs_queries.proofs.laws.texts_have_one_build.Goals as goal

pub returns : goal.returns
returns c =
    let laws = c.search_is_exact.ensures in
    record { is = exact.is_build c.texts_are_read.ensures.text laws.ends laws.reached laws.once; only = exact.only_build; diagnosis = exact.build_diagnosis }
