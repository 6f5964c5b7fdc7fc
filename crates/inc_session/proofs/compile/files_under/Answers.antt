use Rattle.std.proofs.Common.{◌∙◌, ap}
use Rattle.std.proofs.lemmas.Result.{IfOk-weaker}
use Rattle.inc_products.specs.Saved.{files_of}
use Rattle.inc_session.proofs.Compiled.{are_job_files}
use Rattle.inc_session.proofs.compile.files_under.Goals as goal

pub returns : goal.returns
returns c =
    let job = c.args.job.now in
    IfOk-weaker c.files_of-files.result _ _
    (λ files is.
    is ∙ ap (λ krate. files_of (record { format = 1; compiler = job.compiler; krate = krate }) c.args.graph.now c.args.cache.now) c.in_ok-copy.ensures
    ∙ are_job_files job c.args.graph.now c.args.cache.now c.requires.reached c.requires.kept)
    c.files_of-files.ensures
