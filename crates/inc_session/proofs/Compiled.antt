-- What a text compiles to stands in order.
use Rattle.std.proofs.Common.{◌≡◌, List, Some, None, ap, sym, ◌∙◌, subst}
use Rattle.std.specs.Prelude.{Option}
use Rattle.std.specs.Option.{option_map}
use Rattle.inc_base.specs.declared.job.Job.{Job}
use Rattle.inc_fs.specs.Paths.{Text}
use Rattle.inc_wire.specs.Forms.{header_of}
use Rattle.inc_graph.specs.declared.node.Node.{Node}
use Rattle.inc_products.specs.Saved.{Value, files_of}
use Rattle.rs_queries.specs.declared.compiled.Built.{Built}
use Rattle.rs_build.specs.Over.{kept_values, reached_graph}
use Rattle.inc_session.specs.Compiling.{AreInOrder, compiled_of, job_files, made_in, made_with, whole_of}
use Rattle.inc_session.specs.declared.compile.Made.{Made}
use Rattle.inc_session.proofs.Sorted.{files_in_order}

-- what is made has the files that it was made with
has_files : (files : List (Text × Text)) (built : Option Built) (made : Made) → made_in files built ≡ Some made → made.files ≡ files
has_files files None made is = absurd (cc)
has_files files (Some b) made is = by b.image is
  where
    by : (image : Option Text) → option_map (made_with files b.objects) image ≡ Some made → made.files ≡ files
    by None is = absurd (cc)
    by (Some image) is =
        let one : made_with files b.objects image ≡ made = cc in
        ap (λ (made : Made). made.files) (sym one)

-- what is made of a job's header, of its graph and of its kept values are its files
pub are_job_files : (job : Job) (nodes : List Node) (values : List Value) → nodes ≡ reached_graph job.compiler job.text → values ≡ kept_values job.compiler job.text
    → files_of (header_of 1 job) nodes values ≡ job_files job
unfolding job_files
are_job_files job nodes values graph kept =
    ap (λ nodes. files_of (header_of 1 job) nodes values) graph ∙ ap (files_of (header_of 1 job) (reached_graph job.compiler job.text)) kept

-- the files of a job stand in name order
job_in_order : (job : Job) → AreInOrder (job_files job)
unfolding job_files
job_in_order job = files_in_order (header_of 1 job) (reached_graph job.compiler job.text) (kept_values job.compiler job.text)

-- so do those that are saved
pub compiled_in_order : (job : Job) (made : Made) → (compiled_of job).made ≡ Some made → AreInOrder made.files
unfolding compiled_of
compiled_in_order job made is = subst AreInOrder (sym (has_files (job_files job) (whole_of job).built made is)) (job_in_order job)
