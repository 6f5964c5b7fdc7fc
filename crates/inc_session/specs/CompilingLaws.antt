-- What a job's text compiles to is what the clean build of its text has: laws of `Compiling`.
use Rattle.std.specs.Prelude.{◌≡◌, ℕ, Bool, true, false, cond, List, length, Option, Some, None, Result, Ok, Err, option_and_then, refl}
use Rattle.std.proofs.Common.{ap, ◌∙◌, sym}
use Rattle.std.proofs.lemmas.List.{length-map}
use Rattle.std.specs.Option.{option_map}
use Rattle.inc_base.specs.declared.job.Job.{Job}
use Rattle.inc_fs.specs.Paths.{Text}
use Rattle.rs_tree.specs.declared.tree.Crate.{Crate}
use Rattle.rs_text.specs.Text.{text_of}
use Rattle.rs_text.specs.declared.fault.TextFault.{TextFault}
use Rattle.rs_units.specs.Units.{units_of}
use Rattle.rs_object.specs.declared.object.Object.{Object}
use Rattle.rs_queries.specs.Built.{IsClean, IsCompiled, IsTreeCompiled, objects_by, output_of, stored, tree_index}
use Rattle.rs_queries.specs.Known.{all_answered, constants_of, sigs_of}
use Rattle.rs_queries.specs.declared.compiled.Built.{Built}
use Rattle.rs_queries.specs.declared.compiled.Compiled.{Compiled as Whole}
use Rattle.rs_queries.proofs.Exact.{only_build}
use Rattle.inc_session.specs.Compiling.{answer_of, compiled_by, compiled_of, job_files, made_in, made_with, whole_of}
use Rattle.inc_session.specs.declared.compile.Made.{Made}

-- the answer on a job's text is one, and no other is
pub whole_is : (job : Job) → IsCompiled job.text job.compiler.level (whole_of job)
unfolding whole_of
whole_is job = (answer_of job).1

pub whole_only : (job : Job) (whole : Whole) → IsCompiled job.text job.compiler.level whole → compiled_by (job_files job) whole ≡ compiled_of job
unfolding compiled_of
whole_only job whole is = ap (compiled_by (job_files job)) (only_build job.text job.compiler.level whole (whole_of job) is (whole_is job))

-- ---- Each unit has its object, where something is built.

built_units : (units : List Text) (objects : List Object) (b : Built) (has_errors : Bool) → length objects ≡ length units
    → Some b ≡ cond has_errors None (Some (output_of objects)) → length b.objects ≡ length units
built_units units objects b true same is = absurd (cc)
built_units units objects b false same is =
    let one : b ≡ output_of objects = cc in
    ap (λ (b : Built). length b.objects) one ∙ length-map objects stored ∙ same

tree_units : (krate : Crate) (level : ℕ) (whole : Whole) (b : Built) → IsTreeCompiled krate level whole → whole.built ≡ Some b → length b.objects ≡ whole.units
tree_units krate level whole b is built =
    let index = tree_index krate in
    built_units (units_of index) (objects_by index (sigs_of krate) (constants_of krate) is.values (all_answered krate) level) b _ (length-map (units_of index) _) (sym built ∙ is.built) ∙ sym is.units

each_unit : (bytes : Text) (level : ℕ) (whole : Whole) (b : Built) → IsCompiled bytes level whole → whole.built ≡ Some b → length b.objects ≡ whole.units
each_unit bytes level whole b is built = by (text_of bytes) refl
  where
    by : (r : Result Crate TextFault) → text_of bytes ≡ r → length b.objects ≡ whole.units
    by (Ok krate) same = tree_units krate level whole b (is.tree krate same) built
    by (Err fault) same = absurd (let none : whole.built ≡ None = (is.fault fault same).built in let some = built in cc)

-- ---- The clean build.

-- what is made is made of objects and their image
record IsMadeOf (built : Option Built) (made : Made) : Type 0 where
  whole : Built
  is : built ≡ Some whole
  image : whole.image ≡ Some made.image
  units : made.units ≡ length whole.objects

made_from : (files : List (Text × Text)) (built : Option Built) (made : Made) → made_in files built ≡ Some made → IsMadeOf built made
made_from files None made is = absurd (cc)
made_from files (Some b) made is = by b.image refl is
  where
    by : (image : Option Text) → b.image ≡ image → option_map (made_with files b.objects) b.image ≡ Some made → IsMadeOf (Some b) made
    by None same is = absurd (let none : option_map (made_with files b.objects) b.image ≡ None = ap (option_map (made_with files b.objects)) same in cc)
    by (Some image) same is =
        let some : Some (made_with files b.objects image) ≡ Some made = sym (ap (option_map (made_with files b.objects)) same) ∙ is in
        let one : made_with files b.objects image ≡ made = cc in
        record { whole = b; is = refl; image = same ∙ ap (λ (made : Made). Some made.image) one; units = ap (λ (made : Made). made.units) (sym one) }

-- where nothing is made there is no image
no_image : (files : List (Text × Text)) (built : Option Built) → made_in files built ≡ None → option_and_then (λ (b : Built). b.image) built ≡ None
no_image files None is = refl
no_image files (Some b) is = by b.image refl is
  where
    by : (image : Option Text) → b.image ≡ image → option_map (made_with files b.objects) b.image ≡ None → b.image ≡ None
    by None same is = same
    by (Some image) same is = absurd (let some : option_map (made_with files b.objects) b.image ≡ Some (made_with files b.objects image) = ap (option_map (made_with files b.objects)) same in cc)

pub built_clean : (job : Job) (made : Made) → (compiled_of job).made ≡ Some made
    → IsClean job.text job.compiler.level (record { diags = (compiled_of job).diags; image = Some made.image; units = made.units })
unfolding compiled_of
built_clean job made is =
    let whole = whole_of job in
    let from = made_from (job_files job) whole.built made is in
    let image : Some made.image ≡ option_and_then (λ (b : Built). b.image) whole.built = sym from.image ∙ sym (ap (option_and_then (λ (b : Built). b.image)) from.is) in
    let units : made.units ≡ whole.units = from.units ∙ each_unit job.text job.compiler.level whole from.whole (whole_is job) from.is in
    (whole, whole_is job, λ j. record { diags = whole.diags; image = image j; units = units j })

pub errors_clean : (job : Job) → (compiled_of job).made ≡ None
    → (units : ℕ) × IsClean job.text job.compiler.level (record { diags = (compiled_of job).diags; image = None; units = units })
unfolding compiled_of
errors_clean job is =
    let whole = whole_of job in
    (whole.units, (whole, whole_is job, λ j. record { diags = whole.diags; image = sym (no_image (job_files job) whole.built is) j; units = whole.units }))
