use Rattle.std.proofs.Common.{◌∙◌, [], Some, None, reverse, refl, sym, subst}
use Rattle.inc_names.specs.declared.entry.Entry.TheVariants.{Final}
use Rattle.inc_proto.specs.Events.{own_steps, job_of}
use Rattle.inc_laws.specs.Loads.{IsLatestLoad}
use Rattle.inc_laws.specs.Places.{AreFresh}
use Rattle.inc_laws.proofs.Fresh.{fresh_own}
use Rattle.inc_laws.proofs.Latest.{sight_is, loaded_by, whole_by, whole_of, none_by}
use Rattle.inc_laws.proofs.loads.loaded_is_whole.Goals as goal

pub latest_load-requires : goal.latest_load-requires
latest_load-requires g c =
    let H = c.args.ground.now.history in
    let s = sight_is (job_of c.args.who H) (own_steps c.args.who H) c.view-view.result.now.job c.view-view.result.now.steps c.view-view.ensures.sight in
    subst AreFresh (s.1 ∙ sym c.steps.ensures) (fresh_own g.C.Content.files H c.args.ground.now.state c.legal.ensures.leads c.legal.ensures.allowed c.args.who)

pub returns-in-Some-clause-loaded : goal.returns-in-Some-clause-loaded
returns-in-Some-clause-loaded g c =
    let H = c.args.ground.now.history in
    let job = c.view-view.result.now.job in
    let s = sight_is (job_of c.args.who H) (own_steps c.args.who H) job c.view-view.result.now.steps c.view-view.ensures.sight in
    loaded_by c.args.who H job c.in_ok-krate.krate (reverse c.steps.result.now) (Some (c.in-Some.name, c.in-Some.hash)) (Some (Final c.in-Some.name c.in-Some.hash)) s.0 (s.1 ∙ sym c.steps.ensures)
    (c.in_ok-krate.ensures ∙ (λ i. (c.job-2.ensures i).krate)) (subst (IsLatestLoad c.in_ok-krate.krate (reverse c.steps.result.now) []) c.in-Some.is c.in_ok-name.ensures) refl

pub returns-in-Some-clause-whole : goal.returns-in-Some-clause-whole
returns-in-Some-clause-whole g c = λ n hash is.
    let H = c.args.ground.now.history in
    let job = c.view-view.result.now.job in
    let s = sight_is (job_of c.args.who H) (own_steps c.args.who H) job c.view-view.result.now.steps c.view-view.ensures.sight in
    whole_of g.C.Content.files H c.args.who c.in-Some.name n c.in-Some.hash hash is
    (whole_by g.C.Content.files H c.args.ground.now.state c.legal.ensures.leads c.legal.ensures.allowed c.args.who job c.in_ok-krate.krate (reverse c.steps.result.now) c.in-Some.name c.in-Some.hash s.0 (s.1 ∙ sym c.steps.ensures)
    (c.in_ok-krate.ensures ∙ (λ i. (c.job-2.ensures i).krate)) (subst (IsLatestLoad c.in_ok-krate.krate (reverse c.steps.result.now) []) c.in-Some.is c.in_ok-name.ensures))

pub returns-clause-loaded : goal.returns-clause-loaded
returns-clause-loaded g c =
    let H = c.args.ground.now.history in
    let job = c.view-view.result.now.job in
    let s = sight_is (job_of c.args.who H) (own_steps c.args.who H) job c.view-view.result.now.steps c.view-view.ensures.sight in
    loaded_by c.args.who H job c.in_ok-krate.krate (reverse c.steps.result.now) None None s.0 (s.1 ∙ sym c.steps.ensures)
    (c.in_ok-krate.ensures ∙ (λ i. (c.job-2.ensures i).krate)) (subst (IsLatestLoad c.in_ok-krate.krate (reverse c.steps.result.now) []) c.in-None.is c.in_ok-name.ensures) refl

pub returns-clause-none : goal.returns-clause-none
returns-clause-none g c = λ is other n hash names its_other load.
    let H = c.args.ground.now.history in
    let job = c.view-view.result.now.job in
    let s = sight_is (job_of c.args.who H) (own_steps c.args.who H) job c.view-view.result.now.steps c.view-view.ensures.sight in
    none_by c.args.who H job c.in_ok-krate.krate (reverse c.steps.result.now) s.0 (s.1 ∙ sym c.steps.ensures)
    (c.in_ok-krate.ensures ∙ (λ i. (c.job-2.ensures i).krate)) (subst (IsLatestLoad c.in_ok-krate.krate (reverse c.steps.result.now) []) c.in-None.is c.in_ok-name.ensures) other n hash names its_other load
