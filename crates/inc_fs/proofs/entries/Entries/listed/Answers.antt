use Rattle.std.proofs.Common.{◌≡◌, ◌∙◌, ◌++◌, [], ◌∷◌, false, ap, sym, subst}
use Rattle.std.specs.Ordering.{is_gt}
use Rattle.std.specs.List.{AllByRecursion}
use Rattle.std.specs.List.Sorted.{IsStrictlySortedBy}
use Rattle.std.specs.Map.{keys_of}
use Rattle.std.specs.BTreeMap.Range.{entries_between}
use Rattle.std.specs.declared.ops.Bound.TheVariants.{Included, Unbounded}
use Rattle.inc_fs.specs.Listed.{first_path}
use Rattle.inc_fs.specs.Paths.{path_cmp, names_in}
use Rattle.inc_fs.proofs.Listing.{names_from, sorted_after, none_before, stops, adds_own, all_there}
use Rattle.inc_fs.proofs.entries.Entries.listed.Goals as goal
use Rattle.inc_fs.proofs.entries.Entries.listed.Goals.{in-None, in-Some+then-ne}

pub loop-path-init : goal.loop-path-init
loop-path-init c =
    let krate = c.args.krate.now in
    let es = c.self.inside.by_path in
    let items : c.into_iter-path-iterator.result ≡ entries_between path_cmp (Included (first_path krate)) Unbounded es =
    c.into_iter-path-iterator.ensures.into_iter_gives ∙ c.pairs_from-path-items.ensures.pairs ∙ ap (λ from. entries_between path_cmp (Included from) Unbounded es) c.in_ok-first.ensures in
    record {
      names = ap (λ names. names ++ names_in krate (keys_of c.into_iter-path-iterator.result)) c.new-names.ensures ∙ ap (λ es. names_in krate (keys_of es)) items ∙ names_from krate es c.self.invariant ∙ ap (λ es. names_in krate (keys_of es)) c.self.view_is;
      ascend = rw items (sorted_after (first_path krate) es c.pairs_from-path-items.ensures.ordered);
      from = rw items (none_before (first_path krate) es);
    }

pub loop-path-preserved : goal.loop-path-preserved
unfolding IsStrictlySortedBy
loop-path-preserved c =
    let krate = c.args.krate.now in
    let path = c.in-Some.path.now in
    let step = c.in-Some.ensures.steps in
    let rest = c.next.new.self in
    let own = sym c.ne.ensures ∙ c.if-ne.false in
    let pushed = c.in_ok-push.ensures.ok ∙ ap (λ name. c.loop-path.names ++ name ∷ []) c.in_ok-copy.ensures in
    record {
      names = ap (λ names. names ++ names_in krate (keys_of rest)) pushed ∙ adds_own krate c.loop-path.names path c.in-Some.field-0-1.now rest own
          ∙ ap (λ es. c.loop-path.names ++ names_in krate (keys_of es)) (sym step) ∙ c.loop-path.invariant.names;
      ascend = (subst (λ es. IsStrictlySortedBy path_cmp (keys_of es)) step c.loop-path.invariant.ascend).1;
      from = (subst (λ es. AllByRecursion (λ path. is_gt (path_cmp (first_path krate) path) ≡ false) (keys_of es)) step c.loop-path.invariant.from).1;
    }

pub returns : goal.returns
returns c =
    let krate = c.args.krate.now in
    elim c.match-next.branch [
      | in-None w ↦ all_there c.loop-path.names _ _ c.loop-path.invariant.names (ap (λ es. names_in krate (keys_of es)) w.in-None.ensures.steps.0)
      | in-Some+then-ne w ↦
          let step = w.in-Some.ensures.steps in
          let ascend = subst (λ es. IsStrictlySortedBy path_cmp (keys_of es)) step c.loop-path.invariant.ascend in
          let from = subst (λ es. AllByRecursion (λ path. is_gt (path_cmp (first_path krate) path) ≡ false) (keys_of es)) step c.loop-path.invariant.from in
          let none = stops krate w.in-Some.path.now (keys_of c.next.new.self) from.0 (sym w.ne.ensures ∙ w.if-ne.true) ascend in
          all_there c.loop-path.names _ _ c.loop-path.invariant.names (ap (λ es. names_in krate (keys_of es)) step ∙ none)
    ]
