use Rattle.std.proofs.Common.{◌≡◌, ℕ, ◌+◌, List, [], ◌∷◌, ◌++◌, take, sym, ap, ◌∙◌, subst}
use Rattle.std.specs.Prelude.{IfSome}
use Rattle.std.specs.List.{All}
use Rattle.std.proofs.lemmas.List.{take_more}
use Rattle.std.proofs.lemmas.List.Elements.{All-push}
use Rattle.inc_wire.specs.Readings.{IsFormOf, IsReadAs}
use Rattle.rs_object.specs.Fits.{FitsObject}
use Rattle.rs_object.specs.Forms.{object_form}
use Rattle.rs_object.specs.Grammar.{InGrammar}
use Rattle.rs_object.specs.declared.object.Object.{Object}
use Rattle.rs_build.specs.Made.{AreObjectsOf}
use Rattle.rs_build.proofs.Values.{one_more}
use Rattle.rs_build.proofs.made.objects_of.Goals as goal

abbrev Is : List ℕ → Object → Type 0
Is value o = (value ≡ object_form o) × FitsObject o

pub loop-value-preserved : goal.loop-value-preserved
loop-value-preserved c =
    let values = c.args.values.now in
    let i = c.loop-value.value-index in
    let v = c.value-item.result in
    let o = c.in-Some.object in
    let push = c.in_ok-push-in-Some.ensures.ok in
    let front : take (i + 1) values ≡ take i values ++ v ∷ [] = take_more values i v c.loop-value-test.true ∙ ap (λ x. take i values ++ x ∷ []) (sym c.value-item.is) in
    let read : IsFormOf FitsObject object_form c.as_slice.result.now o = subst (IsReadAs FitsObject object_form c.as_slice.result.now) c.in-Some.is c.in_ok-object.ensures.reads in
    let its : Is v o = (sym c.as_slice.ensures.value ∙ read.whole, read.fits) in
    record {
      objects = subst (λ os. AreObjectsOf (take (i + 1) values) os) (sym push) (subst (λ vs. AreObjectsOf vs (c.loop-value.objects ++ o ∷ [])) (sym front) (one_more Is (take i values) c.loop-value.objects v o c.loop-value.invariant.objects its));
      grammar = subst (All InGrammar) (sym push) (All-push InGrammar c.loop-value.objects o c.loop-value.invariant.grammar (subst (λ p. IfSome p InGrammar) c.in-Some.is c.in_ok-object.ensures.grammar));
    }
