use Rattle.std.proofs.Common.{◌≡◌, ℕ, ◌+◌, ◌<◌, List, [], ◌∷◌, ◌++◌, length, get_or, map, take, sym, ap, ◌∙◌, arith}
use Rattle.std.proofs.lemmas.List.{map-append, take_more}
use Rattle.rs_object.specs.Fits.{FitsObject}
use Rattle.rs_object.specs.Forms.{object_form}
use Rattle.rs_object.specs.declared.object.Object.{Object}
use Rattle.rs_queries.specs.Built.{stored}
use Rattle.rs_build.proofs.Values.{at_place, same_length}
use Rattle.rs_build.proofs.made.all_stored.Goals as goal

abbrev Is : List ℕ → Object → Type 0
Is value o = (value ≡ object_form o) × FitsObject o

pub bounds-values-i : goal.bounds-values-i
bounds-values-i c = (let long = same_length Is c.args.values.now c.args.objects.now c.requires in let same = ap length c.as_slice-object-items.ensures.value in omega (arith, long, same, c.loop-i-test.true))

pub loop-i-preserved : goal.loop-i-preserved
loop-i-preserved c =
    let values = c.args.values.now in
    let objects = c.args.objects.now in
    let i = c.loop-i.i in
    let o = c.object-item.result in
    let long = same_length Is values objects c.requires in
    let here : i < length objects = (let same = ap length c.as_slice-object-items.ensures.value in omega (arith, same, c.loop-i-test.true)) in
    let is : o ≡ get_or objects i o = c.object-item.is ∙ ap (λ (xs : List Object). get_or xs i o) c.as_slice-object-items.ensures.value in
    let pair = at_place Is values objects i c.index-values-i.result o c.requires (omega (arith, long, here)) in
    let form = c.in_ok-copy-2.ensures ∙ c.index-values-i.is ∙ pair.0 ∙ ap object_form (sym is) in
    let more : map stored (take (i + 1) objects) ≡ map stored (take i objects) ++ stored o ∷ [] =
    ap (map stored) (take_more objects i o here) ∙ map-append stored (take i objects) _ ∙ ap (λ (x : Object). map stored (take i objects) ++ stored x ∷ []) (sym is) in
    c.in_ok-push.ensures.ok ∙ ap (λ all. all ++ (c.in_ok-copy.field-0, c.in_ok-copy-2.field-0) ∷ []) c.loop-i.invariant
    ∙ (λ j. map stored (take i objects) ++ (c.in_ok-copy.ensures j, form j) ∷ []) ∙ sym more
