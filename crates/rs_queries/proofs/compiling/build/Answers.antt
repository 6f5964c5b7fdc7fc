use Rattle.std.proofs.Common.{ap, sym, ◌∙◌, map, length}
use Rattle.std.proofs.lemmas.List.{length-map}
use Rattle.inc_base.specs.Meters.{raised}
use Rattle.rs_emit.specs.Objects.{object_of}
use Rattle.rs_queries.specs.declared.compiled.Built.{Built}
use Rattle.rs_queries.specs.Built.{consts_of, form_of, members_in, objects_in, output_of, stored}
use Rattle.rs_queries.proofs.compiling.build.Goals as goal

pub returns : goal.returns
returns c =
    let k = c.args.known.now in
    let items = c.args.index.now.items in
    let consts = c.in_ok-consts.ensures ∙ (λ j. consts_of (c.as_slice.ensures.value j) (c.deref.ensures.value j)) in
    let forms = c.in_ok-forms.ensures ∙ (λ j. map (form_of c.args.level k.sigs (consts j)) (c.deref-2.ensures.value j)) in
    let objects = c.in_ok-objects.objects in
    let long = ap (λ (b : Built). length b.objects) c.in_ok-built.ensures ∙ length-map objects stored ∙ ap length c.in_ok-objects.ensures.makes
    ∙ length-map c.args.units.now (λ u. object_of u (members_in items c.args.calls.now c.as_slice-2.result.now u)) in
    record {
      is = c.in_ok-built.ensures ∙ ap output_of (c.in_ok-objects.ensures.makes ∙ ap (λ fs. objects_in items c.args.calls.now fs c.args.units.now) (c.as_slice-2.ensures.value ∙ forms));
      emitted = c.in_ok-objects.ensures.emitted ∙ ap (raised c.args.meter.now) (sym long);
    }
