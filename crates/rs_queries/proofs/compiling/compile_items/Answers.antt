use Rattle.std.proofs.Common.{◌≡◌, ap, ◌∙◌, map, length, refl, ℕ, List, Bool, true, false}
use Rattle.std.specs.Prelude.{Some, None, if◌then◌else◌}
use Rattle.std.specs.Option.{option_map}
use Rattle.rs_tree.specs.declared.place.Place.{Place}
use Rattle.rs_lines.specs.Lines.{has_error, printed_all}
use Rattle.rs_units.specs.Units.{units_of}
use Rattle.rs_queries.specs.Built.{consts_of, form_of, objects_in, output_of}
use Rattle.rs_queries.specs.Diagnosed.{calls_of, own_lines}
use Rattle.rs_queries.proofs.compiling.compile_items.Goals as goal

chosen : {A B : Type 0} (f : A → B) (wrong : Bool) (a : A) → option_map f (if wrong then None else Some a) ≡ (if wrong then None else Some (f a))
chosen f true a = refl
chosen f false a = refl

pub returns : goal.returns
returns c =
    let k = c.in_ok-known.known in
    let index = c.args.index.now in
    let forms = map (form_of c.args.level k.sigs (consts_of k.constants k.values.items)) k.answered.items in
    let output = λ (us : List (List ℕ)) (cs : List (Place × List Place)). output_of (objects_in index.items cs forms us) in
    record {
      is = record {
        known = k;
        are = c.in_ok-known.ensures;
        says = c.in_ok-diags.ensures ∙ ap printed_all c.in_ok-checked.ensures.lines;
        units = c.len.ensures.value ∙ ap length c.in_ok-units.ensures;
        built = c.in_ok-built.ensures.is ∙ ap (λ us. option_map (output us) c.in_ok-checked.checked.calls) (c.as_slice.ensures.value ∙ c.in_ok-units.ensures)
            ∙ ap (option_map (output (units_of index))) c.in_ok-checked.ensures.calls
            ∙ chosen (output (units_of index)) (has_error (own_lines index.items k.sigs k.constants k.values.items k.answered.items)) (map (calls_of index.items) k.answered.items);
      };
      emitted = c.in_ok-built.ensures.emitted;
    }
