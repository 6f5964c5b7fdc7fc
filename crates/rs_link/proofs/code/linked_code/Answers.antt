use Rattle.std.proofs.Common.{◌≤◌, ◌+◌, ◌-◌, ℕ, ◌++◌, List, length, take, drop, length-append, length-take, length-drop, sym, ap, ◌∙◌, refl, arith}
use Rattle.inc_wire.specs.Forms.{number_form}
use Rattle.inc_wire.specs.FormLaws.{length-number_form}
use Rattle.std.specs.Prelude.{unwrap_or}
use Rattle.rs_link.specs.Symbols.{number_of}
use Rattle.rs_link.specs.Image.{with_number}
use Rattle.rs_link.proofs.Tables.{room, patched, linked_more, rest_relocs}
use Rattle.rs_link.proofs.code.linked_code.Goals as goal

pub loop-reloc-preserved : goal.loop-reloc-preserved
loop-reloc-preserved c =
    let code = c.args.code.now in
    let rs = c.args.relocs.now in
    let k = c.loop-reloc.reloc-index in
    let r = c.reloc-item.result in
    let from = c.loop-reloc.from in
    let front = c.loop-reloc.linked in
    let slice = take (r.0 - from) (drop from code) in
    let are = rest_relocs from code rs k r c.loop-reloc-test.true c.reloc-item.is c.loop-reloc.invariant.rest in
    let fits = room code from r.0 are.0 in
    let le : from ≤ r.0 = are.0.behind in
    let new = c.in_ok-put_number.ensures.ok ∙ ap (λ (xs : List ℕ). xs ++ number_form 4 c.from.result) c.in_ok-append.ensures.ok in
    record {
      within = fits;
      rest = are.1;
      long = omega (arith, ap length new, length-append (front ++ slice) (number_form 4 c.from.result), length-append front slice, length-number_form 4 c.from.result, length-take (r.0 - from) (drop from code), length-drop from code, c.loop-reloc.invariant.long, fits, le);
      so_far = λ all few has.
          (let number = c.from.ensures ∙ c.number.ensures all few has ∙ ap (λ (s : List ℕ). unwrap_or (number_of all s) 0) c.as_slice.ensures.value in
          ap (λ (xs : List ℕ). xs ++ drop (r.0 + 4) code) new
          ∙ patched front code slice from r.0 c.from.result c.loop-reloc.invariant.long le fits refl
          ∙ (λ j. with_number (c.loop-reloc.invariant.so_far all few has j) r.0 (number j))
          ∙ sym (linked_more all code rs k r c.loop-reloc-test.true c.reloc-item.is));
    }
