use Rattle.std.proofs.Common.{ap, sym, ◌∙◌}
use Rattle.std.proofs.lemmas.Result.{IfOk-weaker}
use Rattle.inc_base.specs.Meters.{raised}
use Rattle.rs_tree.specs.declared.tree.Crate.{Crate}
use Rattle.rs_text.specs.declared.fault.TextFault.{TextFault}
use Rattle.rs_queries.specs.Built.{IsFaultCompiled, IsTreeCompiled, emitted_by}
use Rattle.rs_queries.specs.Reading.{what_was_read}
use Rattle.rs_queries.proofs.Exact.{of_fault, of_tree}
use Rattle.rs_queries.proofs.compiling.compile_read.Goals as goal

pub returns-in-Tree : goal.returns-in-Tree
returns-in-Tree c = record {
  is = λ bytes r. IfOk-weaker c.compile_tree.result _ _ (λ out h. of_tree bytes (λ (f : TextFault). IsFaultCompiled f out) (λ (krate : Crate). IsTreeCompiled krate c.args.compiler.level out) c.in-Tree.tree (r ∙ ap what_was_read c.in-Tree.is) h) c.compile_tree.ensures.is;
  emitted = c.compile_tree.ensures.emitted;
}

pub returns-in-Fault : goal.returns-in-Fault
returns-in-Fault c =
    let old = c.args.meter.now in
    record {
      is = λ bytes r. IfOk-weaker c.compile_fault.result _ _ (λ out h. of_fault bytes (λ (f : TextFault). IsFaultCompiled f out) (λ (krate : Crate). IsTreeCompiled krate c.args.compiler.level out) c.in-Fault.fault (r ∙ ap what_was_read c.in-Fault.is) h) c.compile_fault.ensures;
      emitted = IfOk-weaker c.compile_fault.result _ _ (λ out h. sym (c.rises_add_up.ensures.none old) ∙ ap (λ b. raised old (emitted_by b)) (sym h.built)) c.compile_fault.ensures;
    }
