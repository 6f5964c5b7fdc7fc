use Rattle.std.proofs.Common.{ap, sym, ◌∙◌, map, fold, Bool}
use Rattle.std.specs.Prelude.{Some, None, if◌then◌else◌}
use Rattle.rs_lines.specs.Lines.{note}
use Rattle.rs_queries.specs.Diagnosed.{calls_of, dead_lines, own_lines}
use Rattle.rs_queries.proofs.Tellings.{errors_of, with_error, without_error}
use Rattle.rs_queries.proofs.checked.check_tree.Goals as goal

pub returns-then-has_error : goal.returns-then-has_error
returns-then-has_error c =
    let items = c.args.index.now.items in
    let k = c.args.known.now in
    let own = own_lines items k.sigs k.constants k.values.items k.answered.items in
    let errors = sym c.has_error.ensures ∙ c.if-has_error.true in
    record {
      lines = with_error own (dead_lines items k.answered.items) c.in_ok-lines.lines c.in_ok-lines.ensures errors;
      calls = ap (λ (b : Bool). if b then None else Some (map (calls_of items) k.answered.items)) (errors_of own c.in_ok-lines.lines Bool.true c.in_ok-lines.ensures errors);
    }

pub returns : goal.returns
returns c =
    let items = c.args.index.now.items in
    let k = c.args.known.now in
    let own = own_lines items k.sigs k.constants k.values.items k.answered.items in
    let errors = sym c.has_error.ensures ∙ c.if-has_error.false in
    let lines = c.in_ok-used.ensures.lines ∙ ap (λ all. fold note c.in_ok-lines.lines (dead_lines items all)) c.deref.ensures.value in
    record {
      lines = without_error own (dead_lines items k.answered.items) c.in_ok-lines.lines c.in_ok-used.used.lines c.in_ok-lines.ensures errors lines;
      calls = c.in_ok-used.ensures.calls ∙ ap (λ all. Some (map (calls_of items) all)) c.deref.ensures.value
          ∙ ap (λ (b : Bool). if b then None else Some (map (calls_of items) k.answered.items)) (errors_of own c.in_ok-lines.lines Bool.false c.in_ok-lines.ensures errors);
    }
