use Rattle.std.proofs.Common.{◌≡◌, sym, ◌∙◌}
use Rattle.rs_tree.specs.Plain.{definition, optional, statements, Func}
use Rattle.rs_tree.specs.Equations.{is_func}
use Rattle.rs_check.proofs.Wholes.{item_end}
use Rattle.rs_check.proofs.body.Checker.item.Goals as goal

pub returns-in_ok-unused-in-Func : goal.returns-in_ok-unused-in-Func
returns-in_ok-unused-in-Func c =
    let f = c.in-Func in
    let params = c.as_slice-params.result.now in
    let stmts = c.as_slice-stmts.result.now in
    let is : definition c.args.item.now.body ≡ Func f.inline params f.gives (statements stmts) (optional f.tail) =
    is_func c.args.item.now.body f.inline f.params f.gives f.stmts f.tail f.is ∙ (λ i. Func f.inline (sym c.as_slice-params.ensures.value i) f.gives (statements (sym c.as_slice-stmts.ensures i)) (optional f.tail)) in
    item_end f.inline params f.gives (statements stmts) (optional f.tail) (definition c.args.item.now.body) c.args.item.now.at c.args.item.now.name c.args.value
    c.args.self.now c.main.new.self c.params.new.self c.statements.new.self c.tail.new.self c.end.new.self c.unused.new.self is c.requires.begins
    (c.in_ok-main-in-Func.ensures {u = tt}) (c.in_ok-params-in-Func.ensures {u = tt}) (c.in_ok-statements-in-Func.ensures {u = tt}) (c.in_ok-tail-in-Func.ensures {u = tt}) (c.in_ok-end-in-Func.ensures {u = tt}) (c.in_ok-unused-in-Func.ensures {u = tt})
