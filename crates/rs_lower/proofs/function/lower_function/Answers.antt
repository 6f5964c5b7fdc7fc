use Rattle.std.proofs.Common.{◌+◌, ◌≤◌, ap, refl, arith, rules}
use Rattle.std.proofs.lemmas.Bool.Decides.{nat_tests}
use Rattle.std.proofs.lemmas.Grind.{common_steps}
use Rattle.rs_tree.specs.Plain.{statements, optional}
use Rattle.rs_lower.specs.declared.expr.Lowerer.{Lowerer}
use Rattle.rs_lower.specs.Counts.{labels_in, places_all}
use Rattle.rs_lower.proofs.Reducing.{fewer_places_all}
use Rattle.rs_lower.proofs.Whole.{whole}
use Rattle.rs_lower.proofs.function.lower_function.Goals as goal

pub departure-requires : goal.departure-requires
departure-requires c =
    let few : places_all (statements c.args.stmts.now) + labels_in (optional c.args.tail.now) ≤ 65535 = first_of (search rules, grind (arith, nat_tests), grind (arith, common_steps)) in
    omega (
      arith,
      few,
      ap (λ (x : Lowerer). x.labels) (c.in_ok-statements.ensures {u = tt}),
      ap (λ (x : Lowerer). x.labels) (c.in_ok-params.ensures {u = tt}),
      fewer_places_all c.params.new.self.meanings.now c.params.new.self.answers (statements c.args.stmts.now),
    )

pub returns : goal.returns
returns c =
    whole c.args.inline c.args.params.now (statements c.args.stmts.now) (optional c.args.tail.now) c.args.found.now _ c.params.new.self c.statements.new.self c.departure.new.self
    c.new.ensures refl refl c.new-2.ensures c.new-3.ensures (c.in_ok-params.ensures {u = tt}) (c.in_ok-statements.ensures {u = tt}) (c.in_ok-departure.ensures {u = tt})
