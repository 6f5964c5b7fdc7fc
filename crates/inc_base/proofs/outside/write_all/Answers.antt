use Rattle.std.proofs.Common.{rules, arith, ◌≡◌, ◌-◌, ◌∙◌, length, take, drop}
use Rattle.std.proofs.lemmas.Grind.{common_steps}
use Rattle.std.proofs.lemmas.Result.{err_from_is_err_and}
use Rattle.std.proofs.Math.Seq.{take-add}
use Rattle.inc_base.proofs.Appending.{appends_twice, appends_kept}
use Rattle.inc_base.proofs.outside.write_all.Goals as goal

pub loop-at-preserved : goal.loop-at-preserved
loop-at-preserved g c =
    let rest : take (length c.args.bytes.now - c.loop-at.at) (drop c.loop-at.at c.args.bytes.now) ≡ drop c.loop-at.at c.args.bytes.now =
    grind (arith, common_steps) in
    let bytes = rw rest at c.in_ok-at.ensures.bytes in record {
      within = search rules;
      appended = rw (take-add c.loop-at.at c.in_ok-at.field-0 c.args.bytes.now) (appends_twice _ _ _ _ _ c.loop-at.invariant.appended bytes);
      telling = c.in_ok-at.ensures.tells ∙ c.loop-at.invariant.telling;
      later = search rules;
    }

pub returns-in_err-at-clause-err : goal.returns-in_err-at-clause-err
returns-in_err-at-clause-err g c = let p = err_from_is_err_and c.from_residual.result c.from_residual.ensures.1 in rw p.1 (record {
  taken = take c.loop-at.at c.args.bytes.now;
  rest = drop c.loop-at.at c.args.bytes.now;
  front = grind (arith, common_steps);
  appends = appends_kept _ _ _ _ c.loop-at.invariant.appended c.in_err-at.ensures.bytes;
})

pub returns-in_err-at-clause-tells : goal.returns-in_err-at-clause-tells
returns-in_err-at-clause-tells g c = c.in_err-at.ensures.tells ∙ c.loop-at.invariant.telling
