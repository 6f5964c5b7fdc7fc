use Rattle.std.proofs.Common.{◌∙◌, ap}
use Rattle.std.specs.Prelude.{unwrap_or}
use Rattle.rs_link.proofs.Tables.{number_small}
use Rattle.rs_link.proofs.code.number.Goals as goal

pub returns-in-Some : goal.returns-in-Some
returns-in-Some c = λ all few has.
    (let found = c.in-Some.ensures.value ∙ has c.args.symbol.now in
    c.small.ensures (number_small c.args.symbol.now c.in-Some.number.now all few found) ∙ ap (λ o. unwrap_or o 0) found)
