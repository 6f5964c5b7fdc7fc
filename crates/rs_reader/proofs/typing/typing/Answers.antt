use Rattle.rs_grammar.specs.Grammar.{Nt, Typing}
use Rattle.rs_grammar.specs.Parses.{r-nt, r-no_nt, r-seq, r-first, r-second}
use Rattle.rs_reader.specs.Reading.{Reading}
use Rattle.rs_reader.proofs.Exits.{passes, hands, as_is}
use Rattle.rs_reader.proofs.typing.typing.Goals as goal

pub returns-in_err-expect : goal.returns-in_err-expect
returns-in_err-expect c = passes c.from_residual.result c.from_residual.ensures.1 c.in_err-expect.ensures (λ r. r-no_nt {n = Typing} (r-first r))

pub returns : goal.returns
returns c = as_is (λ q. Reading (Nt Typing) c.args.tokens.now q c.type_name.new.tokens) c.type_name.result
    (hands {h = (Nt Typing)} c.type_name.result c.type_name.ensures (λ x. x) (λ r. r-no_nt {n = Typing} (r-second c.in_ok-expect.ensures.is r)) (λ x r. r-nt {n = Typing} {x = (c.in_ok-expect.field-0, x)} (r-seq c.in_ok-expect.ensures.is r)))
