use Rattle.rs_grammar.specs.Grammar.{Binding}
use Rattle.rs_grammar.specs.Parses.{r-nt, r-no_nt, r-seq, r-first, r-second}
use Rattle.rs_reader.proofs.Exits.{passes, read_as}
use Rattle.rs_parse.proofs.statement.binding.Goals as goal

pub returns-in_err-expect : goal.returns-in_err-expect
returns-in_err-expect c = passes c.from_residual.result c.from_residual.ensures.1 c.in_err-expect.ensures (λ r. r-no_nt {n = Binding} (r-first r))

pub returns-in_err-name : goal.returns-in_err-name
returns-in_err-name c = passes c.from_residual-in_err-name.result c.from_residual-in_err-name.ensures.1 c.in_err-name.ensures (λ r. r-no_nt {n = Binding} (r-second c.in_ok-expect.ensures.is (r-second c.optional_token-mutable.ensures.is (r-first r))))

pub returns-in_err-typ : goal.returns-in_err-typ
returns-in_err-typ c = passes c.from_residual-in_err-typ.result c.from_residual-in_err-typ.ensures.1 c.in_err-typ.ensures (λ r. r-no_nt {n = Binding} (r-second c.in_ok-expect.ensures.is (r-second c.optional_token-mutable.ensures.is (r-second c.in_ok-name.ensures.is (r-first r)))))

pub returns-in_err-expect-2 : goal.returns-in_err-expect-2
returns-in_err-expect-2 c = passes c.from_residual-in_err-expect-2.result c.from_residual-in_err-expect-2.ensures.1 c.in_err-expect-2.ensures (λ r. r-no_nt {n = Binding} (r-second c.in_ok-expect.ensures.is (r-second c.optional_token-mutable.ensures.is (r-second c.in_ok-name.ensures.is (r-second c.in_ok-typ.ensures.is (r-first r))))))

pub returns-in_err-value : goal.returns-in_err-value
returns-in_err-value c = passes c.from_residual-in_err-value.result c.from_residual-in_err-value.ensures.1 c.in_err-value.ensures (λ r. r-no_nt {n = Binding} (r-second c.in_ok-expect.ensures.is (r-second c.optional_token-mutable.ensures.is (r-second c.in_ok-name.ensures.is (r-second c.in_ok-typ.ensures.is (r-second c.in_ok-expect-2.ensures.is (r-first r)))))))

pub returns-in_err-expect-3 : goal.returns-in_err-expect-3
returns-in_err-expect-3 c = passes c.from_residual-in_err-expect-3.result c.from_residual-in_err-expect-3.ensures.1 c.in_err-expect-3.ensures (λ r. r-no_nt {n = Binding} (r-second c.in_ok-expect.ensures.is (r-second c.optional_token-mutable.ensures.is (r-second c.in_ok-name.ensures.is (r-second c.in_ok-typ.ensures.is (r-second c.in_ok-expect-2.ensures.is (r-second c.in_ok-value.ensures.is r)))))))

pub returns : goal.returns
returns c = read_as (c.in_ok-bound.ensures c.in_ok-expect.field-0 c.in_ok-expect-2.field-0 c.in_ok-expect-3.field-0) (r-nt {n = Binding} {x = (c.in_ok-expect.field-0, (c.optional_token-mutable.result, (c.in_ok-name.name, (c.in_ok-typ.typ, (c.in_ok-expect-2.field-0, (c.in_ok-value.value, c.in_ok-expect-3.field-0))))))} (r-seq c.in_ok-expect.ensures.is (r-seq c.optional_token-mutable.ensures.is (r-seq c.in_ok-name.ensures.is (r-seq c.in_ok-typ.ensures.is (r-seq c.in_ok-expect-2.ensures.is (r-seq c.in_ok-value.ensures.is c.in_ok-expect-3.ensures.is)))))))
