use Rattle.rs_grammar.specs.Grammar.{Printing}
use Rattle.rs_grammar.specs.Parses.{r-nt, r-no_nt, r-seq, r-first, r-second}
use Rattle.rs_reader.proofs.Exits.{passes, read}
use Rattle.rs_parse.proofs.statement.printing.Goals as goal

pub returns-in_err-expect : goal.returns-in_err-expect
returns-in_err-expect c = passes c.from_residual.result c.from_residual.ensures.1 c.in_err-expect.ensures (λ r. r-no_nt {n = Printing} (r-first r))

pub returns-in_err-expect-2 : goal.returns-in_err-expect-2
returns-in_err-expect-2 c = passes c.from_residual-in_err-expect-2.result c.from_residual-in_err-expect-2.ensures.1 c.in_err-expect-2.ensures (λ r. r-no_nt {n = Printing} (r-second c.in_ok-expect.ensures.is (r-first r)))

pub returns-in_err-expect-3 : goal.returns-in_err-expect-3
returns-in_err-expect-3 c = passes c.from_residual-in_err-expect-3.result c.from_residual-in_err-expect-3.ensures.1 c.in_err-expect-3.ensures (λ r. r-no_nt {n = Printing} (r-second c.in_ok-expect.ensures.is (r-second c.in_ok-expect-2.ensures.is (r-first r))))

pub returns-in_err-expect-4 : goal.returns-in_err-expect-4
returns-in_err-expect-4 c = passes c.from_residual-in_err-expect-4.result c.from_residual-in_err-expect-4.ensures.1 c.in_err-expect-4.ensures (λ r. r-no_nt {n = Printing} (r-second c.in_ok-expect.ensures.is (r-second c.in_ok-expect-2.ensures.is (r-second c.in_ok-expect-3.ensures.is (r-first r)))))

pub returns-in_err-expect-5 : goal.returns-in_err-expect-5
returns-in_err-expect-5 c = passes c.from_residual-in_err-expect-5.result c.from_residual-in_err-expect-5.ensures.1 c.in_err-expect-5.ensures (λ r. r-no_nt {n = Printing} (r-second c.in_ok-expect.ensures.is (r-second c.in_ok-expect-2.ensures.is (r-second c.in_ok-expect-3.ensures.is (r-second c.in_ok-expect-4.ensures.is (r-first r))))))

pub returns-in_err-value : goal.returns-in_err-value
returns-in_err-value c = passes c.from_residual-in_err-value.result c.from_residual-in_err-value.ensures.1 c.in_err-value.ensures (λ r. r-no_nt {n = Printing} (r-second c.in_ok-expect.ensures.is (r-second c.in_ok-expect-2.ensures.is (r-second c.in_ok-expect-3.ensures.is (r-second c.in_ok-expect-4.ensures.is (r-second c.in_ok-expect-5.ensures.is (r-first r)))))))

pub returns-in_err-expect-6 : goal.returns-in_err-expect-6
returns-in_err-expect-6 c = passes c.from_residual-in_err-expect-6.result c.from_residual-in_err-expect-6.ensures.1 c.in_err-expect-6.ensures (λ r. r-no_nt {n = Printing} (r-second c.in_ok-expect.ensures.is (r-second c.in_ok-expect-2.ensures.is (r-second c.in_ok-expect-3.ensures.is (r-second c.in_ok-expect-4.ensures.is (r-second c.in_ok-expect-5.ensures.is (r-second c.in_ok-value.ensures.is (r-first r))))))))

pub returns-in_err-expect-7 : goal.returns-in_err-expect-7
returns-in_err-expect-7 c = passes c.from_residual-in_err-expect-7.result c.from_residual-in_err-expect-7.ensures.1 c.in_err-expect-7.ensures (λ r. r-no_nt {n = Printing} (r-second c.in_ok-expect.ensures.is (r-second c.in_ok-expect-2.ensures.is (r-second c.in_ok-expect-3.ensures.is (r-second c.in_ok-expect-4.ensures.is (r-second c.in_ok-expect-5.ensures.is (r-second c.in_ok-value.ensures.is (r-second c.in_ok-expect-6.ensures.is r))))))))

pub returns : goal.returns
returns c = read (r-nt {n = Printing} {x = (c.in_ok-expect.field-0, (c.in_ok-expect-2.field-0, (c.in_ok-expect-3.field-0, (c.in_ok-expect-4.field-0, (c.in_ok-expect-5.field-0, (c.in_ok-value.value, (c.in_ok-expect-6.field-0, c.in_ok-expect-7.field-0)))))))} (r-seq c.in_ok-expect.ensures.is (r-seq c.in_ok-expect-2.ensures.is (r-seq c.in_ok-expect-3.ensures.is (r-seq c.in_ok-expect-4.ensures.is (r-seq c.in_ok-expect-5.ensures.is (r-seq c.in_ok-value.ensures.is (r-seq c.in_ok-expect-6.ensures.is c.in_ok-expect-7.ensures.is))))))))
