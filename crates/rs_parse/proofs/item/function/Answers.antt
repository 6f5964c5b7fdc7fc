use Rattle.rs_grammar.specs.Grammar.{Function}
use Rattle.rs_grammar.specs.Parses.{r-nt, r-no_nt, r-seq, r-first, r-second}
use Rattle.rs_reader.proofs.Exits.{passes, read_as}
use Rattle.rs_parse.proofs.item.function.Goals as goal

pub returns-in_err-marker : goal.returns-in_err-marker
returns-in_err-marker c = passes c.from_residual.result c.from_residual.ensures.1 c.in_err-marker.ensures (λ r. r-no_nt {n = Function} (r-first r))

pub returns-in_err-expect : goal.returns-in_err-expect
returns-in_err-expect c = passes c.from_residual-in_err-expect.result c.from_residual-in_err-expect.ensures.1 c.in_err-expect.ensures (λ r. r-no_nt {n = Function} (r-second c.in_ok-marker.ensures.is (r-second c.optional_token-public.ensures.is (r-first r))))

pub returns-in_err-name : goal.returns-in_err-name
returns-in_err-name c = passes c.from_residual-in_err-name.result c.from_residual-in_err-name.ensures.1 c.in_err-name.ensures (λ r. r-no_nt {n = Function} (r-second c.in_ok-marker.ensures.is (r-second c.optional_token-public.ensures.is (r-second c.in_ok-expect.ensures.is (r-first r)))))

pub returns-in_err-params : goal.returns-in_err-params
returns-in_err-params c = passes c.from_residual-in_err-params.result c.from_residual-in_err-params.ensures.1 c.in_err-params.ensures (λ r. r-no_nt {n = Function} (r-second c.in_ok-marker.ensures.is (r-second c.optional_token-public.ensures.is (r-second c.in_ok-expect.ensures.is (r-second c.in_ok-name.ensures.is (r-first r))))))

pub returns-in_err-gives : goal.returns-in_err-gives
returns-in_err-gives c = passes c.from_residual-in_err-gives.result c.from_residual-in_err-gives.ensures.1 c.in_err-gives.ensures (λ r. r-no_nt {n = Function} (r-second c.in_ok-marker.ensures.is (r-second c.optional_token-public.ensures.is (r-second c.in_ok-expect.ensures.is (r-second c.in_ok-name.ensures.is (r-second c.in_ok-params.ensures.is (r-first r)))))))

pub returns-in_err-inner : goal.returns-in_err-inner
returns-in_err-inner c = passes c.from_residual-in_err-inner.result c.from_residual-in_err-inner.ensures.1 c.in_err-inner.ensures (λ r. r-no_nt {n = Function} (r-second c.in_ok-marker.ensures.is (r-second c.optional_token-public.ensures.is (r-second c.in_ok-expect.ensures.is (r-second c.in_ok-name.ensures.is (r-second c.in_ok-params.ensures.is (r-second c.in_ok-gives.ensures.is r)))))))

pub returns : goal.returns
returns c = read_as (c.in_ok-function_of.ensures c.in_ok-expect.field-0) (r-nt {n = Function} {x = (c.in_ok-marker.marker, (c.optional_token-public.result, (c.in_ok-expect.field-0, (c.in_ok-name.name, (c.in_ok-params.params, (c.in_ok-gives.gives, c.in_ok-inner.inner))))))} (r-seq c.in_ok-marker.ensures.is (r-seq c.optional_token-public.ensures.is (r-seq c.in_ok-expect.ensures.is (r-seq c.in_ok-name.ensures.is (r-seq c.in_ok-params.ensures.is (r-seq c.in_ok-gives.ensures.is c.in_ok-inner.ensures.is)))))))
