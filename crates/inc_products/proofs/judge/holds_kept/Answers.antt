use Rattle.inc_products.proofs.Reading.{cache_read, holds_none, holds_there}
use Rattle.std.proofs.Common.{None, Some}
use Rattle.inc_products.proofs.judge.holds_kept.Goals as goal

pub returns-in-Ok-Some : goal.returns-in-Ok-Some
returns-in-Ok-Some c =
    let bytes = c.args.bytes.now in
    let header = c.in-Ok-Some.header in
    let values = c.in-Ok-Some.values in
    holds_there bytes c.args.nodes.now header values c.are_kept-are.result (cache_read bytes c.as_slice.result.now c.decode_cache.result c.in-Ok-Some.field-0 (Some (header, values)) c.as_slice.ensures.value c.in-Ok-Some.is c.in-Ok-Some.field-0-is c.decode_cache.ensures) c.are_kept-are.ensures

pub returns-in-Ok-None : goal.returns-in-Ok-None
returns-in-Ok-None c =
    let bytes = c.args.bytes.now in
    holds_none bytes c.args.nodes.now (cache_read bytes c.as_slice.result.now c.decode_cache.result c.in-Ok-None.field-0 None c.as_slice.ensures.value c.in-Ok-None.is c.in-Ok-None.field-0-is c.decode_cache.ensures)
