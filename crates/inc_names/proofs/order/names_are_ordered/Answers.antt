use Rattle.inc_names.specs.OrderLaws.{newer_is_greater, one_is_newer, newer_once, newer_through}
use Rattle.inc_names.proofs.order.names_are_ordered.Goals as goal

pub returns : goal.returns
returns c = record { greater = newer_is_greater; total = one_is_newer; one = newer_once; through = newer_through }
