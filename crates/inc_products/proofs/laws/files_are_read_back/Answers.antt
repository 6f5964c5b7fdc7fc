use Rattle.std.proofs.Common.{refl}
use Rattle.inc_products.specs.Saved.{files_of}
use Rattle.inc_products.proofs.Inverse.{one_start}
use Rattle.inc_products.proofs.laws.files_are_read_back.Goals as goal

pub returns : goal.returns
returns c h nodes values graph saved came = one_start h (files_of h nodes values) c.files_differ.ensures.graph c.files_differ.ensures.cache nodes values (record { graph = graph; saved = saved; whole = refl }) came
