use Rattle.inc_wire.specs.Narrow.{read_back}
use Rattle.inc_wire.proofs.laws.form_is_read_back.Goals as goal

pub returns : goal.returns
returns g c = λ value read fits is. read_back g.T.Read.fits g.T.Read.form value read fits is
