use Rattle.range_laws.proofs.Formed.{each_form}
use Rattle.range_laws.proofs.forms.forms_fit.Goals as goal

pub returns : goal.returns
returns c krate level values bounded are = each_form krate level values bounded (c.constants_fit.ensures krate values bounded are)
