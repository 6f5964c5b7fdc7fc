use Rattle.range_laws.proofs.Objects.{each_object}
use Rattle.range_laws.proofs.forms.objects_fit.Goals as goal

pub returns : goal.returns
returns c krate level values bounded are = each_object c.code_is_right.ensures.length c.code_is_right.ensures.relocs krate level values bounded (c.constants_fit.ensures krate values bounded are)
