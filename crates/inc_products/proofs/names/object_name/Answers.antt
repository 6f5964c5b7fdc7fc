use Rattle.std.proofs.Common.{◌∙◌, sym, subst}
use Rattle.inc_base.specs.Texts.{IsLabel}
use Rattle.inc_products.proofs.Labels.{object_label}
use Rattle.inc_products.proofs.names.object_name.Goals as goal

pub label-requires : goal.label-requires
label-requires c = subst IsLabel (sym (c.as_slice.ensures.value ∙ c.in_ok-text.ensures)) (object_label c.args.unit.now c.requires)
