use Rattle.inc_proto.specs.LegalLaws.{other_keeps_view, others_keep_view, others_keep_may, view_of-by}
use Rattle.inc_proto.proofs.legal_laws.others_change_no_view.Goals as goal

pub returns : goal.returns
returns c = record { one = other_keeps_view; many = others_keep_view; may = others_keep_may; own = view_of-by }
